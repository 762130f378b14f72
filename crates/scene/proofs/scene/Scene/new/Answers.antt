use Rattle.std.proofs.Common.{◌≡◌, is_ok, Ok, Err, Result, sym, refl, ap, ◌∙◌}
use Rattle.std.specs.Result.{result_map_both}
use Rattle.leaves.specs.Made.{point_in_range}
use Rattle.scene.proofs.scene.Scene.new.Goals as goal

ok_mapped : {T U E D : Type 0} (f : T → U) (g : E → D) (r : Result T E) → is_ok (result_map_both f g r) ≡ is_ok r
ok_mapped f g (Ok x) = refl
ok_mapped f g (Err e) = refl

pub unwrap-point-requires : goal.unwrap-point-requires
unfolding point_in_range
unwrap-point-requires c = sym (ok_mapped _ _ c.new.result) ∙ ap is_ok c.new.ensures.value
