-- Where what a node takes begins, as one node more is laid down.
use Rattle.std.proofs.Common.{◌≡◌, ℕ, ◌+◌, ◌<◌, ◌≤◌, List, length, sym, ap, ◌∙◌, arith}
use Rattle.scene.specs.declared.node.Join.TheVariants.{Unite}
use Rattle.scene.specs.declared.node.Node.{Node}
use Rattle.scene.specs.declared.node.Node.TheVariants.{Joined}
use Rattle.scene.specs.Standing.{with_node, bodies_after, before_last, IsStart}
use Rattle.scene.proofs.FirstEntries.{fold_first-kept, fold_first-push}
use Rattle.std.proofs.Math.ListN.{set}

module _ (ns : List Node) (n : ℕ) (x : Node) where
  pub start_kept : (k s : ℕ) → k < n → IsStart ns k s → IsStart (set ns n x) k s
  start_kept k s l h = record {
    earlier = h.earlier;
    before =
        fold_first-kept with_node _ (Joined Unite) ns n x s (omega (arith, h.earlier)) ∙ h.before ∙ sym (ap before_last (fold_first-kept with_node _ (Joined Unite) ns n x (k + 1) (omega arith)));
  }

  pub start_pushed : (s : ℕ) → n < length ns → s ≤ n
      → bodies_after ns s ≡ before_last (with_node x (bodies_after ns n)) → IsStart (set ns n x) n s
  start_pushed s room earlier before = record {
    earlier = earlier;
    before =
        fold_first-kept with_node _ (Joined Unite) ns n x s earlier ∙ before ∙ sym (ap before_last (fold_first-push with_node _ (Joined Unite) ns n x room));
  }
