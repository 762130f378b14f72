-- What each layer makes of the bodies below it.
use Rattle.std.specs.Prelude.{ℕ, zero, suc, ◌+◌, ◌-◌, min, max, Bool, true, false, if◌then◌else◌, ◌&&◌, ◌||◌, ℤ, pos, ◌+ℤ◌, ◌-ℤ◌, nat_le}
use Rattle.lattice.specs.Space.{norm, back}
use Rattle.lattice.specs.declared.Point.{Point}
use Rattle.solid.specs.Body.{Body}

-- members of either
abbrev pub unite : Body → Body → Body
unite a b = record {
  member = λ p. a.member p || b.member p;
  reach = min a.reach b.reach;
  clear = λ p. min (a.clear p) (b.clear p);
  exact = a.exact && b.exact;
}

-- members of both
abbrev pub meet : Body → Body → Body
meet a b = record {
  member = λ p. a.member p && b.member p;
  reach = min a.reach b.reach;
  clear = λ p. max (a.clear p) (b.clear p);
  exact = false;
}

-- the body moved by v
abbrev pub translate : Point → Body → Body
translate v a = record {
  member = λ p. a.member (back v p);
  reach = a.reach - norm v;
  clear = λ p. a.clear (back v p);
  exact = a.exact;
}

-- an offset that passes the reach counts as none; making such a shift is refused
abbrev pub shift : Point → Body → Body
shift v a = if nat_le (norm v) a.reach then translate v a else a

-- does f hold at some number below n?
unfoldable pub some_below : ℕ → (ℕ → Bool) → Bool
some_below zero f = false
some_below (suc n) f = f n || some_below n f

-- the i-th of the offsets from -h on
abbrev pub offset_from : ℕ → ℕ → ℤ
offset_from h i = pos i -ℤ pos h

-- is there a point of m in the cube of offsets -h to h about p?
unfoldable pub near : ℕ → (Point → Bool) → Point → Bool
near h m p =
    some_below (h + h + 1) (λ i. some_below (h + h + 1) (λ j. some_below (h + h + 1) (λ k.
    m (record { x = p.x +ℤ offset_from h i; y = p.y +ℤ offset_from h j; z = p.z +ℤ offset_from h k }))))

-- the points that have a member of an exact body within distance h
abbrev pub thicken_exact : ℕ → Body → Body
thicken_exact h a = record {
  member = near h a.member;
  reach = a.reach;
  clear = λ p. a.clear p - h;
  exact = true;
}

-- only what is marked as exact is thickened; another body stays as it is
abbrev pub thicken : ℕ → Body → Body
thicken h a = if a.exact then thicken_exact h a else a

-- the same members, with no clearance above s
abbrev pub cap : ℕ → Body → Body
cap s a = record {
  member = a.member;
  reach = a.reach;
  clear = λ p. min s (a.clear p);
  exact = false;
}
