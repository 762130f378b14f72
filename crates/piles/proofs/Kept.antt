-- Each layer gives a lawful body from lawful bodies.
use Rattle.std.proofs.Common.{◌≡◌, ℕ, suc, ◌-◌, ◌<◌, ◌≤◌, min, true, leb, ℤ, ◌+ℤ◌, ◌-ℤ◌, nat_abs, sym, ap, ◌∙◌, ⊎_elim, arith}
use borrow.Author.Differences.{ints}
use Rattle.std.proofs.lemmas.Bool.{false≢true, leb-true, cases_lt, and_parts, and_from, or_cases, or_left, or_right, cond_both}
use Rattle.lattice.specs.Space.{dist, norm, In, back, onward}
use Rattle.lattice.specs.declared.Point.{Point}
use Rattle.lattice.proofs.Distance.{dist_back, dist_triangle, in_less}
use Rattle.lattice.proofs.Toward.{go, dist_go, go_dist}
use Rattle.solid.specs.Body.{Body, Lawful}
use Rattle.piles.specs.Layers.{unite, meet, translate, shift, thicken_exact, thicken, cap}
use Rattle.piles.proofs.Near.{near_found, near_there}

module _ (a b : Body) where
  -- within the smaller reach, both can be asked
  in_left : (p : Point) → In (min a.reach b.reach) p → In a.reach p
  in_left p i = in_less (min a.reach b.reach) a.reach p (omega arith) i

  in_right : (p : Point) → In (min a.reach b.reach) p → In b.reach p
  in_right p i = in_less (min a.reach b.reach) b.reach p (omega arith) i

  module _ (la : Lawful a) (lb : Lawful b) where
    pub unite_lawful : Lawful (unite a b)
    unite_lawful = record {
      near_enough = omega (arith, la.near_enough);
      small = λ p i. omega (arith, la.small p (in_left p i));
      inside = λ p i m. either p m
          (λ e. omega (arith, la.inside p (in_left p i) e))
          (λ e. omega (arith, lb.inside p (in_right p i) e));
      outside = λ p i z. nearer p
          (λ h. or_left (a.member p) (b.member p) (la.outside p (in_left p i) (omega arith)))
          (λ h. or_right (a.member p) (b.member p) (lb.outside p (in_right p i) (omega arith)));
      none_nearer = λ p q i m. either q m
          (λ e. omega (arith, la.none_nearer p q (in_left p i) e))
          (λ e. omega (arith, lb.none_nearer p q (in_right p i) e));
      slope = λ p q i j. omega (arith, la.slope p q (in_left p i) (in_left q j), lb.slope p q (in_right p i) (in_right q j));
      touched = λ x p i.
          let y = and_parts a.exact b.exact x in
          nearer p
          (λ h. nearest p a (in_left p i) la y.0 (λ q. or_left (a.member q) (b.member q)) (omega arith))
          (λ h. nearest p b (in_right p i) lb y.1 (λ q. or_right (a.member q) (b.member q)) (omega arith));
    }
      where
        -- a member of the union is one of a or of b
        either : {P : Type 0} (p : Point) → (unite a b).member p ≡ true → (a.member p ≡ true → P) → (b.member p ≡ true → P) → P
        either p m f g = ⊎_elim f g (or_cases (a.member p) (b.member p) m)

        -- one of the two has the smaller clearance
        nearer : {P : Type 0} (p : Point) → (a.clear p < suc (b.clear p) → P) → (suc (b.clear p) ≤ a.clear p → P) → P
        nearer p f g = ⊎_elim f g (cases_lt (a.clear p) (suc (b.clear p)))

        -- the nearest member of that one is the nearest of the union
        nearest : (p : Point) (c : Body) → In c.reach p → Lawful c → c.exact ≡ true
            → ((q : Point) → c.member q ≡ true → (unite a b).member q ≡ true) → c.clear p ≡ (unite a b).clear p
            → (q : Point) × (((unite a b).member q ≡ true) × (dist p q ≡ (unite a b).clear p))
        nearest p c i l x f e = let t = l.touched x p i in (t.0, (f t.0 t.1.0, t.1.1 ∙ e))

    pub meet_lawful : Lawful (meet a b)
    meet_lawful = record {
      near_enough = omega (arith, la.near_enough);
      small = λ p i. omega (arith, la.small p (in_left p i), lb.small p (in_right p i));
      inside = λ p i m.
          let e = and_parts (a.member p) (b.member p) m in
          omega (arith, la.inside p (in_left p i) e.0, lb.inside p (in_right p i) e.1);
      outside = λ p i z. and_from (a.member p) (b.member p) (la.outside p (in_left p i) (omega arith)) (lb.outside p (in_right p i) (omega arith));
      none_nearer = λ p q i m.
          let e = and_parts (a.member q) (b.member q) m in
          omega (arith, la.none_nearer p q (in_left p i) e.0, lb.none_nearer p q (in_right p i) e.1);
      slope = λ p q i j. omega (arith, la.slope p q (in_left p i) (in_left q j), lb.slope p q (in_right p i) (in_right q j));
      touched = λ x. absurd (false≢true x);
    }

-- back from p by v stays in a's reach
minus_in : (r n : ℕ) (a v : ℤ) → n ≤ r → nat_abs v ≤ n → nat_abs a ≤ r - n → nat_abs (a -ℤ v) ≤ r
minus_in r n a v h k l = omega (arith, ints)

pub in_back : (r : ℕ) (v p : Point) → norm v ≤ r → In (r - norm v) p → In r (back v p)
in_back r v p h i = (
  minus_in r (norm v) p.x v.x h (omega arith) i.0,
  minus_in r (norm v) p.y v.y h (omega arith) i.1,
  minus_in r (norm v) p.z v.z h (omega arith) i.2,
)

plus_minus : (a v : ℤ) → (a +ℤ v) -ℤ v ≡ a
plus_minus a v = omega (arith, ints)

back_ahead : (v q : Point) → back v (onward v q) ≡ q
back_ahead v q = λ t. record { x = plus_minus q.x v.x t; y = plus_minus q.y v.y t; z = plus_minus q.z v.z t }

pub moved_lawful : (v : Point) (a : Body) → norm v ≤ a.reach → Lawful a → Lawful (translate v a)
moved_lawful v a h la = record {
  near_enough = omega (arith, la.near_enough);
  small = λ p i. la.small (back v p) (l p i);
  inside = λ p i m. la.inside (back v p) (l p i) m;
  outside = λ p i z. la.outside (back v p) (l p i) z;
  none_nearer = λ p q i m. omega (arith, la.none_nearer (back v p) (back v q) (l p i) m, dist_back v p q);
  slope = λ p q i j. omega (arith, la.slope (back v p) (back v q) (l p i) (l q j), dist_back v p q);
  touched = λ x p i. let t = la.touched x (back v p) (l p i) in
      (onward v t.0, (ap a.member (back_ahead v t.0) ∙ t.1.0, sym (dist_back v p (onward v t.0)) ∙ ap (dist (back v p)) (back_ahead v t.0) ∙ t.1.1));
}
  where
    l : (p : Point) → In (a.reach - norm v) p → In a.reach (back v p)
    l p i = in_back a.reach v p h i

pub shift_lawful : (v : Point) (a : Body) → Lawful a → Lawful (shift v a)
shift_lawful v a la = cond_both (leb (norm v) a.reach) (translate v a) a Lawful (λ e. moved_lawful v a (leb-true (norm v) a.reach e) la) (λ _. la)

pub thick_lawful : (h : ℕ) (a : Body) → a.exact ≡ true → Lawful a → Lawful (thicken_exact h a)
thick_lawful h a x la = record {
  near_enough = la.near_enough;
  small = λ p i. omega (arith, la.small p i);
  inside = λ p i m. let t = near_found h a.member p m in omega (arith, t.1.1, la.none_nearer p t.0 i t.1.0);
  outside = λ p i z. let t = la.touched x p i in near_there h a.member p t.0 t.1.0 (omega (arith, t.1.1));
  none_nearer = λ p q i m. let t = near_found h a.member q m in omega (arith, t.1.1, la.none_nearer p t.0 i t.1.0, dist_triangle p q t.0);
  slope = λ p q i j. omega (arith, la.slope p q i j);
  touched = λ _ p i. let t = la.touched x p i in let k = a.clear p - h in
      (go k p t.0, (near_there h a.member (go k p t.0) t.0 t.1.0 (omega (arith, t.1.1, go_dist k p t.0)), omega (arith, t.1.1, dist_go k p t.0)));
}

pub thicken_lawful : (h : ℕ) (a : Body) → Lawful a → Lawful (thicken h a)
thicken_lawful h a la = cond_both a.exact (thicken_exact h a) a Lawful (λ e. thick_lawful h a e la) (λ _. la)

pub cap_lawful : (s : ℕ) (a : Body) → 1 ≤ s → Lawful a → Lawful (cap s a)
cap_lawful s a h la = record {
  near_enough = la.near_enough;
  small = λ p i. omega (arith, la.small p i);
  inside = λ p i m. omega (arith, la.inside p i m);
  outside = λ p i z. la.outside p i (omega arith);
  none_nearer = λ p q i m. omega (arith, la.none_nearer p q i m);
  slope = λ p q i j. omega (arith, la.slope p q i j);
  touched = λ x. absurd (false≢true x);
}
