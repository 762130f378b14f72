-- Jobs are read back as they were written.
use Rattle.std.proofs.Common.{◌≡◌, ℕ, ◌≤◌, Bool, true, false, if◌then◌else◌, eqb, ltb, List, ◌++◌, ℤ, pos, negsuc, nat_abs, is_ok, Some, None, Ok, Err, Result, sym, refl, ap, arith, lit<, lit≤}
use Rattle.std.proofs.lemmas.Int.{ints}
use Rattle.std.proofs.lemmas.Bool.Decides.{nat_tests}
use Rattle.lattice.specs.Space.{In, IsPlacement}
use Rattle.lattice.specs.Rows.{Way, triple, row_of, row_answer}
use Rattle.lattice.specs.declared.Point.{Point}
use Rattle.march.specs.declared.view.ViewNumbers.{ViewNumbers}
use Rattle.march.specs.declared.fault.ViewFault.{ViewFault}
use Rattle.refusal.specs.Checks.{and_then}
use Rattle.march.specs.Checks.{view_answer, origin_answer, ways_answer, sizes_answer, coordinate_answer, with_range_fault, with_row_fault}
use Rattle.march.proofs.Numbers.{coordinate_passed, count_passed, row_passed}
use Rattle.refusal.specs.Ranges.{between, count_in}
use Rattle.words.specs.Reading.{point_in, is_row}
use Rattle.words.specs.Encoding.{bytes_of}
use Rattle.words.proofs.Back.{bare_back, number_in_back, row_back, point_back}
use Rattle.lattice.specs.declared.TheConstants.{LEAST_COORDINATE, MOST_COORDINATE, MOST_OFFSET}
use Rattle.march.specs.declared.view.TheConstants.{MOST_SIDE, MOST_FAR}
use Rattle.piles.specs.declared.TheConstants.{LEAST_THICKNESS, MOST_THICKNESS}
use Rattle.readers.specs.declared.job.Job.{Job}
use Rattle.readers.specs.Jobs.{rows_at, sizes_at, view_at, pile_at, job_of, job_numbers}
use Rattle.readers.specs.JobsBack.{job_words, JobsReadBack}

placement_in_range : (p : Point) → IsPlacement p → point_in LEAST_COORDINATE MOST_COORDINATE p ≡ true
placement_in_range p i = grind (arith, ints, nat_tests)

-- a chain of checks that is passed has each link passed
linked : {A B : Type 0} (r : Result A ViewFault) (f : A → Result B ViewFault) → is_ok (and_then r f) ≡ true
    → (x : A) × ((r ≡ Ok x) × (is_ok (f x) ≡ true))
linked (Ok x) f h = (x, (refl, h))
linked (Err e) f h = absurd (let z : ◌≡◌ {A = ℕ} 0 1 = cc in omega arith)

-- the row that a number names is one of the table
names_row : (n : ℤ) (w : Way) → row_of n ≡ Some w → is_row n ≡ true
names_row (pos m) w h =
    let b = some_of (ltb m 27) (eqb m 13) h in let l = b.0 in let d = b.1 in grind (arith, nat_tests, ints)
  where
    some_of : (b d : Bool) → (if b then (if d then None else Some (triple m)) else None) ≡ Some w
        → (b ≡ true) × (d ≡ false)
    some_of true false p = (refl, refl)
    some_of true true p = absurd (let z : ◌≡◌ {A = ℕ} 0 1 = cc in omega arith)
    some_of false d p = absurd (let z : ◌≡◌ {A = ℕ} 0 1 = cc in omega arith)
names_row (negsuc m) w h = absurd (let z : ◌≡◌ {A = ℕ} 0 1 = cc in omega arith)

-- the numbers of a view that stands are in range
pub record Sound (v : ViewNumbers) : Type 0 where
  pub origin : point_in LEAST_COORDINATE MOST_COORDINATE v.origin ≡ true
  pub ray : is_row v.ray ≡ true
  pub across : is_row v.across ≡ true
  pub down : is_row v.down ≡ true
  pub width : between (pos 1) MOST_SIDE v.width ≡ true
  pub height : between (pos 1) MOST_SIDE v.height ≡ true
  pub far : between (pos 0) MOST_FAR v.far ≡ true

sound : (v : ViewNumbers) → is_ok (view_answer v) ≡ true → Sound v
unfolding origin_answer ways_answer sizes_answer
sound v h =
    let o = linked (origin_answer v) _ h in
    let ox = linked (coordinate_answer v.origin.x 1) _ (ap is_ok o.1.0) in
    let oy = linked (coordinate_answer v.origin.y 2) _ ox.1.1 in
    let oz = linked (coordinate_answer v.origin.z 3) _ oy.1.1 in
    let x = (coordinate_passed v.origin.x 1 ox.0 (sym ox.1.0)).0 in
    let y = (coordinate_passed v.origin.y 2 oy.0 (sym oy.1.0)).0 in
    let z = (coordinate_passed v.origin.z 3 oz.0 (sym oz.1.0)).0 in
    let w = linked (ways_answer v) _ o.1.1 in
    let wr = linked (with_row_fault (row_answer v.ray 4)) _ (ap is_ok w.1.0) in
    let wa = linked (with_row_fault (row_answer v.across 5)) _ wr.1.1 in
    let wd = linked (with_row_fault (row_answer v.down 6)) _ wa.1.1 in
    let s = linked (sizes_answer v) _ w.1.1 in
    let sw = linked (with_range_fault (count_in v.width (pos 1) MOST_SIDE 7)) _ (ap is_ok s.1.0) in
    let sh = linked (with_range_fault (count_in v.height (pos 1) MOST_SIDE 8)) _ sw.1.1 in
    let sf = linked (with_range_fault (count_in v.far (pos 0) MOST_FAR 9)) _ sh.1.1 in
    record {
      origin = simp (x, y, z);
      ray = names_row v.ray wr.0 (row_passed v.ray 4 wr.0 (sym wr.1.0));
      across = names_row v.across wa.0 (row_passed v.across 5 wa.0 (sym wa.1.0));
      down = names_row v.down wd.0 (row_passed v.down 6 wd.0 (sym wd.1.0));
      width = (count_passed v.width (pos 1) MOST_SIDE 7 sw.0 (sym sw.1.0)).0;
      height = (count_passed v.height (pos 1) MOST_SIDE 8 sh.0 (sym sh.1.0)).0;
      far = (count_passed v.far (pos 0) MOST_FAR 9 sf.0 (sym sf.1.0)).0;
    }

offset_in : (p : Point) → In 16383 p → point_in (negsuc 16382) MOST_OFFSET p ≡ true
offset_in p h =
    let x = part p.x h.0 in let y = part p.y h.1 in let z = part p.z h.2 in simp (x, y, z)
  where
    part : (n : ℤ) → nat_abs n ≤ 16383 → between (negsuc 16382) MOST_OFFSET n ≡ true
    part n l = grind (arith, ints)

module _ (j : Job) (rest : List ℕ) where
  bytes : List ℕ
  bytes = bytes_of (job_words j) ++ rest

  view_back : view_at bytes ≡ Ok j.view
  unfolding view_at rows_at sizes_at bytes
  view_back =
      let s = sound j.view j.view_in_range in
      let o = point_back (job_words j) rest 1 LEAST_COORDINATE MOST_COORDINATE j.view.origin (lit< tt) refl refl refl (refl, refl) s.origin in
      let a = row_back (job_words j) rest 4 j.view.ray (lit< tt) refl s.ray in
      let b = row_back (job_words j) rest 5 j.view.across (lit< tt) refl s.across in
      let c = row_back (job_words j) rest 6 j.view.down (lit< tt) refl s.down in
      let d = number_in_back (job_words j) rest 7 (pos 1) MOST_SIDE j.view.width (lit< tt) refl (refl, refl) s.width in
      let e = number_in_back (job_words j) rest 8 (pos 1) MOST_SIDE j.view.height (lit< tt) refl (refl, refl) s.height in
      let f = number_in_back (job_words j) rest 9 (pos 0) MOST_FAR j.view.far (lit< tt) refl (refl, refl) s.far in
      simp (o, a, b, c, d, e, f)

  pile_back : pile_at bytes ≡ Ok (pos j.guard, j.shift, j.clip.lo, j.clip.hi)
  unfolding pile_at bytes
  pile_back =
      let l = j.guard_in_range in
      let g : between LEAST_THICKNESS MOST_THICKNESS (pos j.guard) ≡ true = grind (arith, ints, nat_tests) in
      let a = number_in_back (job_words j) rest 10 LEAST_THICKNESS MOST_THICKNESS (pos j.guard) (lit< tt) refl (refl, refl) g in
      let b = point_back (job_words j) rest 11 (negsuc 16382) MOST_OFFSET j.shift (lit< tt) refl refl refl (refl, refl) (offset_in j.shift j.shift_in_range) in
      let c = point_back (job_words j) rest 14 LEAST_COORDINATE MOST_COORDINATE j.clip.lo (lit< tt) refl refl refl (refl, refl) (placement_in_range j.clip.lo j.clip.lo_is_placement) in
      let d = point_back (job_words j) rest 17 LEAST_COORDINATE MOST_COORDINATE j.clip.hi (lit< tt) refl refl refl (refl, refl) (placement_in_range j.clip.hi j.clip.hi_is_placement) in
      simp (a, b, c, d)

  job_back : job_of bytes ≡ Ok (job_numbers j)
  unfolding job_of bytes
  job_back = let s = bare_back (job_words j) rest 0 (lit< tt) 13 13 13 refl (lit< tt) (lit≤ tt) (lit≤ tt) in simp (s, view_back, pile_back, j.clip.in_order)

pub jobs_back : JobsReadBack
unfolding bytes
jobs_back j rest = job_back j rest
