-- What is read of an input does not change when bytes are added to it, but for a word that was cut short.
use Rattle.std.proofs.Common.{◌≡◌, ℕ, zero, suc, ◌+◌, ◌*◌, ◌<◌, ◌≤◌, Bool, true, false, cond, ◌||◌, eqb, leb, ◌⊎◌, List, [], ◌++◌, length, get_or, ℤ, pos, negsuc, Ok, Err, Result, sym, refl, ap, ◌∙◌, inl, inr, arith, length-append, length-drop}
use mathlib.Core.Path.{subst⁻¹}
use Rattle.std.specs.Result.{result_map_both}
use Rattle.std.proofs.lemmas.List.{get_or_append_left, drop-append-le, drop_all}
use Rattle.std.proofs.lemmas.Bool.{cases_lt, cond-true, cond-false, le-leb, lt-leb, eqb-false, ne_eqb}
use Rattle.solid.specs.Body.{Body}
use Rattle.words.specs.declared.fault.WordFault.{WordFault}
use Rattle.words.specs.declared.fault.WordFault.TheVariants.{Short, Kind as Odd, Unnamed, Range, Row}
use Rattle.refusal.specs.Checks.{and_then, unless}
use Rattle.words.specs.Reading.{word_at, kind_at, rest_at, bare_at, number_at, number_in, row_at, point_at}
use Rattle.words.specs.Codes.{word_code}
use Rattle.readers.specs.declared.fault.JobFault.{JobFault}
use Rattle.readers.specs.declared.fault.JobFault.TheVariants.{Word as job_word, Corners}
use Rattle.readers.specs.declared.fault.SurfaceReadFault.{SurfaceReadFault}
use Rattle.readers.specs.declared.fault.SurfaceReadFault.TheVariants.{Word as sheet_word, Size, Buffer}
use Rattle.readers.specs.Jobs.{in_job, rows_at, sizes_at, view_at, pile_at, job_of}
use Rattle.readers.specs.Surfaces.{in_surface, size_of, heights_at, surface_of}
use Rattle.readers.specs.declared.fault.SceneFault.{SceneFault}
use Rattle.readers.specs.declared.fault.SceneFault.TheVariants.{Word as scene_word, Count, Numbers, Node}
use Rattle.readers.specs.declared.kind.NodeKind.{NodeKind}
use Rattle.readers.specs.declared.kind.NodeKind.TheVariants.{Ball, Block, Unite, Meet, Shift, Thicken}
use Rattle.readers.specs.Scenes.{in_scene, lay_at, node_at, end_answer, nodes_from, scene_length, scene_of}
use Rattle.render.specs.declared.fault.InputFault.{InputFault}
use Rattle.render.specs.declared.fault.InputFault.TheVariants.{Job as of_job, Scene as of_scene, Surface as of_surface, Left as left, Inexact, Shallow}
use Rattle.render.specs.Codes.{input_code}
use Rattle.render.specs.Models.{Model, bytes_from, unchecked_model, pile_of, checked_model, input_model, after_job, after_scene, after_surface}
use Rattle.render.specs.Laws.{InOrder}

-- what becomes of an answer: it stays, unless it says that a word was cut short
abbrev Grows : {A E : Type 0} → (E → Bool) → Result A E → Result A E → Type 0
Grows cut (Ok x) r = r ≡ Ok x
Grows cut (Err e) r = cut e ≡ false → r ≡ Err e

then_grows : {A B E : Type 0} (cut : E → Bool) (r s : Result A E) (f g : A → Result B E) → Grows cut r s → ((x : A) → Grows cut (f x) (g x)) → Grows cut (and_then r f) (and_then s g)
then_grows cut (Ok x) s f g h k = subst⁻¹ (λ r. Grows cut (f x) (and_then r g)) h (k x)
then_grows cut (Err e) s f g h k = λ c. ap (λ r. and_then r g) (h c)

stays : {A E : Type 0} (cut : E → Bool) (r : Result A E) → Grows cut r r
stays cut (Ok x) = refl
stays cut (Err e) = λ _. refl

mapped_grows : {A E D : Type 0} (cut : E → Bool) (cut' : D → Bool) (g : E → D) → ((e : E) → cut' (g e) ≡ cut e) → (r s : Result A E) → Grows cut r s → Grows cut' (result_map_both (λ x. x) g r) (result_map_both (λ x. x) g s)
mapped_grows cut cut' g k (Ok x) s h = ap (result_map_both (λ x. x) g) h
mapped_grows cut cut' g k (Err e) s h = λ c. ap (result_map_both (λ x. x) g) (h (sym (k e) ∙ c))

-- words
abbrev cut_word : WordFault → Bool
cut_word (Short k) = true
cut_word (Odd k) = false
cut_word (Unnamed k) = false
cut_word (Range k) = false
cut_word (Row k) = false

module _ (bs more : List ℕ) where
  word_grows : (k : ℕ) → Grows cut_word (word_at bs k) (word_at (bs ++ more) k)
  unfolding word_at
  word_grows k = elim (cases_lt (length bs) (4 * k + 4)) [ inl h ↦ short h | inr h ↦ long h ]
    where
      sum : List ℕ → ℕ
      sum xs = get_or xs (4 * k) 0 + get_or xs (4 * k + 1) 0 * 256 + get_or xs (4 * k + 2) 0 * 65536 + get_or xs (4 * k + 3) 0 * 16777216

      short : length bs < 4 * k + 4 → Grows cut_word (unless (leb (4 * k + 4) (length bs)) (Short k) (Ok (sum bs))) (unless (leb (4 * k + 4) (length (bs ++ more))) (Short k) (Ok (sum (bs ++ more))))
      short h = subst⁻¹ (λ (b : Bool). Grows cut_word (unless b (Short k) (Ok (sum bs))) (unless (leb (4 * k + 4) (length (bs ++ more))) (Short k) (Ok (sum (bs ++ more))))) (lt-leb (4 * k + 4) (length bs) h)
          (λ c. let z : ◌≡◌ {A = ℕ} 0 1 = cc in absurd (omega arith))

      same : 4 * k + 4 ≤ length bs → sum (bs ++ more) ≡ sum bs
      same h =
          let a = get_or_append_left bs more 0 (4 * k) (omega arith) in
          let b = get_or_append_left bs more 0 (4 * k + 1) (omega arith) in
          let c = get_or_append_left bs more 0 (4 * k + 2) (omega arith) in
          let d = get_or_append_left bs more 0 (4 * k + 3) (omega arith) in
          λ t. a t + b t * 256 + c t * 65536 + d t * 16777216

      long : 4 * k + 4 ≤ length bs → Grows cut_word (unless (leb (4 * k + 4) (length bs)) (Short k) (Ok (sum bs))) (unless (leb (4 * k + 4) (length (bs ++ more))) (Short k) (Ok (sum (bs ++ more))))
      long h =
          subst⁻¹ (λ (b : Bool). Grows cut_word (unless b (Short k) (Ok (sum bs))) (unless (leb (4 * k + 4) (length (bs ++ more))) (Short k) (Ok (sum (bs ++ more))))) (le-leb (4 * k + 4) (length bs) h)
          (cond-true (leb (4 * k + 4) (length (bs ++ more))) _ _ (le-leb (4 * k + 4) (length (bs ++ more)) (simp length-append (omega arith))) ∙ ap Ok (same h))

  kind_grows : (k least most : ℕ) → Grows cut_word (kind_at bs k least most) (kind_at (bs ++ more) k least most)
  unfolding kind_at
  kind_grows k least most = then_grows cut_word (word_at bs k) (word_at (bs ++ more) k) _ _ (word_grows k) (λ w. stays cut_word _)

  rest_grows : (k kind : ℕ) → Grows cut_word (rest_at bs k kind) (rest_at (bs ++ more) k kind)
  rest_grows k kind = then_grows cut_word _ _ _ _ (kind_grows k kind kind) (λ w. refl)

  bare_grows : (k least most : ℕ) → Grows cut_word (bare_at bs k least most) (bare_at (bs ++ more) k least most)
  unfolding bare_at
  bare_grows k least most = then_grows cut_word (kind_at bs k least most) (kind_at (bs ++ more) k least most) _ _ (kind_grows k least most) (λ w. stays cut_word _)

  number_grows : (k : ℕ) → Grows cut_word (number_at bs k) (number_at (bs ++ more) k)
  unfolding number_at
  number_grows k = then_grows cut_word (kind_at bs k 2 2) (kind_at (bs ++ more) k 2 2) _ _ (kind_grows k 2 2) (λ w. stays cut_word _)

  in_grows : (k : ℕ) (lo hi : ℤ) → Grows cut_word (number_in bs k lo hi) (number_in (bs ++ more) k lo hi)
  unfolding number_in
  in_grows k lo hi = then_grows cut_word (number_at bs k) (number_at (bs ++ more) k) _ _ (number_grows k) (λ n. stays cut_word _)

  row_grows : (k : ℕ) → Grows cut_word (row_at bs k) (row_at (bs ++ more) k)
  unfolding row_at
  row_grows k = then_grows cut_word (number_at bs k) (number_at (bs ++ more) k) _ _ (number_grows k) (λ n. stays cut_word _)

  -- three in a row
  three_grows : {A B : Type 0} (p : List ℕ → ℕ → Result A WordFault) → ((k : ℕ) → Grows cut_word (p bs k) (p (bs ++ more) k)) → (k : ℕ) (f : A → A → A → Result B WordFault)
      → Grows cut_word (and_then (p bs k) (λ x. and_then (p bs (k + 1)) (λ y. and_then (p bs (k + 2)) (λ z. f x y z))))
      (and_then (p (bs ++ more) k) (λ x. and_then (p (bs ++ more) (k + 1)) (λ y. and_then (p (bs ++ more) (k + 2)) (λ z. f x y z))))
  three_grows p h k f =
      then_grows cut_word (p bs k) (p (bs ++ more) k) _ _ (h k) (λ x.
      then_grows cut_word (p bs (k + 1)) (p (bs ++ more) (k + 1)) _ _ (h (k + 1)) (λ y.
      then_grows cut_word (p bs (k + 2)) (p (bs ++ more) (k + 2)) _ _ (h (k + 2)) (λ z. stays cut_word _)))

  point_grows : (k : ℕ) (lo hi : ℤ) → Grows cut_word (point_at bs k lo hi) (point_at (bs ++ more) k lo hi)
  unfolding point_at
  point_grows k lo hi = three_grows (λ xs k. number_in xs k lo hi) (λ k. in_grows k lo hi) k (λ x y z. Ok (record { x = x; y = y; z = z }))

  -- the job
  rows_grow : (k : ℕ) → Grows cut_word (rows_at bs k) (rows_at (bs ++ more) k)
  unfolding rows_at
  rows_grow k = three_grows row_at row_grows k (λ x y z. Ok (x, y, z))

  sizes_grow : (k : ℕ) → Grows cut_word (sizes_at bs k) (sizes_at (bs ++ more) k)
  unfolding sizes_at
  sizes_grow k =
      then_grows cut_word (number_in bs k (pos 1) (pos 64)) (number_in (bs ++ more) k (pos 1) (pos 64)) _ _ (in_grows k (pos 1) (pos 64)) (λ w.
      then_grows cut_word (number_in bs (k + 1) (pos 1) (pos 64)) (number_in (bs ++ more) (k + 1) (pos 1) (pos 64)) _ _ (in_grows (k + 1) (pos 1) (pos 64)) (λ h.
      then_grows cut_word (number_in bs (k + 2) (pos 0) (pos 4095)) (number_in (bs ++ more) (k + 2) (pos 0) (pos 4095)) _ _ (in_grows (k + 2) (pos 0) (pos 4095)) (λ far. refl)))

  view_grows : Grows cut_word (view_at bs) (view_at (bs ++ more))
  unfolding view_at
  view_grows =
      then_grows cut_word (point_at bs 1 (negsuc 16383) (pos 16383)) (point_at (bs ++ more) 1 (negsuc 16383) (pos 16383)) _ _ (point_grows 1 (negsuc 16383) (pos 16383)) (λ o.
      then_grows cut_word (rows_at bs 4) (rows_at (bs ++ more) 4) _ _ (rows_grow 4) (λ r.
      then_grows cut_word (sizes_at bs 7) (sizes_at (bs ++ more) 7) _ _ (sizes_grow 7) (λ s. refl)))

  pile_grows : Grows cut_word (pile_at bs) (pile_at (bs ++ more))
  unfolding pile_at
  pile_grows =
      then_grows cut_word (number_in bs 10 (pos 0) (pos 1023)) (number_in (bs ++ more) 10 (pos 0) (pos 1023)) _ _ (in_grows 10 (pos 0) (pos 1023)) (λ g.
      then_grows cut_word (point_at bs 11 (negsuc 16382) (pos 16383)) (point_at (bs ++ more) 11 (negsuc 16382) (pos 16383)) _ _ (point_grows 11 (negsuc 16382) (pos 16383)) (λ v.
      then_grows cut_word (point_at bs 14 (negsuc 16383) (pos 16383)) (point_at (bs ++ more) 14 (negsuc 16383) (pos 16383)) _ _ (point_grows 14 (negsuc 16383) (pos 16383)) (λ lo.
      then_grows cut_word (point_at bs 17 (negsuc 16383) (pos 16383)) (point_at (bs ++ more) 17 (negsuc 16383) (pos 16383)) _ _ (point_grows 17 (negsuc 16383) (pos 16383)) (λ hi. refl))))

abbrev cut_job : JobFault → Bool
cut_job (job_word e) = cut_word e
cut_job Corners = false

in_a_job : {A : Type 0} (r s : Result A WordFault) → Grows cut_word r s → Grows cut_job (in_job r) (in_job s)
in_a_job r s h = mapped_grows cut_word cut_job job_word (λ e. refl) r s h

job_grows : (bs more : List ℕ) → Grows cut_job (job_of bs) (job_of (bs ++ more))
unfolding job_of
job_grows bs more =
    then_grows cut_job _ _ _ _ (in_a_job _ _ (bare_grows bs more 0 13 13)) (λ _.
    then_grows cut_job _ _ _ _ (in_a_job _ _ (view_grows bs more)) (λ v.
    then_grows cut_job _ _ _ _ (in_a_job _ _ (pile_grows bs more)) (λ p. stays cut_job _)))

-- the scene
abbrev cut_scene : SceneFault → Bool
cut_scene (scene_word e) = cut_word e
cut_scene Count = false
cut_scene (Numbers k) = false
cut_scene (Node e k) = false

in_a_scene : {A : Type 0} (r s : Result A WordFault) → Grows cut_word r s → Grows cut_scene (in_scene r) (in_scene s)
in_a_scene r s h = mapped_grows cut_word cut_scene scene_word (λ e. refl) r s h

module _ (bs more : List ℕ) where
  laid_grows : (k : ℕ) (kind : NodeKind) (s : List Body) → Grows cut_scene (lay_at bs k kind s) (lay_at (bs ++ more) k kind s)
  unfolding lay_at
  laid_grows k Ball s =
      then_grows cut_scene _ _ _ _ (in_a_scene _ _ (point_grows bs more (k + 1) (negsuc 16383) (pos 16383))) (λ m.
      then_grows cut_scene _ _ _ _ (in_a_scene _ _ (in_grows bs more (k + 4) (pos 0) (pos 16383))) (λ r. stays cut_scene _))
  laid_grows k Block s =
      then_grows cut_scene _ _ _ _ (in_a_scene _ _ (point_grows bs more (k + 1) (negsuc 16383) (pos 16383))) (λ lo.
      then_grows cut_scene _ _ _ _ (in_a_scene _ _ (point_grows bs more (k + 4) (negsuc 16383) (pos 16383))) (λ hi. stays cut_scene _))
  laid_grows k Unite s = stays cut_scene _
  laid_grows k Meet s = stays cut_scene _
  laid_grows k Shift s = then_grows cut_scene _ _ _ _ (in_a_scene _ _ (point_grows bs more (k + 1) (negsuc 16382) (pos 16383))) (λ v. stays cut_scene _)
  laid_grows k Thicken s = then_grows cut_scene _ _ _ _ (in_a_scene _ _ (in_grows bs more (k + 1) (pos 0) (pos 1023))) (λ h. stays cut_scene _)

  node_grows : (count k n : ℕ) (s : List Body) → Grows cut_scene (node_at bs count k n s) (node_at (bs ++ more) count k n s)
  unfolding node_at
  node_grows count k n s =
      then_grows cut_scene _ _ _ _ (in_a_scene _ _ (bare_grows bs more k 3 8)) (λ w.
      then_grows cut_scene _ _ _ _ (stays cut_scene _) (λ _.
      then_grows cut_scene _ _ _ _ (laid_grows k _ s) (λ t. refl)))

  nodes_grow : (most count k n : ℕ) (s : List Body) → Grows cut_scene (nodes_from most bs count k n s) (nodes_from most (bs ++ more) count k n s)
  unfolding nodes_from
  nodes_grow zero count k n s = stays cut_scene _
  nodes_grow (suc most) count k n s = by (λ x. nodes_grow most count x.1 (n + 1) x.0) (leb k count)
    where
      by : ((x : List Body × ℕ) → Grows cut_scene (nodes_from most bs count x.1 (n + 1) x.0) (nodes_from most (bs ++ more) count x.1 (n + 1) x.0))
          → (b : Bool) → Grows cut_scene (cond b (and_then (node_at bs count k n s) (λ x. nodes_from most bs count x.1 (n + 1) x.0)) (end_answer count s)) (cond b (and_then (node_at (bs ++ more) count k n s) (λ x. nodes_from most (bs ++ more) count x.1 (n + 1) x.0)) (end_answer count s))
      by rest true = then_grows cut_scene (node_at bs count k n s) (node_at (bs ++ more) count k n s) _ _ (node_grows count k n s) rest
      by rest false = stays cut_scene _

  scene_grows : Grows cut_scene (scene_of bs) (scene_of (bs ++ more))
  unfolding scene_of scene_length
  scene_grows =
      then_grows cut_scene _ _ _ _ (then_grows cut_scene _ _ _ _ (in_a_scene _ _ (rest_grows bs more 0 1)) (λ w. stays cut_scene _)) (λ n.
      then_grows cut_scene _ _ _ _ (nodes_grow n n 1 0 []) (λ b. refl))

-- the surface
abbrev cut_sheet : SurfaceReadFault → Bool
cut_sheet (sheet_word e) = cut_word e
cut_sheet Size = false
cut_sheet Buffer = false

in_a_sheet : {A : Type 0} (r s : Result A WordFault) → Grows cut_word r s → Grows cut_sheet (in_surface r) (in_surface s)
in_a_sheet r s h = mapped_grows cut_word cut_sheet sheet_word (λ e. refl) r s h

heights_grow : (bs more : List ℕ) (k n : ℕ) → Grows cut_word (heights_at bs k n) (heights_at (bs ++ more) k n)
unfolding heights_at
heights_grow bs more k zero = refl
heights_grow bs more k (suc n) =
    then_grows cut_word _ _ _ _ (number_grows bs more k) (λ h.
    then_grows cut_word _ _ _ _ (heights_grow bs more (k + 1) n) (λ hs. refl))

sheet_grows : (bs more : List ℕ) (room : ℕ) → Grows cut_sheet (surface_of bs room) (surface_of (bs ++ more) room)
unfolding surface_of size_of
sheet_grows bs more room =
    then_grows cut_sheet _ _ _ _ (then_grows cut_sheet _ _ _ _ (in_a_sheet _ _ (rest_grows bs more 0 9)) (λ w. stays cut_sheet _)) (λ s.
    then_grows cut_sheet _ _ _ _ (in_a_sheet _ _ (heights_grow bs more 1 (s.width * s.depth))) (λ hs. refl))

-- a part that begins after n words
past_grows : {A E : Type 0} (cut : E → Bool) (P : List ℕ → Result A E) → ((bs more : List ℕ) → Grows cut (P bs) (P (bs ++ more))) → (e : E) → P [] ≡ Err e → cut e ≡ true
    → (n : ℕ) (bs more : List ℕ) → Grows cut (P (bytes_from n bs)) (P (bytes_from n (bs ++ more)))
past_grows cut P h e none c n bs more = elim (cases_lt (length bs) (4 * n)) [ inl l ↦ over l | inr l ↦ within l ]
  where
    over : length bs < 4 * n → Grows cut (P (bytes_from n bs)) (P (bytes_from n (bs ++ more)))
    over l =
        let nothing : P (bytes_from n bs) ≡ Err e = ap P (drop_all (4 * n) bs (omega arith)) ∙ none in
        subst⁻¹ (λ r. Grows cut r (P (bytes_from n (bs ++ more)))) nothing (λ d. let z : ◌≡◌ {A = Bool} true false = sym c ∙ d in let z : ◌≡◌ {A = ℕ} 0 1 = cc in absurd (omega arith))

    within : 4 * n ≤ length bs → Grows cut (P (bytes_from n bs)) (P (bytes_from n (bs ++ more)))
    within l = subst⁻¹ (λ (xs : List ℕ). Grows cut (P (bytes_from n bs)) (P xs)) (drop-append-le (4 * n) bs more l) (h (bytes_from n bs) more)

no_scene_there : scene_of [] ≡ Err (scene_word (Short 0))
unfolding scene_of scene_length kind_at word_at
no_scene_there = refl

no_sheet_there : surface_of [] 4096 ≡ Err (sheet_word (Short 0))
unfolding surface_of size_of kind_at word_at
no_sheet_there = refl

scene_past : (bs more : List ℕ) → Grows cut_scene (scene_of (after_job bs)) (scene_of (after_job (bs ++ more)))
scene_past bs more = past_grows cut_scene scene_of scene_grows (scene_word (Short 0)) no_scene_there refl 20 bs more

sheet_past : (n : ℕ) (bs more : List ℕ) → Grows cut_sheet (surface_of (after_scene n bs) 4096) (surface_of (after_scene n (bs ++ more)) 4096)
sheet_past n bs more =
    past_grows cut_sheet (λ xs. surface_of (bytes_from (1 + n) xs) 4096)
    (past_grows cut_sheet (λ xs. surface_of xs 4096) (λ xs ys. sheet_grows xs ys 4096) (sheet_word (Short 0)) no_sheet_there refl (1 + n))
    (sheet_word (Short 0)) (ap (λ (xs : List ℕ). surface_of xs 4096) (drop_all {X = ℕ} (4 * (1 + n)) [] (omega arith)) ∙ no_sheet_there) refl 20 bs more

-- the whole input: an accepted one may come to have bytes left
abbrev cut_input : InputFault → Bool
cut_input (of_job e) = cut_job e
cut_input (of_scene e) = cut_scene e
cut_input (of_surface e) = cut_sheet e
cut_input left = false
cut_input Inexact = false
cut_input Shallow = false

abbrev Keeps : {A : Type 0} → Result A InputFault → Result A InputFault → Type 0
Keeps (Ok x) r = Unit {0}
Keeps (Err e) r = cut_input e ≡ false → r ≡ Err e

then_keeps : {A B E : Type 0} (cut : E → Bool) (g : E → InputFault) → ((e : E) → cut_input (g e) ≡ cut e) → (r s : Result A E) (f h : A → Result B InputFault) → Grows cut r s → ((x : A) → Keeps (f x) (h x))
    → Keeps (and_then (result_map_both (λ x. x) g r) f) (and_then (result_map_both (λ x. x) g s) h)
then_keeps cut g c (Ok x) s f h k l = subst⁻¹ (λ r. Keeps (f x) (and_then (result_map_both (λ x. x) g r) h)) k (l x)
then_keeps cut g c (Err e) s f h k l = λ d. ap (λ r. and_then (result_map_both (λ x. x) g r) h) (k (sym (c e) ∙ d))

last_keeps : (a b : ℕ) (m : Model) → (0 < a → 0 < b) → Keeps (unless (eqb a 0) left (Ok m)) (unless (eqb b 0) left (Ok m))
last_keeps a b m h = by (eqb a 0) refl
  where
    by : (c : Bool) → eqb a 0 ≡ c → Keeps (unless c left (Ok m)) (unless (eqb b 0) left (Ok m))
    by true e = tt
    by false e = λ _. let some : 0 < b = h (omega (arith, eqb-false a 0 e)) in cond-false (eqb b 0) _ _ (ne_eqb b 0 (λ z. omega arith))

longer : (k n : ℕ) (bs more : List ℕ) → 0 < length (bytes_from k (bytes_from n (after_job bs))) → 0 < length (bytes_from k (bytes_from n (after_job (bs ++ more))))
longer k n bs more h =
    let cs = bs ++ more in
    omega (arith, h, length-append bs more, length-drop 80 bs, length-drop (4 * n) (after_job bs), length-drop (4 * k) (bytes_from n (after_job bs)), length-drop 80 cs, length-drop (4 * n) (after_job cs), length-drop (4 * k) (bytes_from n (after_job cs)))

parts_keep : (bs more : List ℕ) → Keeps (unchecked_model bs) (unchecked_model (bs ++ more))
unfolding unchecked_model
parts_keep bs more =
    then_keeps cut_job of_job (λ e. refl) (job_of bs) (job_of (bs ++ more)) _ _ (job_grows bs more) (λ job.
    then_keeps cut_scene of_scene (λ e. refl) (scene_of (after_job bs)) (scene_of (after_job (bs ++ more))) _ _ (scene_past bs more) (λ scene.
    then_keeps cut_sheet of_surface (λ e. refl) (surface_of (after_scene scene.0 bs) 4096) (surface_of (after_scene scene.0 (bs ++ more)) 4096) _ _ (sheet_past scene.0 bs more) (λ sheet.
    last_keeps (length (after_surface (sheet.0.width * sheet.0.depth) scene.0 bs)) (length (after_surface (sheet.0.width * sheet.0.depth) scene.0 (bs ++ more)))
    _ (longer (1 + sheet.0.width * sheet.0.depth) (1 + scene.0) bs more))))

-- a word that is cut short is refused by 1
whole_word : (e : WordFault) → ((word_code e).0 ≡ 1 → ⊥) → cut_word e ≡ false
whole_word (Short k) h = absurd (h refl)
whole_word (Odd k) h = refl
whole_word (Unnamed k) h = refl
whole_word (Range k) h = refl
whole_word (Row k) h = refl

not_cut : (e : InputFault) → ((input_code e).1 ≡ 1 → ⊥) → cut_input e ≡ false
not_cut (of_job (job_word e)) h = whole_word e h
not_cut (of_job Corners) h = refl
not_cut (of_scene (scene_word e)) h = whole_word e h
not_cut (of_scene Count) h = refl
not_cut (of_scene (Numbers k)) h = refl
not_cut (of_scene (Node e k)) h = refl
not_cut (of_surface (sheet_word e)) h = whole_word e h
not_cut (of_surface Size) h = refl
not_cut (of_surface Buffer) h = refl
not_cut left h = refl
not_cut Inexact h = refl
not_cut Shallow h = refl

-- once no byte is left, only 15 and 16 are looked at
after_all : (a b : Bool) (m : Model) (e : InputFault) → unless a Inexact (unless b Shallow (Ok m)) ≡ Err e → ((input_code e).1 ≡ 15) ⊎ ((input_code e).1 ≡ 16)
after_all false b m e h = let is : e ≡ Inexact = cc in inl (ap (λ (e : InputFault). (input_code e).1) is)
after_all true false m e h = let is : e ≡ Shallow = cc in inr (ap (λ (e : InputFault). (input_code e).1) is)
after_all true true m e h = let z : ◌≡◌ {A = ℕ} 0 1 = cc in absurd (omega arith)

pub in_order : InOrder
in_order bs more e h one fifteen sixteen = by (unchecked_model bs) refl h (parts_keep bs more)
  where
    by : (p : Result Model InputFault) → unchecked_model bs ≡ p → and_then p checked_model ≡ Err e → Keeps p (unchecked_model (bs ++ more)) → input_model (bs ++ more) ≡ Err e
    by (Ok m) is h k = elim (after_all (eqb m.job.guard 0 || m.scene.exact) (leb 32767 (pile_of m).reach) m e h) [ inl z ↦ absurd (fifteen z) | inr z ↦ absurd (sixteen z) ]
    by (Err d) is h k =
        let same : d ≡ e = cc in
        ap (λ (p : Result Model InputFault). and_then p checked_model) (k (ap cut_input same ∙ not_cut e one) ∙ ap Err same)
