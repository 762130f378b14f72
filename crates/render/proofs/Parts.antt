-- The parts of an input, read one after another.
use Rattle.std.proofs.Common.{◌≡◌, ℕ, zero, suc, ◌+◌, ◌-◌, ◌*◌, ◌/◌, ◌%◌, ◌≤◌, true, false, ◌&&◌, eqb, leb, List, [], ◌∷◌, ◌++◌, length, take, drop, ℤ, pos, Ok, Err, Result, sym, ap, ◌∙◌, subst, arith, length-drop, MatchResult}
use Rattle.std.specs.Result.{result_map_both}
use Rattle.std.proofs.lemmas.List.{take_at}
use Rattle.solid.specs.Body.{Body}
use Rattle.words.specs.declared.reader.Reader.{Reader}
use Rattle.words.specs.Cursor.{text, place, bytes_left, Begun}
use Rattle.refusal.specs.Checks.{and_then, unless}
use Rattle.words.specs.Reading.{number_at, rest_at}
use Rattle.readers.specs.declared.job.Job.{Job}
use Rattle.readers.specs.declared.fault.JobFault.{JobFault}
use Rattle.leaves.specs.declared.surface.SurfaceSize.{SurfaceSize}
use Rattle.readers.specs.declared.fault.SurfaceReadFault.{SurfaceReadFault}
use Rattle.readers.specs.Jobs.{JobNumbers, job_numbers, job_of}
use Rattle.readers.specs.Surfaces.{in_surface, size_of, heights_at, surface_of, put_into, size_answer}
use Rattle.readers.specs.declared.fault.SceneFault.{SceneFault}
use Rattle.readers.specs.Scenes.{in_scene, nodes_from, scene_length, scene_of, put_scene}
use Rattle.readers.specs.declared.fault.SceneFault.TheVariants.{Count}
use Rattle.leaves.specs.declared.fault.SurfaceFault.TheVariants.{Size, Buffer}
use Rattle.leaves.specs.Surface.{is_side, size_made}
use Rattle.readers.specs.Codes.{surface_read_fault}
use Rattle.std.proofs.lemmas.Bool.{and_parts, leb-true, eqb-true, cond-true, cond-false}
use Rattle.words.proofs.Chains.{first_ok, test_held, same_ok}
use Rattle.render.specs.declared.fault.InputFault.TheVariants.{Job as of_job, Scene as of_scene, Surface as of_surface, Left as left}
use Rattle.render.specs.Models.{Model, bytes_from, unchecked_model, after_job, after_scene, after_surface}
use Rattle.render.specs.Steps.{model_of}

-- where a reader stands
pub at_start : (r : Reader) (bs : List ℕ) → text r ≡ bs → place r ≡ 0 → bytes_left r ≡ bs
at_start r bs e z = ap (λ (k : ℕ). drop (4 * k) (text r)) z ∙ e

pub after : (n : ℕ) (old new : Reader) → Begun n old new → bytes_left new ≡ bytes_from n (bytes_left old)
after n old new b = ap (λ (k : ℕ). drop (4 * k) (text new)) b.at ∙ ap (drop (4 * n)) b.text

-- chains
pub mapped_ok : {A E D : Type 0} (g : E → D) (r : Result A E) (y : A) → result_map_both (λ x. x) g r ≡ Ok y → r ≡ Ok y
mapped_ok g (Ok x) y e = ap Ok (same_ok x y e)
mapped_ok g (Err d) y e = let z : ◌≡◌ {A = ℕ} 0 1 = cc in absurd (omega arith)

then_is : {A B E D : Type 0} (g : E → D) (r : Result A E) (f : A → Result B D) (x : A) → r ≡ Ok x → and_then (result_map_both (λ x. x) g r) f ≡ f x
then_is g r f x e = ap (λ r. and_then (result_map_both (λ x. x) g r) f) e

then_not : {A B E D : Type 0} (g : E → D) (r : Result A E) (f : A → Result B D) (d : E) → r ≡ Err d → and_then (result_map_both (λ x. x) g r) f ≡ Err (g d)
then_not g r f d e = ap (λ r. and_then (result_map_both (λ x. x) g r) f) e

-- what a call answered of a scene, and of a surface
abbrev SceneRead : Type 0
SceneRead = Result (Unit {0}) SceneFault × Body

pub scene_read : (x : Result (ℕ × Body) SceneFault) (old body : Body) (u : Unit {0}) → ◌≡◌ {A = SceneRead} (Ok u, body) (put_scene old x) → (n : ℕ) × (x ≡ Ok (n, body))
scene_read (Ok y) old body u e = (y.0, ap (λ (b : Body). Ok (y.0, b)) (sym (ap (λ (p : SceneRead). p.1) e)))
scene_read (Err d) old body u e = let z : ◌≡◌ {A = Result (Unit {0}) SceneFault} (Ok u) (Err d) = ap (λ (p : SceneRead). p.0) e in let z : ◌≡◌ {A = ℕ} 0 1 = cc in absurd (omega arith)

pub scene_refused : (x : Result (ℕ × Body) SceneFault) (old body : Body) (d : SceneFault) → ◌≡◌ {A = SceneRead} (Err d, body) (put_scene old x) → x ≡ Err d
scene_refused (Ok y) old body d e = let z : ◌≡◌ {A = Result (Unit {0}) SceneFault} (Err d) (Ok tt) = ap (λ (p : SceneRead). p.0) e in let z : ◌≡◌ {A = ℕ} 0 1 = cc in absurd (omega arith)
scene_refused (Err f) old body d e = let z : ◌≡◌ {A = Result (Unit {0}) SceneFault} (Err d) (Err f) = ap (λ (p : SceneRead). p.0) e in cc

abbrev SheetRead : Type 0
SheetRead = Result SurfaceSize SurfaceReadFault × List ℤ

pub sheet_read : (x : Result (SurfaceSize × List ℤ) SurfaceReadFault) (old buffer : List ℤ) (s : SurfaceSize) → ◌≡◌ {A = SheetRead} (Ok s, buffer) (put_into old x) → (hs : List ℤ) × (x ≡ Ok (s, hs)) × (buffer ≡ hs ++ drop (s.width * s.depth) old)
sheet_read (Ok y) old buffer s e =
    let f : s ≡ y.0 = same_ok s y.0 (ap (λ (p : SheetRead). p.0) e) in
    (y.1, ap (λ (t : SurfaceSize). Ok (t, y.1)) (sym f), ap (λ (p : SheetRead). p.1) e ∙ ap (λ (t : SurfaceSize). y.1 ++ drop (t.width * t.depth) old) (sym f))
sheet_read (Err d) old buffer s e = let z : ◌≡◌ {A = Result SurfaceSize SurfaceReadFault} (Ok s) (Err d) = ap (λ (p : SheetRead). p.0) e in let z : ◌≡◌ {A = ℕ} 0 1 = cc in absurd (omega arith)

pub sheet_refused : (x : Result (SurfaceSize × List ℤ) SurfaceReadFault) (old buffer : List ℤ) (d : SurfaceReadFault) → ◌≡◌ {A = SheetRead} (Err d, buffer) (put_into old x) → x ≡ Err d
sheet_refused (Ok y) old buffer d e = let z : ◌≡◌ {A = Result SurfaceSize SurfaceReadFault} (Err d) (Ok y.0) = ap (λ (p : SheetRead). p.0) e in let z : ◌≡◌ {A = ℕ} 0 1 = cc in absurd (omega arith)
sheet_refused (Err f) old buffer d e = let z : ◌≡◌ {A = Result SurfaceSize SurfaceReadFault} (Err d) (Err f) = ap (λ (p : SheetRead). p.0) e in cc

-- as many heights are read as are asked for
heights_long : (bs : List ℕ) (k n : ℕ) (hs : List ℤ) → heights_at bs k n ≡ Ok hs → length hs ≡ n
unfolding heights_at
heights_long bs k zero hs e = ap length (sym (same_ok [] hs e))
heights_long bs k (suc n) hs e =
    let h = first_ok (number_at bs k) _ hs e in
    let t = first_ok (heights_at bs (k + 1) n) _ hs h.1.1 in
    ap length (sym (same_ok (h.0 ∷ t.0) hs t.1.1)) ∙ ap suc (heights_long bs (k + 1) n t.0 t.1.0)

-- a surface that was read
pub record Sound (s : SurfaceSize) (hs : List ℤ) : Type 0 where
  pub sides : (1 ≤ s.width) × (s.width ≤ 64) × (1 ≤ s.depth) × (s.depth ≤ 64)
  pub few : s.width * s.depth ≤ 4096
  pub long : length hs ≡ s.width * s.depth

sized_sound : (w d room : ℕ) (s : SurfaceSize) → size_answer w d room ≡ Ok s → ((1 ≤ s.width) × (s.width ≤ 64) × (1 ≤ s.depth) × (s.depth ≤ 64)) × (s.width * s.depth ≤ room)
sized_sound w d room s e =
    let m = mapped_ok surface_read_fault (size_made (pos w) (pos d) room) s e in
    let a = test_held (is_side (pos w) && is_side (pos d)) Size _ s m in
    let b = test_held (leb (w * d) room) Buffer _ s a.1 in
    let h = and_parts (is_side (pos w)) (is_side (pos d)) a.0 in
    let x = and_parts (leb 1 w) (leb w 64) h.0 in
    let y = and_parts (leb 1 d) (leb d 64) h.1 in
    let l = leb-true (w * d) room b.0 in
    subst (λ (s : SurfaceSize). ((1 ≤ s.width) × (s.width ≤ 64) × (1 ≤ s.depth) × (s.depth ≤ 64)) × (s.width * s.depth ≤ room)) (same_ok (record { width = w; depth = d }) s b.1) ((leb-true 1 w x.0, leb-true w 64 x.1, leb-true 1 d y.0, leb-true d 64 y.1), l)

pub surface_sound : (bs : List ℕ) (s : SurfaceSize) (hs : List ℤ) → surface_of bs 4096 ≡ Ok (s, hs) → Sound s hs
unfolding surface_of size_of
surface_sound bs s hs e =
    let a = first_ok (size_of bs 4096) _ (s, hs) e in
    let b = first_ok (in_surface (heights_at bs 1 (a.0.width * a.0.depth))) _ (s, hs) a.1.1 in
    let same = same_ok {A = SurfaceSize × List ℤ} (a.0, b.0) (s, hs) b.1.1 in
    let w = first_ok (in_surface (rest_at bs 0 9)) _ a.0 a.1.0 in
    let z = sized_sound (w.0 / 65536) (w.0 % 65536) 4096 a.0 w.1.1 in
    let l = heights_long bs 1 (a.0.width * a.0.depth) b.0 (mapped_ok _ (heights_at bs 1 (a.0.width * a.0.depth)) b.0 b.1.0) in
    subst (λ (p : SurfaceSize × List ℤ). Sound p.0 p.1) same (record { sides = z.0; few = z.1; long = l })

-- a scene counts its words
pub scene_short : (bs : List ℕ) (n : ℕ) (b : Body) → scene_of bs ≡ Ok (n, b) → n ≤ 1792
unfolding scene_of scene_length
scene_short bs n b e =
    let a = first_ok (scene_length bs) _ (n, b) e in
    let w = first_ok (in_scene (rest_at bs 0 1)) _ a.0 a.1.0 in
    let c = test_held (leb 1 w.0 && leb w.0 1792) Count _ a.0 w.1.1 in
    let d = first_ok (nodes_from a.0 bs a.0 1 0 []) _ (n, b) a.1.1 in
    let same = same_ok {A = ℕ × Body} (a.0, d.0) (n, b) d.1.1 in
    let k : w.0 ≤ 1792 = leb-true w.0 1792 (and_parts (leb 1 w.0) (leb w.0 1792) c.0).1 in
    let l : a.0 ≤ 1792 = subst (λ (m : ℕ). m ≤ 1792) (same_ok w.0 a.0 c.1) k in
    subst (λ (p : ℕ × Body). p.0 ≤ 1792) same l

-- the parts of an input, from those that were read
pub record Three (bs : List ℕ) (m : Model) : Type 0 where
  pub count : ℕ
  pub job : job_of bs ≡ Ok m.job
  pub scene : scene_of (after_job bs) ≡ Ok (count, m.scene)
  pub sheet : surface_of (after_scene count bs) 4096 ≡ Ok (record { width = m.width; depth = m.depth }, m.heights)

abbrev pub tail : (bs : List ℕ) (m : Model) → Three bs m → List ℕ
tail bs m t = after_surface (m.width * m.depth) t.count bs

pub from_three : (bs : List ℕ) (m : Model) (t : Three bs m) → unchecked_model bs ≡ unless (eqb (length (tail bs m t)) 0) left (Ok m)
unfolding unchecked_model
from_three bs m t = then_is of_job (job_of bs) _ m.job t.job ∙ then_is of_scene (scene_of (after_job bs)) _ (t.count, m.scene) t.scene ∙ then_is of_surface (surface_of (after_scene t.count bs) 4096) _ (record { width = m.width; depth = m.depth }, m.heights) t.sheet

pub no_job : (bs : List ℕ) (e : JobFault) → job_of bs ≡ Err e → unchecked_model bs ≡ Err (of_job e)
unfolding unchecked_model
no_job bs e a = then_not of_job (job_of bs) _ e a

pub no_scene : (bs : List ℕ) (j : JobNumbers) (e : SceneFault) → job_of bs ≡ Ok j → scene_of (after_job bs) ≡ Err e → unchecked_model bs ≡ Err (of_scene e)
unfolding unchecked_model
no_scene bs j e a b = then_is of_job (job_of bs) _ j a ∙ then_not of_scene (scene_of (after_job bs)) _ e b

pub no_sheet : (bs : List ℕ) (j : JobNumbers) (n : ℕ) (b : Body) (e : SurfaceReadFault) → job_of bs ≡ Ok j → scene_of (after_job bs) ≡ Ok (n, b) → surface_of (after_scene n bs) 4096 ≡ Err e → unchecked_model bs ≡ Err (of_surface e)
unfolding unchecked_model
no_sheet bs j n b e a c d = then_is of_job (job_of bs) _ j a ∙ then_is of_scene (scene_of (after_job bs)) _ (n, b) c ∙ then_not of_surface (surface_of (after_scene n bs) 4096) _ e d

-- the parts of an input that was read
pub in_three : (bs : List ℕ) (m : Model) → unchecked_model bs ≡ Ok m → (t : Three bs m) × (length (tail bs m t) ≡ 0)
unfolding unchecked_model
in_three bs m e =
    let j = first_ok (result_map_both (λ x. x) of_job (job_of bs)) _ m e in
    let s = first_ok (result_map_both (λ x. x) of_scene (scene_of (after_job bs))) _ m j.1.1 in
    let h = first_ok (result_map_both (λ x. x) of_surface (surface_of (after_scene s.0.0 bs) 4096)) _ m s.1.1 in
    let u = test_held (eqb (length (after_surface (h.0.0.width * h.0.0.depth) s.0.0 bs)) 0) left _ m h.1.1 in
    let model : Model = record { job = j.0; scene = s.0.1; width = h.0.0.width; depth = h.0.0.depth; heights = h.0.1 } in
    let three : Three bs model = record { count = s.0.0; job = mapped_ok of_job (job_of bs) j.0 j.1.0; scene = mapped_ok of_scene (scene_of (after_job bs)) s.0 s.1.0; sheet = mapped_ok of_surface (surface_of (after_scene s.0.0 bs) 4096) h.0 h.1.0 } in
    let none : length (tail bs model three) ≡ 0 = eqb-true (length (tail bs model three)) 0 u.0 in
    subst (λ (m : Model). (t : Three bs m) × (length (tail bs m t) ≡ 0)) (same_ok model m u.1) (three, none)

-- The readers, one after another: each begins where the one before it stopped.
module _ (bs : List ℕ) (r0 r1 : Reader) (here : bytes_left r0 ≡ bs) (job : Job) (answer : Ok (job_numbers job) ≡ job_of (bytes_left r0)) (begun : Begun 20 r0 r1) where
  job_is : job_of bs ≡ Ok (job_numbers job)
  job_is = ap job_of (sym here) ∙ sym answer

  at_scene : bytes_left r1 ≡ after_job bs
  at_scene = after 20 r0 r1 begun ∙ ap (bytes_from 20) here

  pub scene_fails : (old body : Body) (e : SceneFault) → ◌≡◌ {A = SceneRead} (Err e, body) (put_scene old (scene_of (bytes_left r1))) → unchecked_model bs ≡ Err (of_scene e)
  scene_fails old body e v = no_scene bs (job_numbers job) e job_is (ap scene_of (sym at_scene) ∙ scene_refused (scene_of (bytes_left r1)) old body e v)

  module _ (r2 : Reader) (old body : Body) (u : Unit {0}) (v : ◌≡◌ {A = SceneRead} (Ok u, body) (put_scene old (scene_of (bytes_left r1))))
      (moved : MatchResult (scene_of (bytes_left r1)) (λ x. Begun (1 + x.0) r1 r2) (λ _. r2 ≡ r1)) where
    abbrev n : ℕ
    n = (scene_read (scene_of (bytes_left r1)) old body u v).0

    answered : scene_of (bytes_left r1) ≡ Ok (n, body)
    answered = (scene_read (scene_of (bytes_left r1)) old body u v).1

    scene_is : scene_of (after_job bs) ≡ Ok (n, body)
    scene_is = ap scene_of (sym at_scene) ∙ answered

    at_sheet : bytes_left r2 ≡ after_scene n bs
    at_sheet =
        after (1 + n) r1 r2 (subst (λ (x : Result (ℕ × Body) SceneFault). MatchResult x (λ x. Begun (1 + x.0) r1 r2) (λ _. r2 ≡ r1)) answered moved)
        ∙ ap (bytes_from (1 + n)) at_scene

    module _ (buffer : List ℤ) (long : length buffer ≡ 4096) where
      sheet_there : surface_of (bytes_left r2) (length buffer) ≡ surface_of (after_scene n bs) 4096
      sheet_there = ap (λ (x : List ℕ). surface_of x (length buffer)) at_sheet ∙ ap (surface_of (after_scene n bs)) long

      pub sheet_fails : (new : List ℤ) (e : SurfaceReadFault) → ◌≡◌ {A = SheetRead} (Err e, new) (put_into buffer (surface_of (bytes_left r2) (length buffer))) → unchecked_model bs ≡ Err (of_surface e)
      sheet_fails new e v = no_sheet bs (job_numbers job) n body e job_is scene_is (sym sheet_there ∙ sheet_refused (surface_of (bytes_left r2) (length buffer)) buffer new e v)

      module _ (r3 : Reader) (size : SurfaceSize) (new : List ℤ) (w : ◌≡◌ {A = SheetRead} (Ok size, new) (put_into buffer (surface_of (bytes_left r2) (length buffer))))
          (ended : Begun (1 + size.width * size.depth) r2 r3) where
        abbrev m : Model
        m = model_of (job_numbers job) body size new

        sheet_is : surface_of (after_scene n bs) 4096 ≡ Ok (size, m.heights)
        sheet_is =
            let x = sheet_read (surface_of (bytes_left r2) (length buffer)) buffer new size w in
            let is : surface_of (after_scene n bs) 4096 ≡ Ok (size, x.0) = sym sheet_there ∙ x.1 in
            let columns = size.width * size.depth in
            let front : take columns new ≡ x.0 = ap (take columns) x.2 ∙ take_at x.0 (drop columns buffer) columns (surface_sound _ size x.0 is).long in
            is ∙ ap (λ (hs : List ℤ). Ok (size, hs)) (sym front)

        abbrev three : Three bs m
        three = record { count = n; job = job_is; scene = scene_is; sheet = sheet_is }

        at_tail : bytes_left r3 ≡ tail bs m three
        at_tail = after (1 + size.width * size.depth) r2 r3 ended ∙ ap (bytes_from (1 + size.width * size.depth)) at_sheet

        pub some_left : eqb (length (bytes_left r3)) 0 ≡ false → unchecked_model bs ≡ Err left
        some_left e = from_three bs m three ∙ cond-false (eqb (length (tail bs m three)) 0) _ _ (ap (λ (x : List ℕ). eqb (length x) 0) (sym at_tail) ∙ e)

        pub none_left : eqb (length (bytes_left r3)) 0 ≡ true → unchecked_model bs ≡ Ok m
        none_left e = from_three bs m three ∙ cond-true (eqb (length (tail bs m three)) 0) _ _ (ap (λ (x : List ℕ). eqb (length x) 0) (sym at_tail) ∙ e)

-- the sides of a surface that was read
pub model_sound : (bs : List ℕ) (m : Model) → unchecked_model bs ≡ Ok m → Sound (record { width = m.width; depth = m.depth }) m.heights
model_sound bs m e = let t = in_three bs m e in surface_sound (bytes_from (1 + t.0.count) (after_job bs)) (record { width = m.width; depth = m.depth }) m.heights t.0.sheet

bytes_in_all : (l n k a b c : ℕ) → a ≡ l - 80 → b ≡ a - 4 * (1 + n) → c ≡ b - 4 * (1 + k) → c ≡ 0 → n ≤ 1792 → k ≤ 4096 → l ≤ 23640
bytes_in_all l n k a b c e f g h i j = omega arith

pub short_input : (bs : List ℕ) (m : Model) → unchecked_model bs ≡ Ok m → length bs ≤ 23640
short_input bs m e =
    let t = in_three bs m e in
    let first = after_job bs in
    let second = bytes_from (1 + t.0.count) first in
    bytes_in_all (length bs) t.0.count (m.width * m.depth) (length first) (length second) (length (bytes_from (1 + m.width * m.depth) second))
    (length-drop 80 bs) (length-drop (4 * (1 + t.0.count)) first) (length-drop (4 * (1 + m.width * m.depth)) second) t.1
    (scene_short first t.0.count m.scene t.0.scene) (surface_sound second _ m.heights t.0.sheet).few
