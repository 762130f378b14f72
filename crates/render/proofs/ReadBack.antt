-- An input that is written is read back.
use Rattle.std.proofs.Common.{◌≡◌, ℕ, ◌+◌, ◌*◌, ◌≤◌, true, ◌&&◌, eqb, leb, List, [], ◌∷◌, ◌++◌, length, pos, Result, sym, refl, ap, ◌∙◌, mul-le-mul, arith}
use Rattle.std.proofs.lemmas.List.{drop_at, length-map}
use Rattle.std.proofs.lemmas.Bool.{and_parts, leb-true, cond-true, eq-eqb}
use Rattle.refusal.specs.Checks.{and_then}
use Rattle.words.specs.Encoding.{bytes_of, signed_word}
use Rattle.readers.specs.Jobs.{job_numbers}
use Rattle.readers.specs.JobsBack.{job_words}
use Rattle.leaves.specs.Surface.{is_side}
use Rattle.readers.specs.Surfaces.{surface_of}
use Rattle.readers.specs.SurfacesBack.{surface_words}
use Rattle.readers.proofs.JobsBack.{jobs_back}
use Rattle.readers.proofs.SurfacesBack.{surfaces_back}
use Rattle.readers.specs.ScenesBack.{tree_body, words_of, scene_words}
use Rattle.readers.specs.Scenes.{scene_of}
use Rattle.readers.proofs.ScenesBack.{scenes_back}
use Rattle.render.specs.declared.fault.InputFault.{InputFault}
use Rattle.render.specs.Models.{Model, bytes_from, checked_model, after_job, after_scene}
use Rattle.render.specs.Laws.{InputsReadBack}
use Rattle.render.proofs.Parts.{Three, tail, from_three}

-- each word has four bytes
long : (ws : List ℕ) → length (bytes_of ws) ≡ 4 * length ws
long [] = refl
long (w ∷ ws) = let h = long ws in omega arith

-- what comes after the words of a part
past_words : (n : ℕ) (ws rest : List ℕ) → length ws ≡ n → bytes_from n (bytes_of ws ++ rest) ≡ rest
past_words n ws rest e = drop_at (bytes_of ws) rest (4 * n) (omega (arith, long ws))

pub inputs_back : InputsReadBack
inputs_back j t w d hs s few sides all nums =
    let job = bytes_of (job_words j) in
    let scene = bytes_of (scene_words t) in
    let sheet = bytes_of (surface_words w d hs) in
    let m : Model = record { job = job_numbers j; scene = tree_body t; width = w; depth = d; heights = hs } in
    let bs = job ++ (scene ++ sheet) in
    let n = length (words_of t) in
    let first : after_job bs ≡ scene ++ sheet = past_words 20 (job_words j) (scene ++ sheet) refl in
    let second : after_scene n bs ≡ sheet = ap (bytes_from (1 + n)) first ∙ past_words (1 + n) (scene_words t) sheet (omega arith) in
    let room : w * d ≤ 4096 = omega (arith, area w d sides) in
    let alone : sheet ≡ sheet ++ [] = sym (none sheet) in
    let three : Three bs m = record {
      count = n;
      job = jobs_back j (scene ++ sheet);
      scene = ap scene_of first ∙ scenes_back t sheet s few;
      sheet = ap (λ (xs : List ℕ). surface_of xs 4096) (second ∙ alone) ∙ surfaces_back w d hs 4096 [] sides all nums room;
    } in
    let ended : tail bs m three ≡ [] = ap (bytes_from (1 + w * d)) (second ∙ alone) ∙ past_words (1 + w * d) (surface_words w d hs) [] (omega (arith, all, length-map hs signed_word)) in
    ap (λ (p : Result Model InputFault). and_then p checked_model) (from_three bs m three ∙ cond-true (eqb (length (tail bs m three)) 0) _ _ (eq-eqb (length (tail bs m three)) 0 (ap length ended)))
  where
    none : (xs : List ℕ) → xs ++ [] ≡ xs
    none [] = refl
    none (x ∷ xs) = ap (λ (ys : List ℕ). x ∷ ys) (none xs)

    area : (w d : ℕ) → (is_side (pos w) && is_side (pos d)) ≡ true → w * d ≤ 4096
    area w d h =
        let p = and_parts (is_side (pos w)) (is_side (pos d)) h in
        let x = leb-true w 64 (and_parts (leb 1 w) (leb w 64) p.0).1 in
        let y = leb-true d 64 (and_parts (leb 1 d) (leb d 64) p.1).1 in
        mul-le-mul x y
