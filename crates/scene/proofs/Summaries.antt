-- What is known of the bodies that stand, by a stack of their summaries.
use Rattle.std.proofs.Common.{◌≡◌, ℕ, zero, suc, ◌+◌, ◌-◌, ◌<◌, ◌≤◌, Bool, false, ◌≢◌, List, [], ◌∷◌, map, length, get_or, take, drop, set, MatchResult, Ok, Err, Result, sym, refl, ap, ap₂, ◌∙◌, arith}
use Rattle.std.proofs.lemmas.List.{get_or-take, length-take-le}
use Rattle.solid.specs.Body.{Body}
use Rattle.scene.specs.declared.node.Summary.{Summary}
use Rattle.scene.specs.declared.fault.DraftFault.{DraftFault}
use Rattle.scene.specs.declared.fault.DraftFault.TheVariants.{TooFew, Unfinished}
use Rattle.scene.specs.Standing.{fold_first, last_is_exact}
use Rattle.scene.specs.Summaries.{summary_of, no_summary, summaries_of, AreSummaries, last_summary, last_two_summaries, only_summary}
use Rattle.scene.proofs.FirstEntries.{fold_first-last, fold_first-push}

-- as many bodies stand as there are summaries
pub body_count : (s : List Body) (ms : List Summary) (h : ℕ) → AreSummaries s ms h → length s ≡ h
unfolding fold_first
body_count [] ms zero e = refl
body_count [] ms (suc h) e = cc
body_count (a ∷ s) ms zero e = cc
body_count (a ∷ s) ms (suc h) e = ap suc (body_count s ms h (cc))

-- without the last k
summaries_dropped : (k : ℕ) (s : List Body) (ms : List Summary) (h : ℕ) → AreSummaries s ms h → k ≤ h
    → AreSummaries (drop k s) ms (h - k)
unfolding fold_first
summaries_dropped zero s ms h e l = let z : h ≡ h - 0 = omega arith in e ∙ ap (summaries_of ms) z
summaries_dropped (suc k) s ms zero e l = absurd (omega arith)
summaries_dropped (suc k) [] ms (suc h) e l = cc
summaries_dropped (suc k) (a ∷ s) ms (suc h) e l =
    let z : h - k ≡ suc h - suc k = omega arith in summaries_dropped k s ms h (cc) (omega arith) ∙ ap (summaries_of ms) z

-- a node that takes the last k leaves its own summary above the others
pub summaries_pushed : (s t : List Body) (ms : List Summary) (h k : ℕ) (x : Summary) → AreSummaries s ms h
    → k ≤ h → h - k < length ms → map summary_of t ≡ x ∷ map summary_of (drop k s)
    → AreSummaries t (set ms (h - k) x) (h - k + 1)
summaries_pushed s t ms h k x e l m right =
    right ∙ ap (λ r. x ∷ r) (summaries_dropped k s ms h e l) ∙ sym (fold_first-push ◌∷◌ [] no_summary ms (h - k) x m)

-- the last one
first_is : (s : List Body) (x : Summary) (t : List Summary) → map summary_of s ≡ x ∷ t → last_summary s ≡ Ok x
first_is [] x t e = cc
first_is (a ∷ s) x t e = let f : summary_of a ≡ x = cc in ap Ok f

-- the last two
both_are : (s : List Body) (x y : Summary) (t : List Summary) → map summary_of s ≡ y ∷ (x ∷ t)
    → last_two_summaries s ≡ Ok (x, y)
both_are [] x y t e = cc
both_are (b ∷ []) x y t e = cc
both_are (b ∷ (a ∷ s)) x y t e = let f : summary_of b ≡ y = cc in let g : summary_of a ≡ x = cc in λ i. Ok (g i, f i)

only_is : (s : List Body) (x : Summary) → map summary_of s ≡ x ∷ [] → only_summary s ≡ Ok x
only_is [] x e = cc
only_is (b ∷ []) x e = let f : summary_of b ≡ x = cc in ap Ok f
only_is (b ∷ (a ∷ s)) x e = cc

module _ (s : List Body) (ms : List Summary) (h : ℕ) (e : AreSummaries s ms h) where
  one : 1 ≤ h → map summary_of s ≡ get_or ms (h - 1) no_summary ∷ summaries_of ms (h - 1)
  one l = e ∙ fold_first-last ◌∷◌ [] no_summary ms h l

  pub last_read : 1 ≤ h → Ok (get_or ms (h - 1) no_summary) ≡ last_summary s
  last_read l = sym (first_is s _ _ (one l))

  pub two_read : 2 ≤ h → Ok (get_or ms (h - 2) no_summary, get_or ms (h - 1) no_summary) ≡ last_two_summaries s
  two_read l =
      let z : h - 1 - 1 ≡ h - 2 = omega arith in
      sym (both_are s _ _ (summaries_of ms (h - 2)) (one (omega arith) ∙ ap (λ r. get_or ms (h - 1) no_summary ∷ r) (fold_first-last ◌∷◌ [] no_summary ms (h - 1) (omega arith) ∙ ap (λ k. get_or ms k no_summary ∷ summaries_of ms k) z)))

  pub only_read : h ≡ 1 → Ok (get_or ms 0 no_summary) ≡ only_summary s
  unfolding fold_first
  only_read f = sym (only_is s _ (e ∙ ap (summaries_of ms) f))

-- the same of the slice that shows the summaries, and where it has too few
module _ (s : List Body) (ms xs : List Summary) (h : ℕ) (e : AreSummaries s ms h) (room : h ≤ length ms) (f : xs ≡ take h ms) where
  shown : length xs ≡ h
  shown = ap length f ∙ length-take-le h ms room

  at : (k j : ℕ) → k ≡ j → k < h → get_or xs k no_summary ≡ get_or ms j no_summary
  at k j p l =
      ap (λ ys. get_or ys k no_summary) f ∙ get_or-take h ms k no_summary l ∙ ap (λ i. get_or ms i no_summary) p

  pub last_shown : 1 ≤ length xs → Ok (get_or xs (length xs - 1) no_summary) ≡ last_summary s
  last_shown l =
      let n = shown in
      ap Ok (at (length xs - 1) (h - 1) (omega arith) (omega arith)) ∙ last_read s ms h e (omega arith)

  pub two_shown : 2 ≤ length xs
      → Ok (get_or xs (length xs - 2) no_summary, get_or xs (length xs - 1) no_summary) ≡ last_two_summaries s
  two_shown l =
      let n = shown in
      ap₂ (λ x y. Ok (x, y)) (at (length xs - 2) (h - 2) (omega arith) (omega arith)) (at (length xs - 1) (h - 1) (omega arith) (omega arith)) ∙ two_read s ms h e (omega arith)

  pub only_shown : 1 ≤ length xs → length xs < 2 → Ok (get_or xs 0 no_summary) ≡ only_summary s
  only_shown l m =
      let n = shown in
      ap Ok (at 0 0 refl (omega arith)) ∙ only_read s ms h e (omega arith)

  stand : length s ≡ length xs
  stand = body_count s ms h e ∙ sym shown

  pub no_last : length xs < 1 → Err TooFew ≡ last_summary s
  no_last l = let n = stand in none s (omega arith)
    where
      none : (t : List Body) → length t < 1 → Err TooFew ≡ last_summary t
      none [] b = refl
      none (a ∷ t) b = absurd (omega arith)

  pub no_two : length xs < 2 → Err TooFew ≡ last_two_summaries s
  no_two l = let n = stand in none s (omega arith)
    where
      none : (t : List Body) → length t < 2 → Err TooFew ≡ last_two_summaries t
      none [] b = refl
      none (a ∷ []) b = refl
      none (b ∷ (a ∷ t)) c = absurd (omega arith)

  pub not_only : length xs ≢ 1 → Err Unfinished ≡ only_summary s
  not_only l = let n = stand in none s (λ p. l (sym n ∙ p))
    where
      none : (t : List Body) → length t ≢ 1 → Err Unfinished ≡ only_summary t
      none [] b = refl
      none (a ∷ []) b = absurd (b refl)
      none (b ∷ (a ∷ t)) c = refl

-- whether the last one is exact
pub exactness : (s : List Body) (r : Result Summary DraftFault) (b : Bool) (P : Summary → Type 0)
    → ((x : Summary) → P x → b ≡ x.exact) → r ≡ last_summary s → MatchResult r P (λ _. b ≡ false)
    → b ≡ last_is_exact s
exactness [] r b P f e m = rw e at m
exactness (a ∷ s) r b P f e m = f (summary_of a) (rw e at m)
