-- What a draft knows of the bodies that stand, by a summary of each. The last that stands comes first in these lists.
use Rattle.std.specs.Prelude.{◌≡◌, ℕ, min, false, ◌&&◌, List, [], ◌∷◌, map, Ok, Err, Result}
use Rattle.solid.specs.Body.{Body}
use Rattle.scene.specs.declared.fault.DraftFault.{DraftFault}
use Rattle.scene.specs.declared.fault.DraftFault.TheVariants.{TooFew, Unfinished}
use Rattle.scene.specs.declared.node.Join.{Join}
use Rattle.scene.specs.declared.node.Join.TheVariants.{Unite, Meet}
use Rattle.scene.specs.declared.node.Summary.{Summary}
use Rattle.scene.specs.Standing.{fold_first}

abbrev pub summary_of : Body → Summary
summary_of b = record { reach = b.reach; exact = b.exact }

-- what two bodies become has its summary by theirs
abbrev pub joined_summary : Join → Summary → Summary → Summary
joined_summary Unite a b = record { reach = min a.reach b.reach; exact = a.exact && b.exact }
joined_summary Meet a b = record { reach = min a.reach b.reach; exact = false }

-- the first n summaries of a table, the last first; `no_summary` stands for what is past its end
abbrev pub no_summary : Summary
no_summary = record { reach = 0; exact = false }

abbrev pub summaries_of : List Summary → ℕ → List Summary
summaries_of ms n = fold_first ◌∷◌ [] no_summary ms n

-- these are the summaries of what stands
abbrev pub AreSummaries : List Body → List Summary → ℕ → Type 0
AreSummaries s ms n = map summary_of s ≡ summaries_of ms n

-- the summary of the last
abbrev pub last_summary : List Body → Result Summary DraftFault
last_summary [] = Err TooFew
last_summary (a ∷ s) = Ok (summary_of a)

-- those of the last two, first that of the one that was laid down earlier
abbrev pub last_two_summaries : List Body → Result (Summary × Summary) DraftFault
last_two_summaries [] = Err TooFew
last_two_summaries (b ∷ []) = Err TooFew
last_two_summaries (b ∷ (a ∷ s)) = Ok (summary_of a, summary_of b)

-- that of one that stands alone
abbrev pub only_summary : List Body → Result Summary DraftFault
only_summary [] = Err Unfinished
only_summary (b ∷ []) = Ok (summary_of b)
only_summary (b ∷ (a ∷ s)) = Err Unfinished
