-- What every log of a plate shows, in the words of rays, members and probes.
use Rattle.std.specs.Prelude.{◌≡◌, ℕ, ◌+◌, ◌*◌, ◌≤◌, Bool, false, List, [], ◌∷◌, ◌++◌}
use Rattle.lattice.specs.declared.Point.{Point}
use Rattle.lattice.specs.Space.{In}
use Rattle.solid.specs.Body.{Body, Lawful}
use Rattle.piles.specs.Pile.{Pile}
use Rattle.piles.specs.Stands.{PilesStand, NearDecides}
use Rattle.march.specs.declared.deep.TheConstants.{WORKING_RANGE}
use Rattle.march.specs.declared.pixel.Pixel.{Pixel}
use Rattle.march.specs.declared.view.View.{View}
use Rattle.march.specs.Deep.{IsDeep}
use Rattle.march.specs.View.{point}
use Rattle.march.specs.March.{marches, probes, Takes, IsRight}
use Rattle.plate_log.specs.Sweep.{count_marching, count_probes}
use Rattle.plate_log.specs.Log.{Call, Line, Answer, sweeping, touching, reading, writing, counted, read_as, wrote, refused, log_from, log, new_pixels, pixels_after, pixel_after, area, clear_at}
use Rattle.plate_log.specs.Records.{pixels_of}
use Rattle.plate_log.specs.Lines.{Inside, LinesAreRight}

-- the bodies brought to sweeps and touches that the plate accepted; one brought to a refused call is outside every
-- premise
pub data IsBrought (b : Body) : List Line → Type 0 where
  to_sweep : {budget s l : ℕ} {after : List Pixel} {ls : List Line}
      → IsBrought b (record { call = sweeping b budget; answer = counted s l; after = after } ∷ ls)
  to_touch : {i j budget s l : ℕ} {after : List Pixel} {ls : List Line}
      → IsBrought b (record { call = touching i j b budget; answer = counted s l; after = after } ∷ ls)
  later : {l : Line} {ls : List Line} → IsBrought b ls → IsBrought b (l ∷ ls)

-- two sets of points are one
abbrev pub SameMembers : (Point → Bool) → (Point → Bool) → Type 0
SameMembers M N = (p : Point) → M p ≡ N p

-- a pile whose members, by set algebra, are M
abbrev pub IsPileOf : (Point → Bool) → Body → Type 0
IsPileOf M b = (N : Point → Bool) × (e : Bool) × Pile N e b × SameMembers N M

-- what pixel (i, j) says of the members along its ray
abbrev pub PixelShows : View → (Point → Bool) → (i j : ℕ) → Pixel → Type 0
PixelShows v M i j p = IsRight (λ t. M (point v i j t)) v.far p

-- the probes that an accepted sweep or touch answered as spent
abbrev pub probes_in : Answer → ℕ
probes_in (counted s m) = s
probes_in (read_as p) = 0
probes_in (wrote n bs) = 0
probes_in (refused f) = 0

-- the budget that an accepted sweep was given
abbrev pub budget_in : Call → Answer → ℕ
budget_in (sweeping b budget) (counted s m) = budget
budget_in (sweeping b budget) (read_as p) = 0
budget_in (sweeping b budget) (wrote n bs) = 0
budget_in (sweeping b budget) (refused f) = 0
budget_in (touching i j b budget) a = 0
budget_in (reading i j) a = 0
budget_in (writing room) a = 0

-- both added up over a log
abbrev pub probes_answered : List Line → ℕ
probes_answered [] = 0
probes_answered (l ∷ ls) = probes_in l.answer + probes_answered ls

abbrev pub sweep_budgets : List Line → ℕ
sweep_budgets [] = 0
sweep_budgets (l ∷ ls) = budget_in l.call l.answer + sweep_budgets ls

-- a rival: a lawful body of the same members that nowhere in the working range clears more than any body brought
pub record Rival (v : View) (M : Point → Bool) (cs : List Call) (r : Body) : Type 0 where
  pub lawful : Lawful r
  pub deep_enough : IsDeep r
  pub members : SameMembers r.member M
  pub no_more : (b : Body) → IsBrought b (log v cs) → (p : Point) → In WORKING_RANGE p → r.clear p ≤ b.clear p

-- where all piles brought have the members M: each pixel says what is so of its ray, and once it is settled, no rival's
-- whole march over that ray takes fewer probes
pub record PilesShow (v : View) (cs : List Call) (M : Point → Bool) : Type 0 where
  pub shows : (i j : ℕ) → Inside v i j → PixelShows v M i j (pixel_after v cs i j)
  pub fewest : (i j : ℕ) → Inside v i j → marches (pixel_after v cs i j) ≡ false → (r : Body) → Rival v M cs r
      → (n : ℕ) → Takes (clear_at v r i j) v.far 0 n → probes (pixel_after v cs i j) ≤ n

-- the calls of a log
abbrev pub calls_of : List Line → List Call
calls_of [] = []
calls_of (l ∷ ls) = l.call ∷ calls_of ls

-- what holds after the calls cs: all but the last, whatever bodies they brought
pub record LogHolds (v : View) (cs : List Call) : Type 0 where
  -- the log has a line for each call
  pub each : calls_of (log v cs) ≡ cs
  -- every line answers and leaves what is right
  pub lines : LinesAreRight v (new_pixels v) (log v cs)
  -- the pixels' probes add up to what was answered as spent
  pub counts : count_probes (pixels_after v cs) ≡ probes_answered (log v cs)
  -- sweeps with budgets enough leave nothing marching
  pub ends : area v * (v.far + 1) ≤ sweep_budgets (log v cs) → count_marching (pixels_after v cs) ≡ 0
  -- a settled pixel never changes later
  pub lasting : (more : List Call) (i j : ℕ) → Inside v i j → marches (pixel_after v cs i j) ≡ false
      → pixel_after v (cs ++ more) i j ≡ pixel_after v cs i j
  -- piles of the members M
  pub shown : (M : Point → Bool) → ((b : Body) → IsBrought b (log v cs) → IsPileOf M b) → PilesShow v cs M

-- a call took the records rs to qs: whatever calls led to rs, with this one they led to qs, and all of it holds
abbrev pub Promise : View → (rs qs : List Pixel) → Call → Type 0
Promise v rs qs c =
    (cs : List Call) → pixels_of v rs ≡ pixels_after v cs
    → (pixels_of v qs ≡ pixels_after v (cs ++ (c ∷ []))) × LogHolds v (cs ++ (c ∷ []))

-- every march settles, so a rival always has a number of probes to be compared with
abbrev pub EveryMarchSettles : Type 0
EveryMarchSettles =
    (v : View) (b : Body) → Lawful b → (i j : ℕ) → Inside v i j → (n : ℕ) × Takes (clear_at v b i j) v.far 0 n

-- a log begins with that of the first of its calls, and goes on from the pixels as they stand then: so
-- what holds of every log holds at each line of one
abbrev pub LogsGoOn : Type 0
LogsGoOn = (v : View) (cs more : List Call) → log v (cs ++ more) ≡ log v cs ++ log_from v (pixels_after v cs) more

-- the whole: of every view, every list of calls and every pile
pub record Whole : Type 0 where
  pub piles : PilesStand
  -- what set algebra says of a thickened pile
  pub near : NearDecides
  pub logs : (v : View) (cs : List Call) → LogHolds v cs
  pub prefixes : LogsGoOn
  pub settles : EveryMarchSettles
