-- What the code has while it collects ranges: the last of them may still grow.
use Rattle.std.specs.Prelude.{ℕ, ◌+◌, ◌<◌, ◌≤◌, ◌≡◌, Bool, true, false, not, List, [], ◌∷◌, length, slice_index_or, Option, Some, None}
use Rattle.wz_plan.specs.declared.runs.Run.{Run}
use Rattle.wz_plan.specs.declared.choice.Cuts.{Cuts}
use Rattle.wz_plan.specs.declared.choice.Cuts.TheVariants.{Every, NoGap, UpTo}
use Rattle.wz_plan.specs.Ranges.{gap_between, with_first}
use Rattle.wz_plan.specs.Plan.{goes_before}

-- the gap between the last of the ranges and a higher one
abbrev pub last_gap : List Run → Run → Option Run
last_gap [] range = None
last_gap (x ∷ []) range = Some (gap_between x range)
last_gap (x ∷ y ∷ ys) range = last_gap (y ∷ ys) range

-- a range behind others; the last of these becomes one with it unless the gap between them is cut
abbrev pub added : (Run → Bool) → List Run → Run → List Run
added cut [] range = range ∷ []
added cut (x ∷ []) range = with_first cut x (range ∷ [])
added cut (x ∷ y ∷ ys) range = x ∷ added cut (y ∷ ys) range

-- all but the last of the old ranges are the first of the new ones
pub record KeepsFront (old new : List Run) : Type 0 where
  pub longer : length old ≤ length new
  pub same : (k : ℕ) (d : Run) → k + 1 < length old → slice_index_or new k d ≡ slice_index_or old k d

-- whether a gap is cut, where the last that is cut is known
abbrev pub cuts_gap : Cuts → Run → Bool
cuts_gap Every gap = true
cuts_gap NoGap gap = false
cuts_gap (UpTo last) gap = not (goes_before last gap)
