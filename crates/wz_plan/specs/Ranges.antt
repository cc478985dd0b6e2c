-- Ranges of places in rising order, the gaps between them, and the ranges that are left where gaps are merged.
use Rattle.std.specs.Prelude.{ℕ, ◌+◌, ◌-◌, ◌≤◌, Bool, if◌then◌else◌, List, [], ◌∷◌}
use Rattle.std.specs.List.{All}
use Rattle.wz_plan.specs.declared.runs.Run.{Run}

-- what a segment takes besides its bytes, as the plan counts it
abbrev pub segment_cost : ℕ
segment_cost = 8

-- the longest gap that is always written along: it takes no more than a segment of its own would
abbrev pub longest_merged : ℕ
longest_merged = segment_cost

-- the shortest gap that may be cut
abbrev pub shortest_cut : ℕ
shortest_cut = longest_merged + 1

-- the place behind a range
abbrev pub end_of : Run → ℕ
end_of range = range.at + range.len

-- what lies between a range and a higher one
abbrev pub gap_between : Run → Run → Run
gap_between lower upper = record { at = end_of lower; len = upper.at - end_of lower }

-- the range from the first place of a range to the last of a higher one
abbrev pub hull : Run → Run → Run
hull lower upper = record { at = lower.at; len = end_of upper - lower.at }

-- the ranges rise from `low` on, and at least `apart` places lie between one and the next
abbrev pub RisesFrom : ℕ → ℕ → List Run → Type 0
RisesFrom apart low [] = Unit {0}
RisesFrom apart low (range ∷ ranges) = (low ≤ range.at) × RisesFrom apart (end_of range + apart) ranges

-- each range ends by `high`
abbrev pub EndsBy : ℕ → List Run → Type 0
EndsBy high ranges = All (λ range. end_of range ≤ high) ranges

-- the gaps between neighbours
abbrev pub gaps : List Run → List Run
gaps [] = []
gaps (range ∷ []) = []
gaps (range ∷ next ∷ ranges) = gap_between range next ∷ gaps (next ∷ ranges)

-- a range in front of others; the first of these becomes one with it unless the gap between them is cut
abbrev pub with_first : (Run → Bool) → Run → List Run → List Run
with_first cut range [] = range ∷ []
with_first cut range (next ∷ ranges) =
    if cut (gap_between range next) then range ∷ next ∷ ranges else hull range next ∷ ranges

-- the ranges that are left where each gap that isn't cut is merged with its two neighbours
abbrev pub with_gaps_merged : (Run → Bool) → List Run → List Run
with_gaps_merged cut [] = []
with_gaps_merged cut (range ∷ ranges) = with_first cut range (with_gaps_merged cut ranges)
