-- The plan of data segments: which ranges of a memory are written, by the bytes alone.
-- A data segment is one entry of section 5.5.14 of the WebAssembly Core Specification 2.0; how the entries are chosen is
-- this tool's own rule.
use Rattle.std.specs.Prelude.{ℕ, zero, suc, ◌+◌, ◌-◌, ◌<◌, ◌≤◌, ◌≢◌, ◌⊎◌, Bool, ◌&&◌, ◌||◌, ◌==◌, nat_lt, List, [], ◌∷◌, length, slice_index}
use Rattle.std.specs.List.{count_by, sum_by}
use Rattle.wz_plan.specs.declared.runs.Run.{Run}
use Rattle.wz_plan.specs.Ranges.{segment_cost, longest_merged, end_of, gaps, with_gaps_merged}

-- each non-zero byte as a range of its own, where the first byte stands at `at`
abbrev pub nonzero_places : ℕ → List ℕ → List Run
nonzero_places at [] = []
nonzero_places at (zero ∷ bytes) = nonzero_places (at + 1) bytes
nonzero_places at (suc _ ∷ bytes) = record { at = at; len = 1 } ∷ nonzero_places (at + 1) bytes

-- the maximal ranges of non-zero bytes, which are left where nothing but empty gaps is merged; the first byte stands at `at`
unfoldable pub runs_at : ℕ → List ℕ → List Run
runs_at at bytes = with_gaps_merged (λ gap. nat_lt 0 gap.len) (nonzero_places at bytes)

-- the runs of a memory
unfoldable pub runs : List ℕ → List Run
runs bytes = runs_at 0 bytes

-- the longer of two gaps goes before the other, and of equally long ones the lower
abbrev pub goes_before : Run → Run → Bool
goes_before gap other = nat_lt other.len gap.len || ((gap.len == other.len) && nat_lt gap.at other.at)

-- how many of the gaps go before this one
abbrev pub rank : List Run → Run → ℕ
rank all gap = count_by (λ other. goes_before other gap) all

-- a gap longer than `longest_merged` is cut where it is one of the first limit - 1, so that at most `limit` ranges are left
-- (what goes before it is no shorter, so it is longer than that too)
abbrev pub is_cut : ℕ → List Run → Run → Bool
is_cut limit all gap = nat_lt longest_merged gap.len && nat_lt (rank all gap) (limit - 1)

-- the ranges chosen among these runs
unfoldable pub chosen : List Run → ℕ → List Run
chosen found limit = with_gaps_merged (is_cut limit (gaps found)) found

-- the ranges chosen for these bytes
unfoldable pub plan : List ℕ → ℕ → List Run
plan bytes limit = chosen (runs bytes) limit

-- a place lies in a range
abbrev pub Holds : Run → ℕ → Type 0
Holds range place = (range.at ≤ place) × (place < end_of range)

-- a place lies in one of the ranges, one that ends by `high`
abbrev pub IsInOne : ℕ → List Run → ℕ → Type 0
IsInOne high [] place = ⊥
IsInOne high (range ∷ ranges) place = (Holds range place × (end_of range ≤ high)) ⊎ IsInOne high ranges place

-- each non-zero place lies in a range within the bytes
abbrev pub Covers : List ℕ → List Run → Type 0
Covers bytes ranges = (place : ℕ) → slice_index bytes place ≢ 0 → IsInOne (length bytes) ranges place

-- what the ranges cost as segments: their bytes, and something for each
abbrev pub cost : List Run → ℕ
cost ranges = sum_by (λ range. range.len + segment_cost) ranges
