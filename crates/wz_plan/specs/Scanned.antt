-- What a scan of bytes finds: their runs, where short gaps are merged. This is the tool's own.
use Rattle.std.specs.Prelude.{ℕ, ◌+◌, ◌-◌, ◌≡◌, ◌≢◌, ◌<◌, ◌≤◌, ◌^◌, nat_lt, List, ◌++◌, length, replicate, slice_index}
use Rattle.wz_plan.specs.declared.runs.Run.{Run}
use Rattle.wz_plan.specs.Ranges.{longest_merged, shortest_cut, end_of, RisesFrom, EndsBy, with_gaps_merged}
use Rattle.wz_plan.specs.Plan.{runs, runs_at}

-- a run is the first one from a place on: all is zero before it, all in it is not, and behind it is a zero or the end
pub record IsFirstRun (bytes : List ℕ) (from : ℕ) (run : Run) : Type 0 where
  pub begins : from ≤ run.at
  pub zero_before : (place : ℕ) → from ≤ place → place < run.at → slice_index bytes place ≡ 0
  pub not_empty : 0 < run.len
  pub nonzero : (place : ℕ) → run.at ≤ place → place < end_of run → slice_index bytes place ≢ 0
  pub within : end_of run ≤ length bytes
  pub ends : slice_index bytes (end_of run) ≡ 0

-- the ranges that are left where gaps of up to `longest_merged` are merged
unfoldable pub merged : List Run → List Run
merged ranges = with_gaps_merged (λ gap. nat_lt longest_merged gap.len) ranges

-- what was found so far, and the place behind the bytes that were looked at
pub record Found : Type 0 where
  pub runs : List Run
  pub end : ℕ

-- what is found in these bytes
abbrev pub found_in : List ℕ → Found
found_in bytes = record { runs = merged (runs bytes); end = length bytes }

-- what is found after more bytes, which stand at `at`
abbrev pub found_after : Found → ℕ → List ℕ → Found
found_after found at bytes = record { runs = merged (found.runs ++ runs_at at bytes); end = at + length bytes }

-- bytes, zeros up to a place, and more bytes from there on
abbrev pub followed_at : List ℕ → ℕ → List ℕ → List ℕ
followed_at bytes at more = bytes ++ replicate (at - length bytes) 0 ++ more

-- what a scan keeps at all times: ranges with longer gaps between them, which end by the place behind the bytes
pub record IsScan (found : Found) : Type 0 where
  pub apart : RisesFrom shortest_cut 0 found.runs
  pub ends : EndsBy found.end found.runs
  pub small : found.end ≤ 2 ^ 30
