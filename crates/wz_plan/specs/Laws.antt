-- What holds of the runs and the plan of any bytes.
use Rattle.std.specs.Prelude.{ℕ, ◌-◌, ◌<◌, ◌≤◌, ◌≡◌, ◌≢◌, List, ◌++◌, length, replicate, slice_index}
use Rattle.std.specs.List.{All}
use Rattle.wz_plan.specs.declared.runs.Run.{Run}
use Rattle.wz_plan.specs.Ranges.{shortest_cut, end_of, RisesFrom, EndsBy}
use Rattle.wz_plan.specs.Plan.{Covers, plan, chosen, runs}
use Rattle.wz_plan.specs.Least.{IsLeast}
use Rattle.wz_plan.specs.Scanned.{found_in, found_after, followed_at}

-- what is found in bytes and in more of them is found in all of them together
abbrev pub FindsMore : Type 0
FindsMore = (bytes : List ℕ) (at : ℕ) (more : List ℕ)
    → length bytes ≤ at → found_after (found_in bytes) at more ≡ found_in (followed_at bytes at more)

-- zeros behind the bytes add no run
abbrev pub ZerosAddNothing : Type 0
ZerosAddNothing = (bytes : List ℕ) (count : ℕ) → (found_in (bytes ++ replicate count 0)).runs ≡ (found_in bytes).runs

-- the choice among what was found is the plan
abbrev pub ChoiceIsPlan : Type 0
ChoiceIsPlan = (bytes : List ℕ) (limit : ℕ) → chosen (found_in bytes).runs limit ≡ plan bytes limit

-- a range begins and ends with a non-zero byte
pub record IsTight (bytes : List ℕ) (range : Run) : Type 0 where
  pub not_empty : 0 < range.len
  pub first : slice_index bytes range.at ≢ 0
  pub last : slice_index bytes (end_of range - 1) ≢ 0

-- a range consists of non-zero bytes
pub record IsNonzero (bytes : List ℕ) (range : Run) : Type 0 where
  pub not_empty : 0 < range.len
  pub each : (place : ℕ) → range.at ≤ place → place < end_of range → slice_index bytes place ≢ 0

-- the runs are the maximal ranges of non-zero bytes: they consist of such bytes, zeros lie between them, and each
-- non-zero byte lies in one
abbrev pub RunsAreNonzero : Type 0
RunsAreNonzero = (bytes : List ℕ) → All (IsNonzero bytes) (runs bytes)

abbrev pub RunsRise : Type 0
RunsRise = (bytes : List ℕ) → RisesFrom 1 0 (runs bytes)

abbrev pub RunsCover : Type 0
RunsCover = (bytes : List ℕ) → Covers bytes (runs bytes)

-- each non-zero byte lies in a range of the plan
abbrev pub PlanCovers : Type 0
PlanCovers = (bytes : List ℕ) (limit : ℕ) → Covers bytes (plan bytes limit)

-- the plan's ranges rise with gaps of at least `shortest_cut`, lie within the memory, and begin and end with a non-zero byte
abbrev pub PlanRises : Type 0
PlanRises = (bytes : List ℕ) (limit : ℕ) → RisesFrom shortest_cut 0 (plan bytes limit)

abbrev pub PlanIsWithin : Type 0
PlanIsWithin = (bytes : List ℕ) (limit : ℕ) → EndsBy (length bytes) (plan bytes limit)

abbrev pub PlanIsTight : Type 0
PlanIsTight = (bytes : List ℕ) (limit : ℕ) → All (IsTight bytes) (plan bytes limit)

-- it has at most as many ranges as the limit
abbrev pub PlanIsFew : Type 0
PlanIsFew = (bytes : List ℕ) (limit : ℕ) → 1 ≤ limit → length (plan bytes limit) ≤ limit

-- no ranges that cover the bytes cost less than the plan, which has the fewest of those that cost as little
abbrev pub PlanIsLeast : Type 0
PlanIsLeast = (bytes : List ℕ) (limit : ℕ) → 1 ≤ limit → IsLeast bytes limit (plan bytes limit)
