-- The ranges that cost least of all that cover a memory. This is the tool's own.
use Rattle.std.specs.Prelude.{ℕ, ◌≤◌, ◌≡◌, List, length}
use Rattle.wz_plan.specs.declared.runs.Run.{Run}
use Rattle.wz_plan.specs.Plan.{Covers, cost}

-- ranges cover the bytes, and of all lists of at most `limit` ranges that do, whichever ranges in whichever order, none costs less,
-- and none of the same cost has fewer ranges
pub record IsLeast (bytes : List ℕ) (limit : ℕ) (ranges : List Run) : Type 0 where
  pub covers : Covers bytes ranges
  pub few : length ranges ≤ limit
  pub cheapest : (other : List Run) → Covers bytes other → length other ≤ limit → cost ranges ≤ cost other
  pub fewest : (other : List Run) → Covers bytes other → length other ≤ limit → cost other ≡ cost ranges → length ranges ≤ length other
