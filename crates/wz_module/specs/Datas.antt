-- Section 2.5.8 of the Core Specification: data segments.
use Rattle.std.specs.Prelude.{ℕ, List}
use Rattle.wz_code.specs.Trees.{Code}

-- an active segment has its memory's index and the expression of its offset
pub data DataMode : Type 0 where
  PassiveData : DataMode
  ActiveData : ℕ → Code → DataMode

pub record DataSegment : Type 0 where
  pub mode : DataMode
  pub bytes : List ℕ
