-- Section 4.4.8 of the Core Specification: control instructions that hold no others, but for the calls. They read values alone. The
-- label or frame that a branch or a return goes to answers it in the same step.
use Rattle.std.specs.Prelude.{ℕ, zero, suc, List, ◌∷◌, Option, Some, None, slice_get}
use Rattle.wz_types.specs.declared.trap.TrapKind.TheVariants.{Unreachable}
use Rattle.wz_types.specs.declared.value.Value.{Value}
use Rattle.wz_types.specs.declared.value.Value.TheVariants.{I32}
use Rattle.wz_store.specs.Changes.{Nothing}
use Rattle.wz_machine.specs.Outcomes.{Effect, Yields, Fails, HasNoRule, Outcome, Does, Jumps, Quits}

-- nop
abbrev pub nop_step : List Value → Effect
nop_step values = Yields Nothing values

-- unreachable
abbrev pub unreachable_step : List Value → Effect
unreachable_step values = Fails Unreachable

-- br l
abbrev pub br_step : ℕ → List Value → Outcome
br_step label values = Jumps label values

-- br_if l, where c isn't 0, and where it is
abbrev pub br_if_step : ℕ → List Value → Outcome
br_if_step label (I32 (suc c) ∷ values) = Jumps label values
br_if_step label (I32 zero ∷ values) = Does (Yields Nothing values)
br_if_step label values = Does HasNoRule

-- br_table l* l_N, where the operand names one of l*, and where it doesn't
abbrev pub listed_jump : Option ℕ → ℕ → List Value → Outcome
listed_jump (Some label) last values = Jumps label values
listed_jump None last values = Jumps last values

abbrev pub br_table_step : List ℕ → ℕ → List Value → Outcome
br_table_step labels last (I32 number ∷ values) = listed_jump (slice_get labels number) last values
br_table_step labels last values = Does HasNoRule

-- return
abbrev pub return_step : List Value → Outcome
return_step values = Quits values
