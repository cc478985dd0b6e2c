-- Section 4.4.5 of the Core Specification: variable instructions. They read and write the frame's locals, and one global.
use Rattle.std.specs.Prelude.{ℕ, List, ◌∷◌, Option, Some, None, if◌then◌else◌, slice_set}
use Rattle.wz_types.specs.declared.value.Value.{Value}
use Rattle.wz_types.specs.Fits.{value_fits}
use Rattle.wz_store.specs.State.{Global}
use Rattle.wz_store.specs.Changes.{Nothing, SetGlobal}
use Rattle.wz_machine.specs.Outcomes.{Effect, Yields, HasNoRule, Outcome, Does, SetsLocals}

-- local.get x
abbrev pub local_get_step : Option Value → List Value → Effect
local_get_step None values = HasNoRule
local_get_step (Some value) values = Yields Nothing (value ∷ values)

-- local.set x, where a local of this number is there
abbrev pub local_set_step : List Value → ℕ → Option Value → List Value → Outcome
local_set_step locals index (Some old) (value ∷ values) = SetsLocals (slice_set locals index value) values
local_set_step locals index old values = Does HasNoRule

-- local.tee x: the value stays
abbrev pub local_tee_step : List Value → ℕ → Option Value → List Value → Outcome
local_tee_step locals index (Some old) (value ∷ values) = SetsLocals (slice_set locals index value) (value ∷ values)
local_tee_step locals index old values = Does HasNoRule

-- global.get x
abbrev pub global_get_step : Option Global → List Value → Effect
global_get_step None values = HasNoRule
global_get_step (Some global) values = Yields Nothing (global.content ∷ values)

-- global.set x, where the value fits the global's type, with so many functions and types that references may name
abbrev pub global_set_step : ℕ → ℕ → ℕ → Option Global → List Value → Effect
global_set_step functions types index (Some global) (value ∷ values) =
    if value_fits value global.type.value functions types then Yields (SetGlobal index value) values else HasNoRule
global_set_step functions types index global values = HasNoRule
