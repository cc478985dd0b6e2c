-- Section 4.4.2 of the Core Specification: reference instructions. They read values, and ref.func the functions.
use Rattle.std.specs.Prelude.{ℕ, List, ◌∷◌, Option, Some, None}
use Rattle.wz_types.specs.declared.types.RefKind.{RefKind}
use Rattle.wz_types.specs.declared.value.Reference.TheVariants.{Null, Fn, Foreign}
use Rattle.wz_types.specs.declared.value.Value.{Value}
use Rattle.wz_types.specs.declared.value.Value.TheVariants.{I32, Ref}
use Rattle.wz_store.specs.Changes.{Nothing}
use Rattle.wz_machine.specs.Outcomes.{Effect, Yields, HasNoRule}
use Rattle.wz_machine.specs.State.{FunctionInstance}

-- ref.null t
abbrev pub ref_null_step : RefKind → List Value → Effect
ref_null_step kind values = Yields Nothing (Ref (Null kind) ∷ values)

-- ref.is_null
abbrev pub ref_is_null_step : List Value → Effect
ref_is_null_step (Ref (Null kind) ∷ values) = Yields Nothing (I32 1 ∷ values)
ref_is_null_step (Ref (Fn index) ∷ values) = Yields Nothing (I32 0 ∷ values)
ref_is_null_step (Ref (Foreign id sort) ∷ values) = Yields Nothing (I32 0 ∷ values)
ref_is_null_step values = HasNoRule

-- ref.func x
abbrev pub ref_func_step : ℕ → Option FunctionInstance → List Value → Effect
ref_func_step index None values = HasNoRule
ref_func_step index (Some function) values = Yields Nothing (Ref (Fn index) ∷ values)
