-- Section 4.4.11 of the Core Specification (expressions), for the constant expressions of section 3.3.10: their values, by the rules of
-- the instructions themselves.
use Rattle.std.specs.Prelude.{ℕ, List, [], ◌∷◌, Option, Some, None, option_and_then}
use Rattle.wz_types.specs.declared.value.Reference.{Reference}
use Rattle.wz_types.specs.declared.value.Value.{Value}
use Rattle.wz_types.specs.declared.value.Value.TheVariants.{I32, I64, F32, F64, Ref}
use Rattle.wz_code.specs.Trees.{Code, End, Then, InBlock, InLoop, InIf}
use Rattle.wz_module.specs.Module.{Module}
use Rattle.wz_store.specs.Changes.{Change, Nothing, SetGlobal, WriteTable, WriteMemory, GrowTable, GrowMemory, EmptyElement, EmptyData}
use Rattle.wz_machine.specs.State.{State}
use Rattle.wz_machine.specs.Outcomes.{Effect, Yields, Poses, Fails, HasNoRule, Outcome, Does, SetsLocals, Jumps, Quits, Calls}
use Rattle.wz_machine.specs.InstrSteps.{leaf_step}
use Rattle.wz_init.specs.Functions.{functions_in}

-- ---- the values that instructions leave

-- an instruction of a constant expression changes nothing
abbrev pub unchanged : List Value → Change → Option (List Value)
unchanged values Nothing = Some values
unchanged values (SetGlobal index value) = None
unchanged values (WriteTable index at entries) = None
unchanged values (WriteMemory index at bytes) = None
unchanged values (GrowTable index by reference) = None
unchanged values (GrowMemory index by) = None
unchanged values (EmptyElement index) = None
unchanged values (EmptyData index) = None

abbrev pub effect_values : Effect → Option (List Value)
effect_values (Yields change values) = unchanged values change
effect_values (Poses question values) = None
effect_values (Fails kind) = None
effect_values HasNoRule = None

abbrev pub outcome_values : Outcome → Option (List Value)
outcome_values (Does effect) = effect_values effect
outcome_values (SetsLocals locals values) = None
outcome_values (Jumps label values) = None
outcome_values (Quits values) = None
outcome_values (Calls count locals code values) = None

-- instructions one after another, with these values before them, the last pushed first; there are no locals
abbrev pub values_behind : State → Code → List Value → Option (List Value)
values_behind s End values = Some values
values_behind s (Then leaf rest) values = option_and_then (λ left. values_behind s rest left) (outcome_values (leaf_step s [] leaf values))
values_behind s (InBlock shape inner rest) values = None
values_behind s (InLoop shape inner rest) values = None
values_behind s (InIf shape first second rest) values = None

-- ---- the value of an expression

abbrev pub single_value : Option (List Value) → Option Value
single_value None = None
single_value (Some []) = None
single_value (Some (value ∷ [])) = Some value
single_value (Some (value ∷ other ∷ values)) = None

-- The auxiliary instance of section 4.5.4, in which the module's expressions are evaluated: all functions, and the globals that are
-- imported, of which a module in the tool's profile has none.
abbrev pub auxiliary_state : Module → State
auxiliary_state m =
    record { types = m.types; functions = functions_in m; globals = []; tables = []; memories = []; elements = []; datas = [] }

-- none where the expression isn't a constant one of the module
unfoldable pub constant_value : Module → Code → Option Value
constant_value m code = single_value (values_behind (auxiliary_state m) code [])

-- ---- by what is asked of it

-- an offset is an i32
abbrev pub number_in : Option Value → Option ℕ
number_in None = None
number_in (Some (I32 bits)) = Some bits
number_in (Some (I64 bits)) = None
number_in (Some (F32 bits)) = None
number_in (Some (F64 bits)) = None
number_in (Some (Ref reference)) = None

abbrev pub constant_number : Module → Code → Option ℕ
constant_number m code = number_in (constant_value m code)

-- an item of an element segment is a reference
abbrev pub reference_in : Option Value → Option Reference
reference_in None = None
reference_in (Some (I32 bits)) = None
reference_in (Some (I64 bits)) = None
reference_in (Some (F32 bits)) = None
reference_in (Some (F64 bits)) = None
reference_in (Some (Ref reference)) = Some reference

abbrev pub constant_reference : Module → Code → Option Reference
constant_reference m code = reference_in (constant_value m code)
