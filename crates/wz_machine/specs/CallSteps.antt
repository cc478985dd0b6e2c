-- Section 4.4.10 of the Core Specification: function calls; and of section 4.4.8 the rules of call and call_indirect. They read the
-- types, the functions and the table that is named.
use Rattle.std.specs.Prelude.{ℕ, nat_le, List, ◌∷◌, ◌++◌, Option, Some, None, if◌then◌else◌, length, take, drop, reverse, slice_get}
use Rattle.wz_types.specs.declared.types.ValType.{ValType}
use Rattle.wz_types.specs.declared.trap.TrapKind.TheVariants as trap
use Rattle.wz_types.specs.declared.value.Sort.{Sort}
use Rattle.wz_types.specs.declared.value.Sort.TheVariants as sort
use Rattle.wz_types.specs.declared.value.Reference.{Reference}
use Rattle.wz_types.specs.declared.value.Reference.TheVariants.{Null, Fn, Foreign}
use Rattle.wz_types.specs.declared.value.Value.{Value}
use Rattle.wz_types.specs.declared.value.Value.TheVariants.{I32}
use Rattle.wz_types.specs.FunctionType.{FunctionType}
use Rattle.wz_types.specs.SameType.{same_function_type}
use Rattle.wz_types.specs.Zeros.{zeros_of}
use Rattle.wz_store.specs.State.{Table}
use Rattle.wz_machine.specs.declared.questions.HostTarget.TheVariants as target
use Rattle.wz_machine.specs.State.{FunctionBody, OwnBody, ImportedBody, NoBody, Callable, callable_at, FunctionInstance}
use Rattle.wz_machine.specs.Terms.{AskHost}
use Rattle.wz_machine.specs.Outcomes.{Poses, Fails, HasNoRule, Outcome, Does, Calls}

-- ---- invocation; section 4.4.10

-- the locals that a function of its own starts with; arguments stand in the order of pushing
abbrev pub starting_locals : List ValType → List Value → List Value
starting_locals locals arguments = arguments ++ zeros_of locals

-- a function is called with these arguments, above these values: one of the instance's own enters a frame, one of the host asks
abbrev pub invocation : FunctionType → FunctionBody → List Value → List Value → Outcome
invocation type (OwnBody locals code) arguments values = Calls (length type.results) (starting_locals locals arguments) code values
invocation type (ImportedBody number) arguments values = Does (Poses (AskHost (target.Import number) arguments type) values)
invocation type NoBody arguments values = Does HasNoRule

-- as many arguments as the type has parameters are taken away, if there are so many
abbrev pub with_arguments : FunctionType → (List Value → List Value → Outcome) → List Value → Outcome
with_arguments type outcome values =
    if nat_le (length type.params) (length values)
    then outcome (reverse (take (length type.params) values)) (drop (length type.params) values)
    else Does HasNoRule

-- ---- call x

abbrev pub call_step : Option Callable → List Value → Outcome
call_step None values = Does HasNoRule
call_step (Some function) values = with_arguments function.type (λ arguments below. invocation function.type function.body arguments below) values

-- ---- call_indirect x y

-- a function of the instance, where this type is expected; types are compared by their contents
abbrev pub expected_call : FunctionType → Option Callable → List Value → Outcome
expected_call type None values = Does HasNoRule
expected_call type (Some function) values =
    if same_function_type function.type type then call_step (Some function) values else Does (Fails trap.IndirectType)

-- the function of the host with this number asks
abbrev pub host_call : FunctionType → ℕ → List Value → Outcome
host_call type id values = with_arguments type (λ arguments below. Does (Poses (AskHost (target.Foreign id) arguments type) below)) values

-- a function of the host, whose type is one of the module's
abbrev pub foreign_call : FunctionType → ℕ → Option FunctionType → List Value → Outcome
foreign_call type id None values = Does HasNoRule
foreign_call type id (Some actual) values = if same_function_type actual type then host_call type id values else Does (Fails trap.IndirectType)

-- an object of the host is no function; a function whose type is none of the module's has another than the expected one
abbrev pub sort_call : List FunctionType → FunctionType → ℕ → Sort → List Value → Outcome
sort_call types type id sort.Extern values = Does HasNoRule
sort_call types type id (sort.Func number) values = foreign_call type id (slice_get types number) values
sort_call types type id sort.OtherFunc values = Does (Fails trap.IndirectType)

-- what the table holds at the place
abbrev pub entry_call : List FunctionType → List FunctionInstance → FunctionType → Option Reference → List Value → Outcome
entry_call types functions type None values = Does (Fails trap.UndefinedElement)
entry_call types functions type (Some (Null kind)) values = Does (Fails trap.UninitializedElement)
entry_call types functions type (Some (Fn index)) values = expected_call type (callable_at types functions index) values
entry_call types functions type (Some (Foreign id sort)) values = sort_call types type id sort values

abbrev pub call_indirect_step : List FunctionType → List FunctionInstance → Option FunctionType → Option Table → List Value → Outcome
call_indirect_step types functions (Some type) (Some table) (I32 at ∷ values) = entry_call types functions type (slice_get table.entries at) values
call_indirect_step types functions type table values = Does HasNoRule
