-- Section 7.5 of the Core Specification (soundness, in the appendix), of function instances: functions that are valid in their module are
-- typed in the state that a store and the module's bodies are.
use Rattle.std.specs.Prelude.{◌≡◌, ◌<◌, ℕ, List, Some, IsSomeAnd, IsTrue, slice_get, length}
use Rattle.wz_code.specs.BodyParts.{BodyParts}
use Rattle.wz_code.specs.References.{has_number}
use Rattle.wz_valid_code.specs.Context.{TypingContext}
use Rattle.wz_valid_code.specs.Typing.{IsBodyTyped}
use Rattle.wz_store.specs.declared.function.Function.{Function}
use Rattle.wz_store.specs.declared.function.Function.TheVariants.{Own, Import}
use Rattle.wz_store.specs.State.{StateOf}
use Rattle.wz_machine.specs.State.{FunctionInstance, State, state_of}
use Rattle.wz_machine.specs.TypedState.{numbers_from, state_context, FunctionTyped}

-- The context is the state's own but for what only validation looks at: which globals are imported, and of which functions references may
-- be made. All of those functions are there.
pub record IsValidationContext (context : TypingContext) (s : State) : Type 0 where
  pub alike : record context { imported_globals = 0; declared = numbers_from 0 (length s.functions) } ≡ state_context s
  pub declared : (function : ℕ) → IsTrue (has_number function context.declared) → function < length s.functions

-- a function's type is there, and where it is the module's own a body, which is valid for that type
abbrev pub IsFunctionValid : TypingContext → List BodyParts → Function → Type 0
IsFunctionValid context bodies (Own signature body) =
    IsSomeAnd (slice_get context.types signature) (λ type. IsSomeAnd (slice_get bodies body) (λ parts. IsBodyTyped context type parts))
IsFunctionValid context bodies (Import signature import) = IsSomeAnd (slice_get context.types signature) (λ type. Unit {0})

abbrev pub ValidFunctionsAreTyped : Type 0
ValidFunctionsAreTyped = (context : TypingContext) (bodies : List BodyParts) (store : StateOf Function) → IsValidationContext context (state_of bodies store)
    → ((index : ℕ) (function : Function) → slice_get store.functions index ≡ Some function → IsFunctionValid context bodies function)
    → (index : ℕ) (function : FunctionInstance) → slice_get (state_of bodies store).functions index ≡ Some function
    → FunctionTyped (state_context (state_of bodies store)) function
