-- Valid functions are typed in the state of their store.
use Rattle.std.proofs.Common.{◌≡◌, ◌<◌, ◌+◌, ◌++◌, ◌∷◌, ◌==◌, [], ℕ, length, zero, refl, suc, ap, get_or, arith, IsTrue, eq-eqb, List, Some, slice_get, map, Option, IsSomeAnd, None, subst}
use Rattle.std.proofs.lemmas.List.Folds.{list_any_at}
use Rattle.wz_types.specs.declared.types.ValType.{ValType}
use Rattle.wz_types.specs.FunctionType.{FunctionType}
use Rattle.wz_code.specs.BodyParts.{BodyParts}
use Rattle.wz_code.specs.Trees.{tree_of}
use Rattle.wz_code.specs.References.{has_number}
use Rattle.wz_num.specs.Number.{number}
use Rattle.wz_valid_code.specs.Context.{TypingContext, locals_of_runs}
use Rattle.wz_valid_code.specs.Laws.{Serves}
use Rattle.wz_valid_code.specs.Typing.{IsBodyTyped}
use Rattle.wz_valid_code.proofs.LawLemmas.{typing_serves}
use Rattle.wz_store.specs.declared.function.Function.{Function}
use Rattle.wz_store.specs.declared.function.Function.TheVariants.{Own, Import}
use Rattle.wz_machine.specs.TypedState.{numbers_from, state_context, BodyTyped, FunctionTyped}
use Rattle.wz_machine.specs.State.{State, body_from, ImportedBody, instance_of, FunctionInstance, state_of}
use Rattle.wz_machine.specs.TypedStores.{IsValidationContext, IsFunctionValid, ValidFunctionsAreTyped}
use Rattle.wz_machine.specs.TypedTerms.{scope_with}

-- ---- the numbers of all functions

length-numbers : (first count : ℕ) → length (numbers_from first count) ≡ count
length-numbers first zero = refl
length-numbers first (suc count) = ap suc (length-numbers (first + 1) count)

get-numbers : (first count i d : ℕ) → i < count → get_or (numbers_from first count) i d ≡ first + i
get-numbers first zero i d lt = absurd (omega (arith, lt))
get-numbers first (suc count) zero d lt = omega arith
get-numbers first (suc count) (suc i) d lt = let r = get-numbers (first + 1) count i d (omega (arith, lt)) in omega (arith, r)

is-numbered : (count i : ℕ) → i < count → IsTrue (has_number i (numbers_from 0 count))
is-numbered count i lt =
    let long = length-numbers 0 count in
    let found : get_or (numbers_from 0 count) i 0 ≡ 0 + i = get-numbers 0 count i 0 lt in
    list_any_at (λ (other : ℕ). i == other) (numbers_from 0 count) i 0 (omega (arith, lt, long)) (eq-eqb i (get_or (numbers_from 0 count) i 0) (omega (arith, found)))

-- ---- the module's context serves

serves-state : (context : TypingContext) (s : State) (locals results : List ValType) → IsValidationContext context s
    → Serves (scope_with context locals results) (scope_with (state_context s) locals results)
serves-state context s locals results of = record {
  types = ap (λ (c : TypingContext). c.types) of.alike;
  functions = ap (λ (c : TypingContext). c.functions) of.alike;
  tables = ap (λ (c : TypingContext). c.tables) of.alike;
  memories = ap (λ (c : TypingContext). c.memories) of.alike;
  globals = ap (λ (c : TypingContext). c.globals) of.alike;
  elements = ap (λ (c : TypingContext). c.elements) of.alike;
  datas = ap (λ (c : TypingContext). c.datas) of.alike;
  locals = refl;
  results = refl;
  declared = λ function h. is-numbered (length s.functions) function (of.declared function h);
}

body-typed : (context : TypingContext) (s : State) (type : FunctionType) (parts : BodyParts) → IsValidationContext context s → IsBodyTyped context type parts
    → BodyTyped (state_context s) type (body_from (Some parts))
body-typed context s type parts of h =
    typing_serves (scope_with context (type.params ++ locals_of_runs parts.locals) type.results)
    (scope_with (state_context s) (type.params ++ locals_of_runs parts.locals) type.results)
    (serves-state context s (type.params ++ locals_of_runs parts.locals) type.results of) (type.results ∷ []) (tree_of parts 0) [] type.results h

-- ---- functions

get-mapped : {A B : Type 0} (f : A → B) (xs : List A) (i : ℕ) (y : B) → slice_get (map f xs) i ≡ Some y → (x : A) × (slice_get xs i ≡ Some x) × (f x ≡ y)
get-mapped f [] i y h = absurd (cc h)
get-mapped f (x ∷ xs) zero y h = (x, refl, cc h)
get-mapped f (x ∷ xs) (suc i) y h = get-mapped f xs i y h

module _ (context : TypingContext) (bodies : List BodyParts) (s : State) (of : IsValidationContext context s) where
  body-found : (type : FunctionType) (o : Option BodyParts) → IsSomeAnd o (λ parts. IsBodyTyped context type parts) → BodyTyped (state_context s) type (body_from o)
  body-found type None h = absurd h
  body-found type (Some parts) h = body-typed context s type parts of h

  own-typed : (number body : ℕ) (o : Option FunctionType) → IsSomeAnd o (λ type. IsSomeAnd (slice_get bodies body) (λ parts. IsBodyTyped context type parts))
      → IsSomeAnd o (λ type. BodyTyped (state_context s) type (body_from (slice_get bodies body)))
  own-typed number body None h = absurd h
  own-typed number body (Some type) h = body-found type (slice_get bodies body) h

  import-typed : (number : ℕ) (o : Option FunctionType) → IsSomeAnd o (λ type. Unit {0}) → IsSomeAnd o (λ type. BodyTyped (state_context s) type (ImportedBody number))
  import-typed number None h = absurd h
  import-typed number (Some type) h = tt

  function-typed : (function : Function) → IsFunctionValid context bodies function → FunctionTyped (state_context s) (instance_of bodies function)
  function-typed (Own signature body) h =
      let types : context.types ≡ s.types = ap (λ (c : TypingContext). c.types) of.alike in
      subst (λ (ts : List FunctionType). IsSomeAnd (slice_get ts signature) (λ type. BodyTyped (state_context s) type (body_from (slice_get bodies body)))) types
      (own-typed signature body (slice_get context.types signature) h)
  function-typed (Import signature import) h =
      let types : context.types ≡ s.types = ap (λ (c : TypingContext). c.types) of.alike in
      subst (λ (ts : List FunctionType). IsSomeAnd (slice_get ts signature) (λ type. BodyTyped (state_context s) type (ImportedBody import))) types
      (import-typed import (slice_get context.types signature) h)

pub valid_functions_are_typed : ValidFunctionsAreTyped
valid_functions_are_typed context bodies store of valid index function h =
    let r = get-mapped (λ (f : Function). instance_of bodies f) store.functions index function h in
    subst (λ (f : FunctionInstance). FunctionTyped (state_context (state_of bodies store)) f) r.2
    (function-typed context bodies (state_of bodies store) of r.0 (valid index r.0 r.1))
