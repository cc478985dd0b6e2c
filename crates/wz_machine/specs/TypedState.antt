-- Section 7.5 of the Core Specification (soundness, in the appendix): when what an instance holds is typed, in the context that its own lists
-- give. That context is made of parts which no step and no access changes.
use Rattle.std.specs.Prelude.{◌≡◌, ◌<◌, ◌^◌, ◌+◌, ℕ, zero, suc, List, [], ◌∷◌, ◌++◌, Some, IsSomeAnd, slice_get, map, length}
use Rattle.wz_types.specs.declared.types.ValType.{ValType}
use Rattle.wz_types.specs.declared.types.RefKind.{RefKind}
use Rattle.wz_types.specs.declared.value.Reference.{Reference}
use Rattle.wz_types.specs.declared.value.Value.{Value}
use Rattle.wz_types.specs.declared.value.Value.TheVariants.{Ref}
use Rattle.wz_types.specs.FunctionType.{FunctionType}
use Rattle.wz_types.specs.Fits.{type_of_kind, Fits}
use Rattle.wz_valid_code.specs.Context.{TypingContext}
use Rattle.wz_valid_code.specs.Typing.{IsTyped}
use Rattle.wz_store.specs.State.{Global, Table, Memory, Element, pages_of}
use Rattle.wz_machine.specs.State.{FunctionBody, OwnBody, ImportedBody, NoBody, FunctionInstance, State}

-- ---- the context of a state, in which a reference may be made of each function, and no global is one of a module's imports

abbrev pub numbers_from : ℕ → ℕ → List ℕ
numbers_from first zero = []
numbers_from first (suc count) = first ∷ numbers_from (first + 1) count

abbrev pub state_context : State → TypingContext
state_context s = record {
  types = s.types;
  functions = map (λ (function : FunctionInstance). function.signature) s.functions;
  tables = map (λ (table : Table). table.kind) s.tables;
  memories = length s.memories;
  globals = map (λ (global : Global). global.type) s.globals;
  imported_globals = 0;
  elements = map (λ (element : Element). element.kind) s.elements;
  datas = length s.datas;
  declared = numbers_from 0 (length s.functions);
}

-- ---- what a typed state holds

-- the value fits the type, with the functions and types of this context
abbrev pub HasType : TypingContext → Value → ValType → Type 0
HasType context value type = Fits value type (length context.functions) (length context.types)

-- references of one kind
abbrev pub HaveKind : TypingContext → RefKind → List Reference → Type 0
HaveKind context kind references = (at : ℕ) (reference : Reference) → slice_get references at ≡ Some reference → HasType context (Ref reference) (type_of_kind kind)

abbrev pub HoldsBytes : List ℕ → Type 0
HoldsBytes bytes = (at byte : ℕ) → slice_get bytes at ≡ Some byte → byte < 256

-- an own function's body is there, and typed; its outermost label is the function's own
abbrev pub BodyTyped : TypingContext → FunctionType → FunctionBody → Type 0
BodyTyped context type (OwnBody locals code) =
    IsTyped (record { context = context; locals = type.params ++ locals; results = type.results }) (type.results ∷ []) code [] type.results
BodyTyped context type (ImportedBody number) = Unit {0}
BodyTyped context type NoBody = ⊥

abbrev pub FunctionTyped : TypingContext → FunctionInstance → Type 0
FunctionTyped context function = IsSomeAnd (slice_get context.types function.signature) (λ type. BodyTyped context type function.body)

pub record IsStateTyped (context : TypingContext) (s : State) : Type 0 where
  pub functions : (index : ℕ) (function : FunctionInstance) → slice_get s.functions index ≡ Some function → FunctionTyped context function
  pub globals : (index : ℕ) (global : Global) → slice_get s.globals index ≡ Some global → HasType context global.content global.type.value
  pub tables : (index : ℕ) (table : Table) → slice_get s.tables index ≡ Some table → HaveKind context table.kind table.entries
  pub elements : (index : ℕ) (element : Element) → slice_get s.elements index ≡ Some element → HaveKind context element.kind element.items
  pub memories : (index : ℕ) (memory : Memory) → slice_get s.memories index ≡ Some memory → HoldsBytes memory.bytes
  pub datas : (index : ℕ) (bytes : List ℕ) → slice_get s.datas index ≡ Some bytes → HoldsBytes bytes
  -- sizes are numbers of 32 bits
  pub pages : (index : ℕ) (memory : Memory) → slice_get s.memories index ≡ Some memory → pages_of memory < 2 ^ 32
  pub sizes : (index : ℕ) (table : Table) → slice_get s.tables index ≡ Some table → length table.entries < 2 ^ 32
