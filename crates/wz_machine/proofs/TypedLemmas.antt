-- Typed code names no segment that isn't there, and the context of a state lasts.
use Rattle.std.proofs.Common.{◌≡◌, ℕ, zero, suc, ◌<◌, List, [], ◌∷◌, ◌++◌, Option, Some, None, IsSomeAnd, Bool, true, false, refl, ap, sym, subst, ◌∙◌, slice_get, map, length, ltb-true, is_some}
use Rattle.std.proofs.lemmas.List.{length-map}
use Rattle.std.proofs.lemmas.Option.{slice_get_within}
use Rattle.wz_types.specs.declared.types.ValType.{ValType}
use Rattle.wz_types.specs.declared.types.RefKind.{RefKind}
use Rattle.wz_types.specs.FunctionType.{FunctionType}
use Rattle.wz_code.specs.declared.instr.Instr.{Instr}
use Rattle.wz_code.specs.declared.instr.Instr.TheVariants.{TableInit, ElemDrop, MemoryInit, DataDrop}
use Rattle.wz_code.specs.Trees.{Code, End, Then, InBlock, InLoop, InIf, Leaf, Plain, TableBranch, TypedSelect}
use Rattle.wz_valid_code.specs.Operands.{Operands, pushed}
use Rattle.wz_valid_code.specs.Rules.{Rule, rule_if, Leads}
use Rattle.wz_valid_code.specs.Context.{TypingContext, Scope, Labels, shape_type, is_one_kind}
use Rattle.wz_valid_code.specs.Instructions.{rule_of}
use Rattle.wz_valid_code.specs.Typing.{IsTyped}
use Rattle.wz_store.specs.State.{Memory, Element}
use Rattle.wz_store.specs.Changes.{applied}
use Rattle.wz_machine.specs.State.{FunctionBody, OwnBody, ImportedBody, NoBody, FunctionInstance, State, LastingParts, lasting_parts}
use Rattle.wz_machine.specs.Leaves.{CodeHas, BodyHas, FunctionsHave}
use Rattle.wz_machine.specs.Within.{InstrWithin, LeafWithin, NamesIn}
use Rattle.wz_machine.specs.TypedState.{numbers_from, state_context, BodyTyped}
use Rattle.wz_machine.specs.Laws.{TypedNames, ContextLasts}
use Rattle.wz_machine.proofs.ChangeLemmas.{change_keeps}

-- ---- what a rule that leads somewhere says of segments

-- its test is passed
pub if-passed : (b : Bool) (rule : Rule) (before after : Operands) → Leads (rule_if b rule) before after → (b ≡ true) × Leads rule before after
if-passed true rule before after h = (refl, h)
if-passed false rule before after h = absurd h

one_kind-there : (kinds : List RefKind) (i : ℕ) (kind other : Option RefKind) → slice_get kinds i ≡ kind → is_one_kind kind other ≡ true → i < length kinds
one_kind-there kinds i None other is h = absurd (cc h)
one_kind-there kinds i (Some kind) other is h = slice_get_within kinds i kind is

there-within : {A : Type 0} (kinds : List A) (i : ℕ) (kind : Option A) → slice_get kinds i ≡ kind → is_some kind ≡ true → i < length kinds
there-within kinds i None is h = absurd (cc h)
there-within kinds i (Some kind) is h = slice_get_within kinds i kind is

instr-within : (scope : Scope) (labels : Labels) (instr : Instr) (before next : Operands) → Leads (rule_of scope labels (Plain instr)) before next
    → InstrWithin (length scope.context.elements) scope.context.datas instr
instr-within scope labels (TableInit segment table) before next h =
    one_kind-there scope.context.elements segment (slice_get scope.context.elements segment) (slice_get scope.context.tables table) refl (if-passed _ _ _ _ h).0
instr-within scope labels (ElemDrop segment) before next h =
    there-within scope.context.elements segment (slice_get scope.context.elements segment) refl (if-passed _ _ _ _ h).0
instr-within scope labels (MemoryInit segment memory) before next h =
    let r = if-passed _ _ _ _ (if-passed _ _ _ _ h).1 in ltb-true segment scope.context.datas r.0
instr-within scope labels (DataDrop segment) before next h = ltb-true segment scope.context.datas (if-passed _ _ _ _ h).0
instr-within scope labels instr before next h = tt

leaf-within : (scope : Scope) (labels : Labels) (leaf : Leaf) (before next : Operands) → Leads (rule_of scope labels leaf) before next
    → LeafWithin (length scope.context.elements) scope.context.datas leaf
leaf-within scope labels (Plain instr) before next h = instr-within scope labels instr before next h
leaf-within scope labels (TableBranch numbers last) before next h = tt
leaf-within scope labels (TypedSelect types) before next h = tt

-- ---- code, functions and states

of-some : {A : Type 0} (o : Option A) (P : A → Type 0) (Q : Type 0) → IsSomeAnd o P → ((a : A) → P a → Q) → Q
of-some None P Q h use_it = absurd h
of-some (Some a) P Q h use_it = use_it a h

code-within : (scope : Scope) (labels : Labels) (code : Code) (before : Operands) (after : List ValType) → IsTyped scope labels code before after
    → CodeHas (λ leaf. LeafWithin (length scope.context.elements) scope.context.datas leaf) code
code-within scope labels End before after h = tt
code-within scope labels (Then leaf rest) before after h = (leaf-within scope labels leaf before h.0 h.1, code-within scope labels rest h.0 after h.2)
code-within scope labels (InBlock shape inner rest) before after h =
    of-some (shape_type scope.context shape) _ _ h (λ type k. (
      code-within scope (type.results ∷ labels) inner (pushed type.params []) type.results k.0,
      code-within scope labels rest k.1.0 after k.1.2,
    ))
code-within scope labels (InLoop shape inner rest) before after h =
    of-some (shape_type scope.context shape) _ _ h (λ type k. (
      code-within scope (type.params ∷ labels) inner (pushed type.params []) type.results k.0,
      code-within scope labels rest k.1.0 after k.1.2,
    ))
code-within scope labels (InIf shape first second rest) before after h =
    of-some (shape_type scope.context shape) _ _ h (λ type k. (
      code-within scope (type.results ∷ labels) first (pushed type.params []) type.results k.0,
      code-within scope (type.results ∷ labels) second (pushed type.params []) type.results k.1,
      code-within scope labels rest k.2.0 after k.2.2,
    ))

functions-of : (Is : Leaf → Type 0) (functions : List FunctionInstance)
    → ((index : ℕ) (function : FunctionInstance) → slice_get functions index ≡ Some function → BodyHas Is function.body) → FunctionsHave Is functions
functions-of Is [] h = tt
functions-of Is (function ∷ functions) h = (h zero function refl, functions-of Is functions (λ index. h (suc index)))

body-within : (s : State) (type : FunctionType) (body : FunctionBody) → BodyTyped (state_context s) type body → BodyHas (NamesIn s) body
body-within s type (OwnBody locals code) h =
    subst (λ (n : ℕ). CodeHas (λ leaf. LeafWithin n (length s.datas) leaf) code) (length-map s.elements (λ (element : Element). element.kind))
    (code-within (record { context = state_context s; locals = type.params ++ locals; results = type.results }) (type.results ∷ []) code [] type.results h)
body-within s type (ImportedBody number) h = tt
body-within s type NoBody h = tt

pub typed_names : TypedNames
typed_names s typed =
    functions-of (NamesIn s) s.functions
    (λ index function is.
    of-some (slice_get s.types function.signature) (λ type. BodyTyped (state_context s) type function.body) (BodyHas (NamesIn s) function.body)
    (typed.functions index function is) (λ type h. body-within s type function.body h))

-- ---- the context

-- by what lasts
abbrev context_by : LastingParts → TypingContext
context_by parts = record {
  types = parts.types;
  functions = map (λ (function : FunctionInstance). function.signature) parts.functions;
  tables = parts.table_kinds;
  memories = length parts.memory_maxima;
  globals = parts.globals;
  imported_globals = 0;
  elements = parts.element_kinds;
  datas = parts.datas;
  declared = numbers_from 0 (length parts.functions);
}

by-lasting : (s : State) → context_by (lasting_parts s) ≡ state_context s
by-lasting s = ap (λ (n : ℕ). record (state_context s) { memories = n }) (length-map s.memories (λ (memory : Memory). memory.maximum))

pub context_lasts : ContextLasts
context_lasts change s = sym (by-lasting (applied change s)) ∙ ap (λ (parts : LastingParts). context_by parts) (change_keeps change s) ∙ by-lasting s
