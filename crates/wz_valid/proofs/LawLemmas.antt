-- The laws that the crates above cite.
use Rattle.std.proofs.Common.{◌≡◌, ℕ, zero, suc, ◌+◌, ◌<◌, ◌≤◌, List, [], ◌∷◌, ◌++◌, length, Option, Some, None, IsSomeAnd, ◌⊎◌, inl, inr, Bool, true, false, IsTrue, ◌&&◌}
use Rattle.std.proofs.Common.{refl, sym, ap, subst, ◌∙◌, take, slice_get, All, arith}
use Rattle.std.specs.Prelude.{is_some}
use Rattle.std.specs.List.{flat_map}
use Rattle.std.specs.Option.{option_to_list}
use Rattle.std.proofs.lemmas.List.Elements.{All-nil, All-cons, All-head, All-tail, All-append}
use Rattle.std.proofs.lemmas.List.Sums.{sum_by-take-le}
use Rattle.std.proofs.lemmas.Option.{slice_get_within}
use Rattle.wz_types.specs.declared.types.ValType.{ValType}
use Rattle.wz_types.specs.declared.types.ValType.TheVariants.{I32}
use Rattle.wz_types.specs.declared.types.TableType.{TableType}
use Rattle.wz_types.specs.Fits.{type_of_kind}
use Rattle.wz_code.specs.declared.instr.Instr.TheVariants.{RefFunc}
use Rattle.wz_code.specs.Trees.{Code, End, Then, InBlock, InLoop, InIf, Leaf, Plain, TableBranch, TypedSelect}
use Rattle.wz_code.specs.References.{has_number, referred_in_leaf, referred_in}
use Rattle.wz_code.proofs.NumberLemmas.{Has, has-cases, one-number}
use Rattle.wz_module.specs.declared.items.ImportKind.{ImportKind}
use Rattle.wz_module.specs.declared.items.ImportKind.TheVariants as kind
use Rattle.wz_module.specs.declared.items.ExportTarget.{ExportTarget}
use Rattle.wz_module.specs.declared.items.ExportTarget.TheVariants as target
use Rattle.wz_module.specs.Imports.{Import}
use Rattle.wz_module.specs.Exports.{Export}
use Rattle.wz_module.specs.Functions.{BodyTree}
use Rattle.wz_module.specs.Globals.{GlobalDef}
use Rattle.wz_module.specs.Elements.{ElemMode, PassiveElem, ActiveElem, DeclarativeElem, Elem}
use Rattle.wz_module.specs.Module.{Module}
use Rattle.wz_module.specs.References.{referred_in_mode, referred_in_segment, exported_function}
use Rattle.wz_valid_code.specs.Operands.{Operands}
use Rattle.wz_valid_code.specs.Rules.{Leads}
use Rattle.wz_valid_code.specs.Context.{TypingContext, may_refer}
use Rattle.wz_valid_code.specs.ConstantInstructions.{constant_rule}
use Rattle.wz_valid_code.specs.Typing.{LeadsToConstant, IsConstant}
use Rattle.wz_valid_code.proofs.LawLemmas.{if-fits}
use Rattle.wz_valid.specs.declared.faults.Part.{Part}
use Rattle.wz_valid.specs.declared.faults.Part.TheVariants as part
use Rattle.wz_valid.specs.declared.faults.OutOfProfile.TheVariants.{ImportKind as AnImport, MemoryTooLarge, TableTooLarge, TooManyLocals}
use Rattle.wz_valid.specs.Indices.{function_import, imported_functions, imported_memories, all_functions, all_tables}
use Rattle.wz_valid.specs.Contexts.{context_of, globals_context_of}
use Rattle.wz_valid.specs.Items.{IsImportOk, IsFunctionOk, IsBodyOk, IsTreeTyped, IsGlobalOk, IsTarget, IsExportOk, IsStartOk, IsElemModeOk, IsElemOk, IsDataModeOk}
use Rattle.wz_valid.specs.Validity.{IsItemOk, part_rank, StandsBefore, IsFirstInvalid}
use Rattle.wz_valid.specs.Profile.{IsFunctionImport, locals_limit, local_counts}
use Rattle.wz_valid.specs.Laws.{StartTakesNothing, ExportsAreThere, GlobalsAreOk, ElementsAreOk, DatasAreOk, TypesAreThere, BodiesAreTyped, DeclaredAreThere}
use Rattle.wz_valid.specs.Laws.{FirstIsOne, ValidHasNone, InsideIsNotOutside}

-- ---- all items of a list

all_items : {X : Type 0} (P : X → Type 0) (xs : List X) → ((i : ℕ) → i < length xs → IsSomeAnd (slice_get xs i) P) → All P xs
all_items P [] each = All-nil P
all_items P (x ∷ xs) each = All-cons P x xs (each 0 (omega arith)) (all_items P xs (λ i less. each (suc i) (omega (arith, less))))

some_more : {X : Type 0} (o : Option X) (P Q : X → Type 0) → ((x : X) → P x → Q x) → IsSomeAnd o P → IsSomeAnd o Q
some_more None P Q more h = h
some_more (Some x) P Q more h = more x h

some_at : {X : Type 0} (o : Option X) (P : X → Type 0) (x : X) → o ≡ Some x → IsSomeAnd o P → P x
some_at None P x e h = absurd h
some_at (Some y) P x e h = subst P (let same : y ≡ x = cc in same) h

-- ---- the items of a valid module

pub start_takes_nothing : StartTakesNothing
start_takes_nothing m function valid is =
    let P : Option ℕ → Type 0 = λ start. (index : ℕ) → index < length (option_to_list start)
    → IsSomeAnd (slice_get (option_to_list start) index) (λ f. IsStartOk m f) in
    subst P is (valid part.Start) 0 (omega arith)

pub exports_are_there : ExportsAreThere
exports_are_there m valid =
    all_items (λ e. IsTarget m e.target) m.exports
    (λ i less. some_more (slice_get m.exports i) (λ e. IsExportOk m i e) (λ e. IsTarget m e.target) (λ e ok. ok.0) (valid part.Export i less))

pub globals_are_ok : GlobalsAreOk
globals_are_ok m valid = all_items (λ g. IsGlobalOk m g) m.globals (valid part.Global)

pub elements_are_ok : ElementsAreOk
elements_are_ok m valid = all_items (λ e. IsElemOk m e) m.elements (valid part.Element)

pub datas_are_ok : DatasAreOk
datas_are_ok m valid = all_items (λ d. IsDataModeOk m d.mode) m.datas (valid part.DataSegment)

-- ---- functions

import_types : (m : Module) (imports : List Import) (count : ℕ → ℕ) → ((i : ℕ) → i < length imports → IsSomeAnd (slice_get imports i) (λ x. IsImportOk m (count i) x.kind))
    → All (λ number. number < length m.types) (imported_functions imports)
import_types m [] count each = All-nil (λ number. number < length m.types)
import_types m (x ∷ imports) count each =
    let P : ℕ → Type 0 = λ number. number < length m.types in
    All-append P (function_import x.kind) (imported_functions imports) (by x.kind (count 0) (each 0 (omega arith)))
    (import_types m imports (λ i. count (suc i)) (λ i less. each (suc i) (omega (arith, less)))) where
      by : (k : ImportKind) (n : ℕ) → IsImportOk m n k → All (λ number. number < length m.types) (function_import k)
      by (kind.Func type) n ok = All-cons (λ number. number < length m.types) type [] ok (All-nil (λ number. number < length m.types))
      by (kind.Table type) n ok = All-nil (λ number. number < length m.types)
      by (kind.Memory type) n ok = All-nil (λ number. number < length m.types)
      by (kind.Global type) n ok = All-nil (λ number. number < length m.types)

pub types_by_parts : (m : Module) → ((i : ℕ) → i < length m.imports → IsItemOk m part.Import i) → ((i : ℕ) → i < length m.functions → IsItemOk m part.Function i)
    → All (λ number. number < length m.types) (all_functions m)
types_by_parts m imports functions =
    let P : ℕ → Type 0 = λ number. number < length m.types in
    All-append P (imported_functions m.imports) m.functions (import_types m m.imports (λ i. length (imported_memories (take i m.imports))) imports)
    (all_items P m.functions (λ i less. some_more (slice_get m.functions i) (λ type. IsFunctionOk m i type) P (λ type ok. ok.0) (functions i less)))

pub types_are_there : TypesAreThere
types_are_there m valid = types_by_parts m (valid part.Import) (valid part.Function)

pub bodies_are_typed : BodiesAreTyped
bodies_are_typed m number type valid here =
    let there = slice_get_within m.functions number type here in
    let fine : IsFunctionOk m number type = some_at (slice_get m.functions number) (λ t. IsFunctionOk m number t) type here (valid part.Function number there) in
    let typed = valid part.Code number fine.1 in
    elim_body (slice_get m.bodies number) typed where
      elim_body : (o : Option BodyTree) → IsSomeAnd o (λ body. IsBodyOk m number body)
          → IsSomeAnd (slice_get m.types type) (λ signature. IsSomeAnd o (λ body. IsTreeTyped (context_of m) signature body))
      elim_body None h = absurd h
      elim_body (Some body) h =
          some_at (slice_get m.functions number) (λ t. IsSomeAnd (slice_get m.types t) (λ signature. IsTreeTyped (context_of m) signature body)) type here h

-- ---- what is named is there

and-left : (a b : Bool) → IsTrue (a && b) → IsTrue a
and-left true b h = refl
and-left false b h = h

leaf-there : (context : TypingContext) (leaf : Leaf) (s n : Operands) → Leads (constant_rule context leaf) s n → (f : ℕ) → Has f (referred_in_leaf leaf)
    → IsTrue (is_some (slice_get context.functions f))
leaf-there context (Plain (RefFunc g)) s n l f h =
    let there = and-left (is_some (slice_get context.functions g)) (has_number g context.declared) (if-fits (may_refer context g) _ s n l) in
    subst (λ (k : ℕ). IsTrue (is_some (slice_get context.functions k))) (sym (one-number f g h)) there
leaf-there context (Plain instr) s n l f h = absurd cc
leaf-there context (TableBranch numbers last) s n l f h = absurd cc
leaf-there context (TypedSelect types) s n l f h = absurd cc

constant-there : (context : TypingContext) (code : Code) (s : Operands) (type : ValType) → LeadsToConstant context code s type → (f : ℕ) → Has f (referred_in code)
    → IsTrue (is_some (slice_get context.functions f))
constant-there context End s type t f h = absurd cc
constant-there context (Then leaf rest) s type t f h =
    elim (has-cases f (referred_in_leaf leaf) (referred_in rest) h) [
      | inl here ↦ leaf-there context leaf s t.0 t.1 f here
      | inr later ↦ constant-there context rest t.0 type t.2 f later
    ]
constant-there context (InBlock shape inner rest) s type t f h = absurd t
constant-there context (InLoop shape inner rest) s type t f h = absurd t
constant-there context (InIf shape first second rest) s type t f h = absurd t

all-there : {X : Type 0} (F : X → List ℕ) (P : X → Type 0) (functions : List ℕ) (f : ℕ) (xs : List X) → ((x : X) → P x → Has f (F x) → IsTrue (is_some (slice_get functions f)))
    → All P xs → Has f (flat_map F xs) → IsTrue (is_some (slice_get functions f))
all-there F P functions f [] each all h = absurd cc
all-there F P functions f (x ∷ xs) each all h =
    elim (has-cases f (F x) (flat_map F xs) h) [
      | inl here ↦ each x (All-head P x xs all) here
      | inr later ↦ all-there F P functions f xs each (All-tail P x xs all) later
    ]

there-below : (xs : List ℕ) (i : ℕ) → IsTrue (is_some (slice_get xs i)) → i < length xs
there-below [] i h = absurd cc
there-below (x ∷ xs) zero h = omega arith
there-below (x ∷ xs) (suc i) h = let less = there-below xs i h in omega (arith, less)

below-there : (xs : List ℕ) (i : ℕ) → i < length xs → IsTrue (is_some (slice_get xs i))
below-there [] i less = absurd (omega (arith, less))
below-there (x ∷ xs) zero less = refl
below-there (x ∷ xs) (suc i) less = below-there xs i (omega (arith, less))

mode-there : (m : Module) (e : Elem) (mode : ElemMode) (f : ℕ) → IsElemModeOk m e mode → Has f (referred_in_mode mode) → IsTrue (is_some (slice_get (all_functions m) f))
mode-there m e PassiveElem f ok h = absurd cc
mode-there m e (ActiveElem table offset) f ok h = constant-there (context_of m) offset [] I32 ok.1 f h
mode-there m e DeclarativeElem f ok h = absurd cc

target-there : (m : Module) (t : ExportTarget) (f : ℕ) → IsTarget m t → Has f (exported_function t) → IsTrue (is_some (slice_get (all_functions m) f))
target-there m (target.Func index) f ok h = below-there (all_functions m) f (subst (λ (k : ℕ). k < length (all_functions m)) (sym (one-number f index h)) ok)
target-there m (target.Table index) f ok h = absurd cc
target-there m (target.Memory index) f ok h = absurd cc
target-there m (target.Global index) f ok h = absurd cc

segment-there : (m : Module) (e : Elem) (f : ℕ) → IsElemOk m e → Has f (referred_in_segment e) → IsTrue (is_some (slice_get (all_functions m) f))
segment-there m e f ok h =
    elim (has-cases f (referred_in_mode e.mode) (flat_map referred_in e.init) h) [
      | inl here ↦ mode-there m e e.mode f ok.1 here
      | inr later ↦ all-there referred_in (λ init. IsConstant (context_of m) init (type_of_kind e.kind)) (all_functions m) f e.init
          (λ init t. constant-there (context_of m) init [] (type_of_kind e.kind) t f) ok.0 later
    ]

pub declared_are_there : DeclaredAreThere
declared_are_there m f valid h =
    let functions = all_functions m in
    let globals = flat_map (λ (g : GlobalDef). referred_in g.init) m.globals in
    let elements = flat_map referred_in_segment m.elements in
    let exports = flat_map (λ (e : Export). exported_function e.target) m.exports in
    there-below functions f
    (elim (has-cases f globals (elements ++ exports) h) as (λ _. IsTrue (is_some (slice_get functions f))) [
      | inl here ↦
          all-there (λ (g : GlobalDef). referred_in g.init) (λ g. IsGlobalOk m g) functions f m.globals
          (λ g ok. constant-there (globals_context_of m) g.init [] g.kind.value ok f) (globals_are_ok m valid) here
      | inr more ↦
          elim (has-cases f elements exports more) [
            | inl here ↦ all-there referred_in_segment (λ e. IsElemOk m e) functions f m.elements (λ e ok. segment-there m e f ok) (elements_are_ok m valid) here
            | inr later ↦
                all-there (λ (e : Export). exported_function e.target) (λ e. IsTarget m e.target) functions f m.exports (λ e ok. target-there m e.target f ok)
                (exports_are_there m valid) later
          ]
    ])

-- ---- refusals

pub valid_has_none : ValidHasNone
valid_has_none m part i valid first = first.broken (valid part i first.there)

parts_in_order : List Part
parts_in_order =
    part.Import ∷ part.Function ∷ part.Table ∷ part.Memory ∷ part.Global ∷ part.Export ∷ part.Start ∷ part.Element ∷ part.Code ∷ part.DataSegment ∷ []

at_rank : (p : Part) → slice_get parts_in_order (part_rank p) ≡ Some p
unfolding parts_in_order
at_rank part.Import = refl
at_rank part.Function = refl
at_rank part.Table = refl
at_rank part.Memory = refl
at_rank part.Global = refl
at_rank part.Export = refl
at_rank part.Start = refl
at_rank part.Element = refl
at_rank part.Code = refl
at_rank part.DataSegment = refl

pub same_rank : (p q : Part) → part_rank p ≡ part_rank q → p ≡ q
same_rank p q e =
    let found : Some p ≡ Some q = sym (at_rank p) ∙ ap (λ (n : ℕ). slice_get parts_in_order n) e ∙ at_rank q in
    cc found

pub three_ways : (a b : ℕ) → (a < b) ⊎ ((a ≡ b) ⊎ (b < a))
three_ways zero zero = inr (inl refl)
three_ways zero (suc b) = inl (omega arith)
three_ways (suc a) zero = inr (inr (omega arith))
three_ways (suc a) (suc b) =
    elim (three_ways a b) [
      | inl less ↦ inl (omega (arith, less))
      | inr other ↦ elim other [ inl same ↦ inr (inl (ap (λ (n : ℕ). suc n) same)) | inr more ↦ inr (inr (omega (arith, more))) ]
    ]

-- neither of two first items stands before the other
not_before : (m : Module) (one other : Part) (i j : ℕ) → IsFirstInvalid m one i → IsFirstInvalid m other j → StandsBefore one i other j → ⊥
not_before m one other i j first second stands = first.broken (second.before one i first.there stands)

pub first_is_one : FirstIsOne
first_is_one m one other i j first second =
    elim (three_ways (part_rank one) (part_rank other)) [
      | inl less ↦ absurd (not_before m one other i j first second (inl less))
      | inr more ↦
          elim more [
            | inl same ↦
                let e = same_rank one other same in
                elim (three_ways i j) [
                  | inl less ↦ absurd (not_before m one other i j first second (inr (e, less)))
                  | inr further ↦
                      elim further [ inl equal ↦ (e, equal) | inr above ↦ absurd (not_before m other one j i second first (inr (sym e, above))) ]
                ]
            | inr above ↦ absurd (not_before m other one j i second first (inl above))
          ]
    ]

-- ---- the profile

all_some : {X : Type 0} (P : X → Type 0) (xs : List X) (i : ℕ) → All P xs → IsSomeAnd (slice_get xs i) (λ x. P x → ⊥) → ⊥
all_some P [] i all h = h
all_some P (x ∷ xs) zero all h = h (All-head P x xs all)
all_some P (x ∷ xs) (suc i) all h = all_some P xs i (All-tail P x xs all) h

all_at : {X : Type 0} (P : X → Type 0) (xs : List X) (i : ℕ) (x : X) → All P xs → slice_get xs i ≡ Some x → P x
all_at P [] i x all here = absurd cc
all_at P (y ∷ xs) zero x all here = subst P (let same : y ≡ x = cc in same) (All-head P y xs all)
all_at P (y ∷ xs) (suc i) x all here = all_at P xs i x (All-tail P y xs all) here

pub inside_is_not_outside : InsideIsNotOutside
inside_is_not_outside m (AnImport index) inside outside = all_some IsFunctionImport m.imports index inside.imports outside.there
inside_is_not_outside m (MemoryTooLarge pages) inside outside = omega (arith, inside.memories, outside.size, outside.above)
inside_is_not_outside m (TableTooLarge index entries) inside outside =
    omega (arith, sum_by-take-le (λ (table : TableType). table.limits.min) (all_tables m) (index + 1), inside.tables, outside.size, outside.above)
inside_is_not_outside m (TooManyLocals function count) inside outside =
    let few = all_at (λ n. n ≤ locals_limit) (local_counts m) function count inside.locals outside.size in
    omega (arith, few, outside.above)
