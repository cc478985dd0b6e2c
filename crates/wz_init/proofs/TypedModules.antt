-- A state that has a valid module's parts has its context too, and its functions are typed in it.
use Rattle.std.proofs.Common.{◌≡◌, ℕ, zero, suc, ◌+◌, ◌<◌, ◌++◌, ◌==◌, List, [], ◌∷◌, Option, Some, None, IsSomeAnd, IsTrue, length, map, get_or, slice_get, refl, sym, ap, subst, ◌∙◌, arith, eq-eqb}
use Rattle.std.specs.List.{All}
use Rattle.std.proofs.lemmas.List.Elements.{All-nil, All-cons, All-head, All-tail, All-append, All-map}
use Rattle.std.proofs.lemmas.List.Folds.{list_any_at}
use Rattle.std.proofs.Math.ListN.{length-map}
use Rattle.wz_types.specs.declared.types.ValType.{ValType}
use Rattle.wz_types.specs.declared.types.GlobalType.{GlobalType}
use Rattle.wz_types.specs.declared.types.TableType.{TableType}
use Rattle.wz_types.specs.declared.types.MemType.{MemType}
use Rattle.wz_types.specs.declared.value.Value.{Value}
use Rattle.wz_types.specs.FunctionType.{FunctionType}
use Rattle.wz_types.specs.Fits.{Fits}
use Rattle.wz_code.specs.References.{has_number}
use Rattle.wz_module.specs.declared.items.ImportKind.{ImportKind}
use Rattle.wz_module.specs.declared.items.ImportKind.TheVariants as kind
use Rattle.wz_module.specs.Imports.{Import}
use Rattle.wz_module.specs.Functions.{BodyTree}
use Rattle.wz_module.specs.Globals.{GlobalDef}
use Rattle.wz_module.specs.Module.{Module}
use Rattle.wz_valid_code.specs.Context.{locals_of_runs}
use Rattle.wz_valid_code.specs.Laws.{Serves}
use Rattle.wz_valid_code.proofs.LawLemmas.{typing_serves}
use Rattle.wz_valid.specs.Indices.{function_import, imported_functions, all_functions}
use Rattle.wz_valid.specs.Contexts.{context_of}
use Rattle.wz_valid.specs.Items.{IsTreeTyped}
use Rattle.wz_valid.specs.Validity.{IsValid}
use Rattle.wz_valid.specs.Profile.{IsInProfile}
use Rattle.wz_valid.specs.Laws.{TypesAreThere, BodiesAreTyped, DeclaredAreThere}
use Rattle.wz_store.specs.State.{Memory}
use Rattle.wz_store.specs.declared.function.Function.{Function}
use Rattle.wz_store.specs.declared.function.Function.TheVariants as stored
use Rattle.wz_machine.specs.State.{State, LastingParts, lasting_parts, ImportedBody, FunctionInstance}
use Rattle.wz_machine.specs.TypedState.{numbers_from, state_context, HasType, BodyTyped, FunctionTyped}
use Rattle.wz_machine.specs.TypedTerms.{scope_with}
use Rattle.wz_init.specs.Functions.{import_function, import_functions, own_functions, stored_functions, body_of_tree, function_in, functions_in}
use Rattle.wz_init.specs.Reached.{lasting_of}
use Rattle.wz_init.proofs.ConstantLemmas.{no_global_imports}
use Rattle.wz_init.proofs.ModuleLemmas.{own_tables, own_memories}
use Rattle.wz_init.proofs.SmallLemmas.{signatures_in, all_at, all_behind}

-- what is said of a valid module's functions
pub record FunctionLaws : Type 0 where
  pub types : TypesAreThere
  pub bodies : BodiesAreTyped
  pub declared : DeclaredAreThere

-- ---- the numbers of all functions

length-numbers : (first count : ℕ) → length (numbers_from first count) ≡ count
length-numbers first zero = refl
length-numbers first (suc count) = ap suc (length-numbers (first + 1) count)

get-numbers : (first count i d : ℕ) → i < count → get_or (numbers_from first count) i d ≡ first + i
get-numbers first zero i d less = absurd (omega (arith, less))
get-numbers first (suc count) zero d less = omega arith
get-numbers first (suc count) (suc i) d less = let r = get-numbers (first + 1) count i d (omega (arith, less)) in omega (arith, r)

is_numbered : (count i : ℕ) → i < count → IsTrue (has_number i (numbers_from 0 count))
is_numbered count i less =
    let long = length-numbers 0 count in
    let found : get_or (numbers_from 0 count) i 0 ≡ 0 + i = get-numbers 0 count i 0 less in
    list_any_at (λ (other : ℕ). i == other) (numbers_from 0 count) i 0 (omega (arith, less, long)) (eq-eqb i (get_or (numbers_from 0 count) i 0) (omega (arith, found)))

-- ---- the context

-- as many memories as maxima
memories_by : (s : State) (m : Module) → lasting_parts s ≡ lasting_of m → length s.memories ≡ length m.memories
memories_by s m parts =
    sym (length-map s.memories (λ (memory : Memory). memory.maximum)) ∙ ap (λ (p : LastingParts). length p.memory_maxima) parts
    ∙ length-map m.memories (λ (memory : MemType). memory.limits.max)

pub functions_by : (s : State) (m : Module) → lasting_parts s ≡ lasting_of m → (state_context s).functions ≡ all_functions m
functions_by s m parts =
    ap (λ (p : LastingParts). map (λ (function : FunctionInstance). function.signature) p.functions) parts ∙ signatures_in m

-- the module's context, but for what only validation looks at
module_serves : FunctionLaws → (m : Module) (s : State) → IsValid m → IsInProfile m → lasting_parts s ≡ lasting_of m → (locals results : List ValType)
    → Serves (scope_with (context_of m) locals results) (scope_with (state_context s) locals results)
module_serves laws m s valid profile parts locals results = record {
  types = ap (λ (p : LastingParts). p.types) (sym parts);
  functions = sym (functions_by s m parts);
  tables = ap (λ (ts : List TableType). map (λ (table : TableType). table.kind) ts) (own_tables m profile) ∙ ap (λ (p : LastingParts). p.table_kinds) (sym parts);
  memories = ap (λ (ms : List MemType). length ms) (own_memories m profile) ∙ sym (memories_by s m parts);
  globals = ap (λ (gs : List GlobalType). gs ++ map (λ (g : GlobalDef). g.kind) m.globals) (no_global_imports m.imports profile.imports)
      ∙ ap (λ (p : LastingParts). p.globals) (sym parts);
  elements = ap (λ (p : LastingParts). p.element_kinds) (sym parts);
  datas = ap (λ (p : LastingParts). p.datas) (sym parts);
  locals = refl;
  results = refl;
  declared = λ function h.
      let as_many : length s.functions ≡ length (all_functions m) =
      sym (length-map s.functions (λ (f : FunctionInstance). f.signature)) ∙ ap (λ (fs : List ℕ). length fs) (functions_by s m parts) in
      is_numbered (length s.functions) function (subst (λ (n : ℕ). function < n) (sym as_many) (laws.declared m function valid h));
}

-- a value that fits in the module has its type in the state
pub has_type : (m : Module) (s : State) → lasting_parts s ≡ lasting_of m → (content : Value) (type : ValType)
    → Fits content type (length (all_functions m)) (length m.types) → HasType (state_context s) content type
has_type m s parts content type h =
    subst (λ (fs : List ℕ). Fits content type (length fs) (length s.types)) (sym (functions_by s m parts))
    (subst (λ (p : LastingParts). Fits content type (length (all_functions m)) (length p.types)) (sym parts) h)

-- ---- functions, imports first

all_front : {X : Type 0} (P : X → Type 0) (xs ys : List X) → All P (xs ++ ys) → All P xs
all_front P [] ys h = All-nil P
all_front P (x ∷ xs) ys h = All-cons P x xs (All-head P x (xs ++ ys) h) (all_front P xs ys (All-tail P x (xs ++ ys) h))

each_import : (P : Function → Type 0) (Q : ℕ → Type 0) → ((type number : ℕ) → Q type → P (stored.Import type number)) → (number : ℕ) (imports : List Import)
    → All Q (imported_functions imports) → All P (import_functions number imports)
each_import P Q each number [] h = All-nil P
each_import P Q each number (i ∷ imports) h =
    All-append P (import_function number i.kind) (import_functions (number + 1) imports)
    (one i.kind (all_front Q (function_import i.kind) (imported_functions imports) h))
    (each_import P Q each (number + 1) imports (all_behind Q (function_import i.kind) (imported_functions imports) h))
  where
    one : (k : ImportKind) → All Q (function_import k) → All P (import_function number k)
    one (kind.Func type) h = All-cons P (stored.Import type number) [] (each type number (All-head Q type [] h)) (All-nil P)
    one (kind.Table type) h = All-nil P
    one (kind.Memory type) h = All-nil P
    one (kind.Global type) h = All-nil P

each_own : (P : Function → Type 0) (number : ℕ) (types : List ℕ) → ((k type : ℕ) → slice_get types k ≡ Some type → P (stored.Own type (number + k)))
    → All P (own_functions number types)
each_own P number [] each = All-nil P
each_own P number (type ∷ types) each =
    let first : number + 0 ≡ number = omega arith in
    All-cons P (stored.Own type number) (own_functions (number + 1) types) (subst (λ (n : ℕ). P (stored.Own type n)) first (each 0 type refl))
    (each_own P (number + 1) types
    (λ k other here. let later : number + suc k ≡ number + 1 + k = omega arith in subst (λ (n : ℕ). P (stored.Own other n)) later (each (suc k) other here)))

module _ (laws : FunctionLaws) (m : Module) (s : State) (valid : IsValid m) (profile : IsInProfile m) (parts : lasting_parts s ≡ lasting_of m) where
  types_same : m.types ≡ s.types
  types_same = ap (λ (p : LastingParts). p.types) (sym parts)

  body_typed : (type : FunctionType) (o : Option BodyTree) → IsSomeAnd o (λ body. IsTreeTyped (context_of m) type body)
      → BodyTyped (state_context s) type (body_of_tree o)
  body_typed type None h = absurd h
  body_typed type (Some body) h =
      let locals = type.params ++ locals_of_runs body.0 in
      typing_serves (scope_with (context_of m) locals type.results) (scope_with (state_context s) locals type.results)
      (module_serves laws m s valid profile parts locals type.results) (type.results ∷ []) body.1 [] type.results h

  own_typed : (number : ℕ) (o : Option FunctionType) → IsSomeAnd o (λ type. IsSomeAnd (slice_get m.bodies number) (λ body. IsTreeTyped (context_of m) type body))
      → IsSomeAnd o (λ type. BodyTyped (state_context s) type (body_of_tree (slice_get m.bodies number)))
  own_typed number None h = absurd h
  own_typed number (Some type) h = body_typed type (slice_get m.bodies number) h

  import_typed : (types : List FunctionType) (type number : ℕ) → type < length types
      → IsSomeAnd (slice_get types type) (λ found. BodyTyped (state_context s) found (ImportedBody number))
  import_typed [] type number less = absurd (omega (arith, less))
  import_typed (found ∷ types) zero number less = tt
  import_typed (found ∷ types) (suc type) number less = import_typed types type number (omega (arith, less))

  abbrev IsFunctionTyped : Function → Type 0
  IsFunctionTyped f = FunctionTyped (state_context s) (function_in m.bodies f)

  all_typed : All IsFunctionTyped (stored_functions m)
  all_typed =
      All-append IsFunctionTyped (import_functions 0 m.imports) (own_functions 0 m.functions)
      (each_import IsFunctionTyped (λ type. type < length m.types)
      (λ type number less. subst (λ (ts : List FunctionType). IsSomeAnd (slice_get ts type) (λ found. BodyTyped (state_context s) found (ImportedBody number))) types_same
      (import_typed m.types type number less)) 0 m.imports
      (all_front (λ type. type < length m.types) (imported_functions m.imports) m.functions (laws.types m valid)))
      (each_own IsFunctionTyped 0 m.functions
      (λ k type here. let same : k ≡ 0 + k = omega arith in
      subst (λ (n : ℕ). IsFunctionTyped (stored.Own type n)) same
      (subst (λ (ts : List FunctionType). IsSomeAnd (slice_get ts type) (λ found. BodyTyped (state_context s) found (body_of_tree (slice_get m.bodies k)))) types_same
      (own_typed k (slice_get m.types type) (laws.bodies m k type valid here)))))

  pub functions_typed : (index : ℕ) (function : FunctionInstance) → slice_get s.functions index ≡ Some function → FunctionTyped (state_context s) function
  functions_typed index function here =
      let same : s.functions ≡ functions_in m = ap (λ (p : LastingParts). p.functions) parts in
      all_at (λ (f : FunctionInstance). FunctionTyped (state_context s) f) (functions_in m)
      (All-map (λ (f : FunctionInstance). FunctionTyped (state_context s) f) (λ f. function_in m.bodies f) (stored_functions m) all_typed) index function
      (subst (λ (fs : List FunctionInstance). slice_get fs index ≡ Some function) same here)
