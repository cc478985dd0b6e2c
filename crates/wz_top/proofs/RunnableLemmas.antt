-- The functions that kept exports name for the run take and give nothing.
use Rattle.std.proofs.Common.{◌≡◌, ℕ, List, [], ◌∷◌, ◌++◌, Bool, true, false, length, slice_get, refl, sym, ap, subst, ◌∙◌, arith}
use Rattle.std.specs.Prelude.{Option, Some, None, Result, Ok, Err, ◌==◌, ◌&&◌, if◌then◌else◌}
use Rattle.std.specs.List.{flat_map}
use Rattle.std.specs.Option.{option_and_then}
use Rattle.std.proofs.lemmas.Bool.{eqb-true}
use Rattle.wz_types.specs.declared.types.ValType.{ValType}
use Rattle.wz_types.specs.FunctionType.{FunctionType}
use Rattle.wz_module.specs.declared.items.ExportTarget.{ExportTarget}
use Rattle.wz_module.specs.declared.items.ExportTarget.TheVariants as target
use Rattle.wz_module.specs.declared.items.ImportKind.{ImportKind}
use Rattle.wz_module.specs.declared.items.ImportKind.TheVariants as kind
use Rattle.wz_module.specs.Imports.{Import}
use Rattle.wz_module.specs.Module.{Module}
use Rattle.wz_valid_code.specs.Context.{type_by_number}
use Rattle.wz_valid.specs.Indices.{function_import, imported_functions, all_functions}
use Rattle.wz_valid.specs.Contexts.{context_of}
use Rattle.wz_words.specs.Settings.{Settings}
use Rattle.wz_init.specs.declared.order.RunOrder.{RunOrder}
use Rattle.wz_init.specs.Orders.{IsPlainFunction, IsPlainWhereGiven, IsRunnable}
use Rattle.wz_top.specs.Verdict.{order_of}
use Rattle.wz_exports.specs.declared.fault.ExportFault.{ExportFault}
use Rattle.wz_exports.specs.Functions.{import_signature, signatures_of, signature_at, is_empty_type, takes_nothing}
use Rattle.wz_exports.specs.Names.{target_named}
use Rattle.wz_exports.specs.Kept.{KeptExports, kept, kept_beside, unless_misnamed, function_named, function_at, reactor_in, reactor_name, some_function, first_misnamed, kept_exports}

abbrev nothing_type : FunctionType
nothing_type = record { params = []; results = [] }

-- ---- one index space, in two definitions

same_import : (k : ImportKind) → import_signature k ≡ function_import k
same_import (kind.Func type) = refl
same_import (kind.Table type) = refl
same_import (kind.Memory type) = refl
same_import (kind.Global type) = refl

same_imports : (imports : List Import) → flat_map (λ i. import_signature i.kind) imports ≡ imported_functions imports
same_imports [] = refl
same_imports (i ∷ imports) =
    ap (λ (xs : List ℕ). xs ++ flat_map (λ i. import_signature i.kind) imports) (same_import i.kind)
    ∙ ap (λ (xs : List ℕ). function_import i.kind ++ xs) (same_imports imports)

same_functions : (m : Module) → signatures_of m ≡ all_functions m
same_functions m = ap (λ (xs : List ℕ). xs ++ m.functions) (same_imports m.imports)

-- ---- types that take and give nothing

no_items : {X : Type 0} (xs : List X) → (length xs == 0) ≡ true → xs ≡ []
no_items [] e = refl
no_items (x ∷ xs) e = absurd (let none = eqb-true (length (x ∷ xs)) 0 e in omega (arith, none))

both_first : (a b : Bool) → (a && b) ≡ true → a ≡ true
both_first true b e = refl
both_first false b e = e

pub both_second : (a b : Bool) → (a && b) ≡ true → b ≡ true
both_second true b e = e
both_second false b e = absurd cc

abbrev some_type : List ValType → List ValType → Option FunctionType
some_type params results = Some (record { params = params; results = results })

empty_type : (o : Option FunctionType) → is_empty_type o ≡ true → o ≡ Some nothing_type
empty_type None e = absurd cc
empty_type (Some type) e =
    let params : type.params ≡ [] = no_items type.params (both_first (length type.params == 0) (length type.results == 0) e) in
    let results : type.results ≡ [] = no_items type.results (both_second (length type.params == 0) (length type.results == 0) e) in
    ap (λ (ps : List ValType). some_type ps type.results) params ∙ ap (λ (rs : List ValType). some_type [] rs) results

numbered_type : (m : Module) (o : Option ℕ) → option_and_then (λ number. slice_get m.types number) o ≡ type_by_number (context_of m) o
numbered_type m None = refl
numbered_type m (Some number) = refl

takes : (m : Module) (index : ℕ) → takes_nothing m index ≡ true → IsPlainFunction m index
takes m index e =
    sym (ap (λ (xs : List ℕ). type_by_number (context_of m) (slice_get xs index)) (same_functions m))
    ∙ sym (numbered_type m (slice_get (signatures_of m) index)) ∙ empty_type (signature_at m index) e

-- ---- the functions that were found

abbrev found : ℕ → Result ℕ ExportFault
found index = Ok index

abbrev kept_are : KeptExports → Result KeptExports ExportFault
kept_are k = Ok k

if_takes : (test : Bool) (index given : ℕ) (fault : ExportFault) → (if test then found index else Err fault) ≡ found given → (test ≡ true) × (index ≡ given)
if_takes true index given fault e = (refl, cc)
if_takes false index given fault e = absurd cc

function_takes : (m : Module) (name : List ℕ) (o : Option ExportTarget) (index : ℕ) → function_at m name o ≡ found index → IsPlainFunction m index
function_takes m name None index e = absurd cc
function_takes m name (Some (target.Func other)) index e =
    let is = if_takes (takes_nothing m other) other index _ e in subst (λ (n : ℕ). IsPlainFunction m n) is.1 (takes m other is.0)
function_takes m name (Some (target.Table other)) index e = absurd cc
function_takes m name (Some (target.Memory other)) index e = absurd cc
function_takes m name (Some (target.Global other)) index e = absurd cc

abbrev reactor_found : Option ℕ → Result (Option ℕ) ExportFault
reactor_found reactor = Ok reactor

some_takes : (m : Module) (r : Result ℕ ExportFault) (reactor : Option ℕ) → ((index : ℕ) → r ≡ found index → IsPlainFunction m index)
    → some_function r ≡ reactor_found reactor → IsPlainWhereGiven m reactor
some_takes m (Ok index) reactor takes_it e =
    let same : Some index ≡ reactor = cc in subst (λ (o : Option ℕ). IsPlainWhereGiven m o) same (takes_it index refl)
some_takes m (Err fault) reactor takes_it e = absurd cc

reactor_takes : (m : Module) (s : Settings) (test : Bool) (reactor : Option ℕ)
    → (if test then some_function (function_named m reactor_name) else Ok None) ≡ reactor_found reactor → IsPlainWhereGiven m reactor
reactor_takes m s true reactor e =
    some_takes m (function_named m reactor_name) reactor (λ index is. function_takes m reactor_name (target_named reactor_name m.exports) index is) e
reactor_takes m s false reactor e =
    let same : None ≡ reactor = cc in subst (λ (o : Option ℕ). IsPlainWhereGiven m o) same tt

abbrev order_from : ℕ → KeptExports → RunOrder
order_from fuel k = record { reactor = k.reactor; function = k.function; fuel = fuel }

same_kept : (fault : Option ExportFault) (given k : KeptExports) → unless_misnamed fault given ≡ kept_are k → given ≡ k
same_kept None given k e = cc
same_kept (Some fault) given k e = absurd cc

beside_runs : (m : Module) (s : Settings) (function : Result ℕ ExportFault) (reactor : Result (Option ℕ) ExportFault) (k : KeptExports)
    → function_named m s.function ≡ function → reactor_in m s ≡ reactor → kept_beside m s function reactor ≡ kept_are k → IsRunnable m (order_from s.fuel k)
beside_runs m s (Err fault) reactor k f r e = absurd cc
beside_runs m s (Ok function) (Err fault) k f r e = absurd cc
beside_runs m s (Ok function) (Ok reactor) k f r e =
    subst (λ (x : KeptExports). IsRunnable m (order_from s.fuel x))
    (same_kept (first_misnamed s m.exports s.renames) (record { entries = kept_exports s m.exports; function = function; reactor = reactor }) k e)
    (record { init_function = function_takes m s.function (target_named s.function m.exports) function f; reactor_function = reactor_takes m s s.reactor reactor r })

pub kept_run : (m : Module) (s : Settings) (k : KeptExports) → kept m s ≡ Ok k → IsRunnable m (order_of s k)
unfolding kept
kept_run m s k e = beside_runs m s (function_named m s.function) (reactor_in m s) k refl refl e
