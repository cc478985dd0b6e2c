-- The functions of a module in the profile begin within the limits on frames and locals; and one whose type is [] to [] takes nothing.
use Rattle.std.proofs.Common.{◌≡◌, ◌≤◌, ◌<◌, ◌+◌, ℕ, zero, suc, List, [], ◌∷◌, ◌++◌, Option, Some, None, map, length, replicate, slice_get, refl, sym, ap, subst, ◌∙◌, arith, append_assoc, length-append}
use Rattle.std.specs.List.{All}
use Rattle.std.proofs.lemmas.List.{length-replicate}
use Rattle.std.proofs.lemmas.List.Elements.{All-nil, All-cons, All-head, All-tail, All-append, All-map, All-get_or}
use Rattle.std.proofs.lemmas.List.Sums.{sum_by-cons}
use Rattle.std.proofs.lemmas.Option.{slice_get_within, get_or_from_slice_get}
use Rattle.wz_types.specs.declared.types.ValType.{ValType}
use Rattle.wz_types.specs.FunctionType.{FunctionType}
use Rattle.wz_types.specs.Zeros.{zeros_of}
use Rattle.wz_module.specs.declared.items.ImportKind.{ImportKind}
use Rattle.wz_module.specs.declared.items.ImportKind.TheVariants as kind
use Rattle.wz_module.specs.Imports.{Import}
use Rattle.wz_module.specs.Functions.{BodyTree}
use Rattle.wz_module.specs.Module.{Module}
use Rattle.wz_valid_code.specs.Context.{locals_of_runs, function_type}
use Rattle.wz_valid.specs.Indices.{function_import, imported_functions, all_functions}
use Rattle.wz_valid.specs.Contexts.{context_of}
use Rattle.wz_valid.specs.Profile.{IsInProfile, locals_limit, runs_length, own_locals, own_counts, params_of}
use Rattle.wz_store.specs.declared.function.Function.{Function}
use Rattle.wz_store.specs.declared.function.Function.TheVariants as stored
use Rattle.wz_machine.specs.State.{State, FunctionBody, OwnBody, ImportedBody, NoBody, FunctionInstance, callable_of, callable_from}
use Rattle.wz_machine.specs.Terms.{Standing, Runs, Waits}
use Rattle.wz_machine.specs.Entered.{entered_callable}
use Rattle.wz_init.specs.Functions.{import_function, import_functions, own_functions, stored_functions, body_of_tree, function_in, functions_in}
use Rattle.wz_init.specs.Turns.{IsWithinLimits, FunctionsAreSmall}

-- ---- small bodies

abbrev IsSmallBody : FunctionBody → Type 0
IsSmallBody (OwnBody locals code) = length locals ≤ locals_limit
IsSmallBody (ImportedBody number) = Unit {0}
IsSmallBody NoBody = Unit {0}

abbrev IsSmallTree : Option BodyTree → Type 0
IsSmallTree None = Unit {0}
IsSmallTree (Some body) = runs_length body.0 ≤ locals_limit

runs_size : (runs : List (ℕ × ValType)) → length (locals_of_runs runs) ≡ runs_length runs
runs_size [] = refl
runs_size (run ∷ runs) =
    omega (arith, length-append (replicate run.0 run.1) (locals_of_runs runs), length-replicate run.0 run.1, runs_size runs, sum_by-cons (λ (r : ℕ × ValType). r.0) run runs)

small_tree : (body : Option BodyTree) → IsSmallTree body → IsSmallBody (body_of_tree body)
small_tree None h = tt
small_tree (Some body) h = omega (arith, runs_size body.0, h)

-- as the profile counts them
small_at : (types : List FunctionType) (numbers : List ℕ) (bodies : List BodyTree) → All (λ count. count ≤ locals_limit) (own_locals types numbers bodies)
    → (k : ℕ) → k < length numbers → IsSmallTree (slice_get bodies k)
small_at types [] bodies h k less = absurd (omega (arith, less))
small_at types (number ∷ numbers) [] h zero less = tt
small_at types (number ∷ numbers) [] h (suc k) less = tt
small_at types (number ∷ numbers) (body ∷ bodies) h zero less =
    let few : params_of (slice_get types number) + runs_length body.0 ≤ locals_limit =
    All-head (λ count. count ≤ locals_limit) (params_of (slice_get types number) + runs_length body.0) (own_locals types numbers bodies) h in omega (arith, few)
small_at types (number ∷ numbers) (body ∷ bodies) h (suc k) less = small_at types numbers bodies (All-tail (λ count. count ≤ locals_limit) (params_of (slice_get types number) + runs_length body.0) (own_locals types numbers bodies) h) k (omega (arith, less))

own_small : (bodies : List BodyTree) (number limit : ℕ) (types : List ℕ) → ((k : ℕ) → k < limit → IsSmallTree (slice_get bodies k)) → number + length types ≤ limit
    → All (λ f. IsSmallBody (function_in bodies f).body) (own_functions number types)
own_small bodies number limit [] small within = All-nil (λ f. IsSmallBody (function_in bodies f).body)
own_small bodies number limit (type ∷ types) small within =
    All-cons (λ f. IsSmallBody (function_in bodies f).body) (stored.Own type number) (own_functions (number + 1) types)
    (small_tree (slice_get bodies number) (small number (omega (arith, within)))) (own_small bodies (number + 1) limit types small (omega (arith, within)))

import_small : (bodies : List BodyTree) (number : ℕ) (kind : ImportKind) → All (λ f. IsSmallBody (function_in bodies f).body) (import_function number kind)
import_small bodies number (kind.Func type) =
    All-cons (λ f. IsSmallBody (function_in bodies f).body) (stored.Import type number) [] tt (All-nil (λ f. IsSmallBody (function_in bodies f).body))
import_small bodies number (kind.Table type) = All-nil (λ f. IsSmallBody (function_in bodies f).body)
import_small bodies number (kind.Memory type) = All-nil (λ f. IsSmallBody (function_in bodies f).body)
import_small bodies number (kind.Global type) = All-nil (λ f. IsSmallBody (function_in bodies f).body)

imports_small : (bodies : List BodyTree) (number : ℕ) (imports : List Import) → All (λ f. IsSmallBody (function_in bodies f).body) (import_functions number imports)
imports_small bodies number [] = All-nil (λ f. IsSmallBody (function_in bodies f).body)
imports_small bodies number (i ∷ imports) =
    All-append (λ f. IsSmallBody (function_in bodies f).body) (import_function number i.kind) (import_functions (number + 1) imports)
    (import_small bodies number i.kind) (imports_small bodies (number + 1) imports)

pub all_behind : {X : Type 0} (P : X → Type 0) (xs ys : List X) → All P (xs ++ ys) → All P ys
all_behind P [] ys h = h
all_behind P (x ∷ xs) ys h = all_behind P xs ys (All-tail P x (xs ++ ys) h)

bodies_small : (m : Module) → IsInProfile m → All (λ (f : FunctionInstance). IsSmallBody f.body) (functions_in m)
bodies_small m profile =
    let counts = all_behind (λ count. count ≤ locals_limit) (map (λ number. params_of (slice_get m.types number)) (imported_functions m.imports)) (own_counts m) profile.locals in
    All-map (λ (f : FunctionInstance). IsSmallBody f.body) (λ f. function_in m.bodies f) (stored_functions m)
    (All-append (λ f. IsSmallBody (function_in m.bodies f).body) (import_functions 0 m.imports) (own_functions 0 m.functions) (imports_small m.bodies 0 m.imports)
    (own_small m.bodies 0 (length m.functions) m.functions (small_at m.types m.functions m.bodies counts) (omega arith)))

-- ---- terms within the limits

abbrev IsSmallStanding : Option Standing → Type 0
IsSmallStanding None = Unit {0}
IsSmallStanding (Some (Runs term)) = IsWithinLimits term
IsSmallStanding (Some (Waits question rest)) = Unit {0}

zeros_size : (locals : List ValType) → length (zeros_of locals) ≡ length locals
zeros_size [] = refl
zeros_size (type ∷ types) = ap suc (zeros_size types)

small_callable : (type : Option FunctionType) (body : FunctionBody) → IsSmallBody body → IsSmallStanding (entered_callable (callable_of type body) [])
small_callable None body h = tt
small_callable (Some type) (OwnBody locals code) h = record { frames = omega arith; locals = omega (arith, zeros_size locals, h) }
small_callable (Some type) (ImportedBody number) h = tt
small_callable (Some type) NoBody h = tt

small_place : (types : List FunctionType) (o : Option FunctionInstance) → ((f : FunctionInstance) → o ≡ Some f → IsSmallBody f.body)
    → IsSmallStanding (entered_callable (callable_from types o) [])
small_place types None h = tt
small_place types (Some f) h = small_callable (slice_get types f.signature) f.body (h f refl)

pub all_at : {X : Type 0} (P : X → Type 0) (xs : List X) → All P xs → (i : ℕ) (x : X) → slice_get xs i ≡ Some x → P x
all_at P xs all i x is = subst P (get_or_from_slice_get xs i x x is) (All-get_or P xs i x (slice_get_within xs i x is) all)

pub functions_small : (m : Module) (s : State) → IsInProfile m → s.functions ≡ functions_in m → FunctionsAreSmall s
functions_small m s profile same function term is =
    let small = subst (λ (fs : List FunctionInstance). All (λ (f : FunctionInstance). IsSmallBody f.body) fs) (sym same) (bodies_small m profile) in
    subst (λ (o : Option Standing). IsSmallStanding o) is
    (small_place s.types (slice_get s.functions function) (λ f there. all_at (λ (f : FunctionInstance). IsSmallBody f.body) s.functions small function f there))

-- ---- the types of functions

abbrev pub signatures : List FunctionInstance → List ℕ
signatures fs = map (λ (f : FunctionInstance). f.signature) fs

own_signatures : (bodies : List BodyTree) (number : ℕ) (types : List ℕ) → signatures (map (λ f. function_in bodies f) (own_functions number types)) ≡ types
own_signatures bodies number [] = refl
own_signatures bodies number (type ∷ types) = ap (λ (rest : List ℕ). type ∷ rest) (own_signatures bodies (number + 1) types)

import_signatures : (bodies : List BodyTree) (number : ℕ) (kind : ImportKind) (rest : List Function) (types : List ℕ)
    → signatures (map (λ f. function_in bodies f) rest) ≡ types
    → signatures (map (λ f. function_in bodies f) (import_function number kind ++ rest)) ≡ function_import kind ++ types
import_signatures bodies number (kind.Func type) rest types e = ap (λ (more : List ℕ). type ∷ more) e
import_signatures bodies number (kind.Table type) rest types e = e
import_signatures bodies number (kind.Memory type) rest types e = e
import_signatures bodies number (kind.Global type) rest types e = e

all_signatures : (bodies : List BodyTree) (number : ℕ) (imports : List Import) (own : List Function) (types : List ℕ)
    → signatures (map (λ f. function_in bodies f) own) ≡ types
    → signatures (map (λ f. function_in bodies f) (import_functions number imports ++ own)) ≡ imported_functions imports ++ types
all_signatures bodies number [] own types e = e
all_signatures bodies number (i ∷ imports) own types e =
    ap (λ (fs : List Function). signatures (map (λ f. function_in bodies f) fs)) (append_assoc (import_function number i.kind) (import_functions (number + 1) imports) own)
    ∙ import_signatures bodies number i.kind (import_functions (number + 1) imports ++ own) (imported_functions imports ++ types)
    (all_signatures bodies (number + 1) imports own types e)
    ∙ sym (append_assoc (function_import i.kind) (imported_functions imports) types)

pub signatures_in : (m : Module) → signatures (functions_in m) ≡ all_functions m
signatures_in m = all_signatures m.bodies 0 m.imports (own_functions 0 m.functions) m.functions (own_signatures m.bodies 0 m.functions)

abbrev pub type_at : List FunctionType → Option ℕ → Option FunctionType
type_at types None = None
type_at types (Some number) = slice_get types number

pub type_in : (m : Module) (function : ℕ) (number : Option ℕ) → slice_get (all_functions m) function ≡ number → function_type (context_of m) function ≡ type_at m.types number
type_in m function None e = ap (λ (o : Option ℕ). type_at m.types o) e
type_in m function (Some number) e = ap (λ (o : Option ℕ). type_at m.types o) e
