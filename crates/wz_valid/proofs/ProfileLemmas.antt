-- What a module whose imports are functions has, by its own items.
use Rattle.std.proofs.Common.{◌≡◌, ℕ, zero, suc, ◌+◌, ◌-◌, ◌<◌, ◌≤◌, List, [], ◌∷◌, ◌++◌, Option, Some, None, refl, sym, ap, subst, ◌∙◌, All, map, take, length, slice_get, get_or}
use Rattle.std.proofs.Common.{arith, add-zero}
use Rattle.std.specs.List.{sum_by}
use Rattle.std.specs.Option.{option_map}
use Rattle.std.proofs.lemmas.List.{take_all}
use Rattle.std.proofs.lemmas.List.Elements.{All-head, All-tail}
use Rattle.std.proofs.lemmas.Option.{slice_get-map, slice_get-get_or}
use Rattle.std.proofs.Math.ListN.{length-map, length-append}
use Rattle.wz_types.specs.declared.types.TableType.{TableType}
use Rattle.wz_types.specs.declared.types.MemType.{MemType}
use Rattle.wz_types.specs.FunctionType.{FunctionType}
use Rattle.wz_module.specs.declared.items.ImportKind.{ImportKind}
use Rattle.wz_module.specs.declared.items.ImportKind.TheVariants as kind
use Rattle.wz_module.specs.Imports.{Import}
use Rattle.wz_code.specs.BodyParts.{BodyParts}
use Rattle.wz_module.specs.Functions.{BodyTree, body_tree_of}
use Rattle.wz_module.specs.Module.{Module}
use Rattle.wz_valid.specs.Indices.{function_import, memory_import, table_import, imported_functions, imported_memories, imported_tables, all_tables}
use Rattle.wz_valid.specs.Profile.{IsFunctionKind, IsFunctionImport, first_pages, first_entries, pages_limit, entries_limit, params_of, import_params, runs_length, locals_length}
use Rattle.wz_valid.specs.Profile.{own_locals}
use Rattle.wz_valid.specs.Profile.{own_counts, local_counts, HasSmallTables, HasLargeTable}
use Rattle.wz_valid.proofs.ListLemmas.{slice_get_before, slice_get_behind}

no_memory : (k : ImportKind) (rest : List MemType) → IsFunctionKind k → rest ≡ [] → memory_import k ++ rest ≡ []
no_memory (kind.Func type) rest is e = e
no_memory (kind.Table type) rest is e = absurd is
no_memory (kind.Memory type) rest is e = absurd is
no_memory (kind.Global type) rest is e = absurd is

pub no_memories : (imports : List Import) → All IsFunctionImport imports → imported_memories imports ≡ []
no_memories [] all = refl
no_memories (i ∷ imports) all =
    no_memory i.kind (imported_memories imports) (All-head IsFunctionImport i imports all) (no_memories imports (All-tail IsFunctionImport i imports all))

no_table : (k : ImportKind) (rest : List TableType) → IsFunctionKind k → rest ≡ [] → table_import k ++ rest ≡ []
no_table (kind.Func type) rest is e = e
no_table (kind.Table type) rest is e = absurd is
no_table (kind.Memory type) rest is e = absurd is
no_table (kind.Global type) rest is e = absurd is

pub no_tables : (imports : List Import) → All IsFunctionImport imports → imported_tables imports ≡ []
no_tables [] all = refl
no_tables (i ∷ imports) all =
    no_table i.kind (imported_tables imports) (All-head IsFunctionImport i imports all) (no_tables imports (All-tail IsFunctionImport i imports all))

-- ---- what memories and tables begin with

pub own_first_pages : (m : Module) → All IsFunctionImport m.imports → sum_by (λ memory. memory.limits.min) m.memories ≡ first_pages m
own_first_pages m all = ap (λ (memories : List MemType). sum_by (λ memory. memory.limits.min) (memories ++ m.memories)) (sym (no_memories m.imports all))

own_tables : (m : Module) → All IsFunctionImport m.imports → m.tables ≡ all_tables m
own_tables m all = ap (λ (tables : List TableType). tables ++ m.tables) (sym (no_tables m.imports all))

pub large_table : (m : Module) (i entries : ℕ) → All IsFunctionImport m.imports → first_pages m ≤ pages_limit → i < length m.tables
    → first_entries (take (i + 1) m.tables) ≡ entries → entries_limit < entries → first_entries (take i m.tables) ≤ entries_limit → HasLargeTable m i entries
large_table m i entries imports memories there size above before =
    let e = own_tables m imports in
    record {
      imports = imports;
      memories = memories;
      there = subst (λ (tables : List TableType). i < length tables) e there;
      size = subst (λ (tables : List TableType). first_entries (take (i + 1) tables) ≡ entries) e size;
      above = above;
      before = subst (λ (tables : List TableType). first_entries (take i tables) ≤ entries_limit) e before;
    }

pub small_tables : (m : Module) (i : ℕ) → All IsFunctionImport m.imports → length m.tables ≤ i → first_entries (take i m.tables) ≤ entries_limit → HasSmallTables m
small_tables m i imports past small =
    subst (λ (tables : List TableType). first_entries tables ≤ entries_limit) (take_all i m.tables past ∙ own_tables m imports) small

-- ---- the number of locals

import_number : (types : List FunctionType) (k : ImportKind) (rest : List ℕ) → IsFunctionKind k
    → map (λ number. params_of (slice_get types number)) (function_import k ++ rest) ≡ import_params types k ∷ map (λ number. params_of (slice_get types number)) rest
import_number types (kind.Func type) rest is = refl
import_number types (kind.Table type) rest is = absurd is
import_number types (kind.Memory type) rest is = absurd is
import_number types (kind.Global type) rest is = absurd is

-- of imports, which are functions alone
pub imported_counts : (types : List FunctionType) (imports : List Import) → All IsFunctionImport imports
    → map (λ number. params_of (slice_get types number)) (imported_functions imports) ≡ map (λ i. import_params types i.kind) imports
imported_counts types [] all = refl
imported_counts types (i ∷ imports) all =
    import_number types i.kind (imported_functions imports) (All-head IsFunctionImport i imports all)
    ∙ ap (λ (counts : List ℕ). import_params types i.kind ∷ counts) (imported_counts types imports (All-tail IsFunctionImport i imports all))

abbrev pub body_locals : Option BodyTree → ℕ
body_locals None = 0
body_locals (Some body) = runs_length body.0

pub own_locals_get : (types : List FunctionType) (numbers : List ℕ) (bodies : List BodyTree) (i number : ℕ) → slice_get numbers i ≡ Some number
    → slice_get (own_locals types numbers bodies) i ≡ Some (params_of (slice_get types number) + body_locals (slice_get bodies i))
own_locals_get types [] bodies i number here = absurd cc
own_locals_get types (n ∷ numbers) [] zero number here = let e : n ≡ number = cc in ap (λ (k : ℕ). Some (params_of (slice_get types k))) e ∙ simp add-zero
own_locals_get types (n ∷ numbers) [] (suc i) number here = own_locals_get types numbers [] i number here
own_locals_get types (n ∷ numbers) (body ∷ bodies) zero number here = let e : n ≡ number = cc in ap (λ (k : ℕ). Some (params_of (slice_get types k) + runs_length body.0)) e
own_locals_get types (n ∷ numbers) (body ∷ bodies) (suc i) number here = own_locals_get types numbers bodies i number here

own_locals_length : (types : List FunctionType) (numbers : List ℕ) (bodies : List BodyTree) → length (own_locals types numbers bodies) ≡ length numbers
own_locals_length types [] bodies = refl
own_locals_length types (n ∷ numbers) [] = ap (λ (k : ℕ). suc k) (own_locals_length types numbers [])
own_locals_length types (n ∷ numbers) (body ∷ bodies) = ap (λ (k : ℕ). suc k) (own_locals_length types numbers bodies)

counts_split : (m : Module) → All IsFunctionImport m.imports → local_counts m ≡ map (λ i. import_params m.types i.kind) m.imports ++ own_counts m
counts_split m all = ap (λ (counts : List ℕ). counts ++ own_counts m) (imported_counts m.types m.imports all)

pub counts_length : (m : Module) → All IsFunctionImport m.imports → length (local_counts m) ≡ length m.imports + length m.functions
counts_length m all =
    ap (λ (counts : List ℕ). length counts) (counts_split m all)
    ∙ length-append (map (λ i. import_params m.types i.kind) m.imports) (own_counts m)
    ∙ ap (λ (n : ℕ). n + length (own_counts m)) (length-map m.imports (λ i. import_params m.types i.kind))
    ∙ ap (λ (n : ℕ). length m.imports + n) (own_locals_length m.types m.functions m.bodies)

pub count_of_import : (m : Module) (i : ℕ) (import : Import) → All IsFunctionImport m.imports → slice_get m.imports i ≡ Some import
    → slice_get (local_counts m) i ≡ Some (import_params m.types import.kind)
count_of_import m i import all here =
    let counts = map (λ (x : Import). import_params m.types x.kind) m.imports in
    ap (λ (xs : List ℕ). slice_get xs i) (counts_split m all)
    ∙ slice_get_before counts (own_counts m) i (import_params m.types import.kind)
    (slice_get-map (λ (x : Import). import_params m.types x.kind) m.imports i ∙ ap (λ (o : Option Import). option_map (λ (x : Import). import_params m.types x.kind) o) here)

pub count_of_own : (m : Module) (i count : ℕ) → All IsFunctionImport m.imports → length m.imports ≤ i → slice_get (own_counts m) (i - length m.imports) ≡ Some count
    → slice_get (local_counts m) i ≡ Some count
count_of_own m i count all past here =
    let counts = map (λ (x : Import). import_params m.types x.kind) m.imports in
    let same : length counts ≡ length m.imports = length-map m.imports (λ (x : Import). import_params m.types x.kind) in
    ap (λ (xs : List ℕ). slice_get xs i) (counts_split m all)
    ∙ slice_get_behind counts (own_counts m) i (omega (arith, same, past))
    ∙ ap (λ (n : ℕ). slice_get (own_counts m) (i - n)) same
    ∙ here

same_locals : (body : Option BodyParts) → body_locals (option_map body_tree_of body) ≡ locals_length body
same_locals None = refl
same_locals (Some body) = refl

pub own_count_of : (m : Module) (functions : List ℕ) (bodies : List BodyParts) (i : ℕ) → functions ≡ m.functions
    → map body_tree_of bodies ≡ m.bodies → i < length m.functions
    → slice_get (own_counts m) i ≡ Some (params_of (slice_get m.types (get_or functions i 0)) + locals_length (slice_get bodies i))
own_count_of m functions bodies i same trees less =
    let there : slice_get m.functions i ≡ Some (get_or functions i 0) =
    slice_get-get_or m.functions i 0 less ∙ ap (λ (numbers : List ℕ). Some (get_or numbers i 0)) (sym same) in
    let tree : slice_get m.bodies i ≡ option_map body_tree_of (slice_get bodies i) =
    ap (λ (bs : List BodyTree). slice_get bs i) (sym trees) ∙ slice_get-map body_tree_of bodies i in
    let params = params_of (slice_get m.types (get_or functions i 0)) in
    own_locals_get m.types m.functions m.bodies i (get_or functions i 0) there
    ∙ ap (λ (o : Option BodyTree). Some (params + body_locals o)) tree
    ∙ ap (λ (n : ℕ). Some (params + n)) (same_locals (slice_get bodies i))
