-- What the tool asks of a valid module, and the limits that it sets. All of it is the tool's own.
use Rattle.std.specs.Prelude.{◌≡◌, ℕ, ◌+◌, ◌<◌, ◌≤◌, List, [], ◌∷◌, ◌++◌, length, take, map, slice_get, IsSomeAnd, Option, Some, None}
use Rattle.std.specs.List.{All, sum_by}
use Rattle.wz_types.specs.declared.types.TableType.{TableType}
use Rattle.wz_types.specs.declared.types.ValType.{ValType}
use Rattle.wz_types.specs.FunctionType.{FunctionType}
use Rattle.wz_code.specs.BodyParts.{BodyParts}
use Rattle.wz_module.specs.declared.items.ImportKind.{ImportKind}
use Rattle.wz_module.specs.declared.items.ImportKind.TheVariants as kind
use Rattle.wz_module.specs.Imports.{Import}
use Rattle.wz_module.specs.Functions.{BodyTree}
use Rattle.wz_module.specs.Module.{Module}
use Rattle.wz_valid.specs.declared.faults.OutOfProfile.{OutOfProfile}
use Rattle.wz_valid.specs.declared.faults.OutOfProfile.TheVariants.{ImportKind as AnImport, MemoryTooLarge, TableTooLarge, TooManyLocals}
use Rattle.wz_valid.specs.Indices.{imported_functions, all_tables, all_memories}

-- ---- imports

abbrev pub IsFunctionKind : ImportKind → Type 0
IsFunctionKind (kind.Func type) = Unit {0}
IsFunctionKind (kind.Table type) = ⊥
IsFunctionKind (kind.Memory type) = ⊥
IsFunctionKind (kind.Global type) = ⊥

abbrev pub IsFunctionImport : Import → Type 0
IsFunctionImport i = IsFunctionKind i.kind

-- ---- sizes

abbrev pub pages_limit : ℕ
pages_limit = 16384

abbrev pub entries_limit : ℕ
entries_limit = 10000000

abbrev pub locals_limit : ℕ
locals_limit = 50000

-- the pages that all memories start with
abbrev pub first_pages : Module → ℕ
first_pages m = sum_by (λ memory. memory.limits.min) (all_memories m)

-- the entries that tables start with
abbrev pub first_entries : List TableType → ℕ
first_entries tables = sum_by (λ table. table.limits.min) tables

abbrev pub HasSmallTables : Module → Type 0
HasSmallTables m = first_entries (all_tables m) ≤ entries_limit

-- ---- the number of parameters and locals of each function, imports first

abbrev pub params_of : Option FunctionType → ℕ
params_of None = 0
params_of (Some type) = length type.params

-- an import that is no function has no parameters
abbrev pub import_params : List FunctionType → ImportKind → ℕ
import_params types (kind.Func number) = params_of (slice_get types number)
import_params types (kind.Table type) = 0
import_params types (kind.Memory type) = 0
import_params types (kind.Global type) = 0

abbrev pub runs_length : List (ℕ × ValType) → ℕ
runs_length runs = sum_by (λ run. run.0) runs

-- where there is no body, there are none
abbrev pub locals_length : Option BodyParts → ℕ
locals_length None = 0
locals_length (Some body) = runs_length body.locals

abbrev pub own_locals : List FunctionType → List ℕ → List BodyTree → List ℕ
own_locals types [] bodies = []
own_locals types (number ∷ numbers) [] = params_of (slice_get types number) ∷ own_locals types numbers []
own_locals types (number ∷ numbers) (body ∷ bodies) = (params_of (slice_get types number) + runs_length body.0) ∷ own_locals types numbers bodies

-- of the own functions
abbrev pub own_counts : Module → List ℕ
own_counts m = own_locals m.types m.functions m.bodies

abbrev pub local_counts : Module → List ℕ
local_counts m = map (λ number. params_of (slice_get m.types number)) (imported_functions m.imports) ++ own_counts m

abbrev pub HasSmallFunctions : Module → Type 0
HasSmallFunctions m = All (λ count. count ≤ locals_limit) (local_counts m)

-- ---- the profile

pub record IsInProfile (m : Module) : Type 0 where
  pub imports : All IsFunctionImport m.imports
  pub memories : first_pages m ≤ pages_limit
  pub tables : HasSmallTables m
  pub locals : HasSmallFunctions m

-- ---- why a module is outside it, in the order in which it is looked at

pub record IsOtherImport (m : Module) (index : ℕ) : Type 0 where
  pub there : IsSomeAnd (slice_get m.imports index) (λ i. IsFunctionImport i → ⊥)
  pub before : All IsFunctionImport (take index m.imports)

pub record HasLargeMemory (m : Module) (pages : ℕ) : Type 0 where
  pub imports : All IsFunctionImport m.imports
  pub size : first_pages m ≡ pages
  pub above : pages_limit < pages

pub record HasLargeTable (m : Module) (index entries : ℕ) : Type 0 where
  pub imports : All IsFunctionImport m.imports
  pub memories : first_pages m ≤ pages_limit
  pub there : index < length (all_tables m)
  pub size : first_entries (take (index + 1) (all_tables m)) ≡ entries
  pub above : entries_limit < entries
  pub before : first_entries (take index (all_tables m)) ≤ entries_limit

pub record HasManyLocals (m : Module) (function count : ℕ) : Type 0 where
  pub imports : All IsFunctionImport m.imports
  pub memories : first_pages m ≤ pages_limit
  pub tables : HasSmallTables m
  pub size : slice_get (local_counts m) function ≡ Some count
  pub above : locals_limit < count
  pub before : All (λ other. other ≤ locals_limit) (take function (local_counts m))

abbrev pub IsOutside : Module → OutOfProfile → Type 0
IsOutside m (AnImport index) = IsOtherImport m index
IsOutside m (MemoryTooLarge pages) = HasLargeMemory m pages
IsOutside m (TableTooLarge index entries) = HasLargeTable m index entries
IsOutside m (TooManyLocals function count) = HasManyLocals m function count
