-- Section 3.4.10 of the Core Specification: a module is valid where each of its items is ok. Types need nothing.
use Rattle.std.specs.Prelude.{◌≡◌, ℕ, ◌<◌, ◌⊎◌, length, take, slice_get, IsSomeAnd, option_to_list}
use Rattle.wz_module.specs.Module.{Module}
use Rattle.wz_valid.specs.declared.faults.Part.{Part}
use Rattle.wz_valid.specs.declared.faults.Part.TheVariants as part
use Rattle.wz_valid.specs.declared.faults.ValidFault.{ValidFault}
use Rattle.wz_valid.specs.declared.faults.ValidFault.TheVariants.{Invalid, NoMemory}
use Rattle.wz_valid.specs.Indices.{imported_memories}
use Rattle.wz_valid.specs.Limits.{IsTableOk, IsMemoryOk}
use Rattle.wz_valid.specs.Items.{IsImportOk, IsFunctionOk, IsBodyOk, IsOnlyMemory, IsGlobalOk, IsExportOk, IsStartOk, IsElemOk, IsDataModeOk}

-- how many items a part has; a start is one
abbrev pub part_length : Module → Part → ℕ
part_length m part.Import = length m.imports
part_length m part.Function = length m.functions
part_length m part.Table = length m.tables
part_length m part.Memory = length m.memories
part_length m part.Global = length m.globals
part_length m part.Export = length m.exports
part_length m part.Start = length (option_to_list m.start)
part_length m part.Element = length m.elements
part_length m part.Code = length m.bodies
part_length m part.DataSegment = length m.datas

-- the item of this number is there and ok
abbrev pub IsItemOk : Module → Part → ℕ → Type 0
IsItemOk m part.Import index = IsSomeAnd (slice_get m.imports index) (λ i. IsImportOk m (length (imported_memories (take index m.imports))) i.kind)
IsItemOk m part.Function index = IsSomeAnd (slice_get m.functions index) (λ type. IsFunctionOk m index type)
IsItemOk m part.Table index = IsSomeAnd (slice_get m.tables index) (λ table. IsTableOk table)
IsItemOk m part.Memory index = IsSomeAnd (slice_get m.memories index) (λ memory. IsMemoryOk memory × IsOnlyMemory m index)
IsItemOk m part.Global index = IsSomeAnd (slice_get m.globals index) (λ global. IsGlobalOk m global)
IsItemOk m part.Export index = IsSomeAnd (slice_get m.exports index) (λ e. IsExportOk m index e)
IsItemOk m part.Start index = IsSomeAnd (slice_get (option_to_list m.start) index) (λ function. IsStartOk m function)
IsItemOk m part.Element index = IsSomeAnd (slice_get m.elements index) (λ e. IsElemOk m e)
IsItemOk m part.Code index = IsSomeAnd (slice_get m.bodies index) (λ body. IsBodyOk m index body)
IsItemOk m part.DataSegment index = IsSomeAnd (slice_get m.datas index) (λ d. IsDataModeOk m d.mode)

-- every item of a part is ok
abbrev pub IsPartOk : Module → Part → Type 0
IsPartOk m part = (index : ℕ) → index < part_length m part → IsItemOk m part index

abbrev pub IsValid : Module → Type 0
IsValid m = (part : Part) → IsPartOk m part

-- ---- the first item that isn't ok

-- the place of a part in the order in which they are looked at
abbrev pub part_rank : Part → ℕ
part_rank part.Import = 0
part_rank part.Function = 1
part_rank part.Table = 2
part_rank part.Memory = 3
part_rank part.Global = 4
part_rank part.Export = 5
part_rank part.Start = 6
part_rank part.Element = 7
part_rank part.Code = 8
part_rank part.DataSegment = 9

-- an item stands before another: in an earlier part, or in the same one with a lower number
abbrev pub StandsBefore : Part → ℕ → Part → ℕ → Type 0
StandsBefore one index part other = (part_rank one < part_rank part) ⊎ ((one ≡ part) × (index < other))

-- the item is there and isn't ok, and every one before it is ok
pub record IsFirstInvalid (m : Module) (part : Part) (index : ℕ) : Type 0 where
  pub there : index < part_length m part
  pub broken : IsItemOk m part index → ⊥
  pub before : (one : Part) (other : ℕ) → other < part_length m one → StandsBefore one other part index → IsItemOk m one other

-- Why a module isn't accepted: its first item that isn't ok. Want of memory has no cause in the module.
abbrev pub IsModuleRefused : Module → ValidFault → Type 0
IsModuleRefused m (Invalid part index) = IsFirstInvalid m part index
IsModuleRefused m NoMemory = Unit {0}
