-- What an instance holds, as plain lists: an item's place in its list is the number by which instructions name it.
-- WebAssembly Core Specification 2.0, sections 4.2.3 and 4.2.5 to 4.2.11 (store and instances), without addresses, since
-- all belongs to one module, and without minima, since a table's and a memory's minimum is its present size.
use Rattle.std.specs.Prelude.{ℕ, ◌/◌, List, length, Option}
use Rattle.std.specs.List.{sum_by}
use Rattle.wz_types.specs.declared.types.RefKind.{RefKind}
use Rattle.wz_types.specs.declared.types.GlobalType.{GlobalType}
use Rattle.wz_types.specs.declared.types.Limits.{Limits}
use Rattle.wz_types.specs.declared.types.MemType.{MemType}
use Rattle.wz_types.specs.declared.types.TableType.{TableType}
use Rattle.wz_types.specs.declared.value.Reference.{Reference}
use Rattle.wz_types.specs.declared.value.Value.{Value}
use Rattle.wz_types.specs.FunctionType.{FunctionType}

pub record Global : Type 0 where
  pub type : GlobalType
  pub content : Value

pub record Table : Type 0 where
  pub kind : RefKind
  pub entries : List Reference
  pub maximum : Option ℕ

-- the maximum counts pages
pub record Memory : Type 0 where
  pub bytes : List ℕ
  pub maximum : Option ℕ

pub record Element : Type 0 where
  pub kind : RefKind
  pub items : List Reference

-- the whole, where a function is kept as an `F`: by the number of its body, or with its instructions
pub record StateOf (F : Type 0) : Type 0 where
  pub types : List FunctionType
  pub functions : List F
  pub globals : List Global
  pub tables : List Table
  pub memories : List Memory
  pub elements : List Element
  pub datas : List (List ℕ)

-- ---- the types of tables and memories as they are now: the minimum is the present size

abbrev pub page_size : ℕ
page_size = 65536

abbrev pub pages_of : Memory → ℕ
pages_of memory = length memory.bytes / page_size

-- the pages of all memories together
abbrev pub pages_together : List Memory → ℕ
pages_together memories = sum_by pages_of memories

abbrev pub present_limits : ℕ → Option ℕ → Limits
present_limits size maximum = record { min = size; max = maximum }

abbrev pub table_type_of : Table → TableType
table_type_of table = record { kind = table.kind; limits = present_limits (length table.entries) table.maximum }

abbrev pub memory_type_of : Memory → MemType
memory_type_of memory = record { limits = present_limits (pages_of memory) memory.maximum }
