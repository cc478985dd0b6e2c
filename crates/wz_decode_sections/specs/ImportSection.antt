-- Section 5.5.5 of the Core Specification: the import section.
use Rattle.std.specs.Prelude.{◌⊎◌, ℕ, List, None, if◌then◌else◌, ◌==◌}
use Rattle.wz_bytes.specs.Reading.{Form, Reading}
use Rattle.wz_bytes.specs.Name.{IsName, name_at}
use Rattle.wz_bytes.specs.Forms.{IsByte, byte_at, Both, both_at, Made, made_at, IsVector, switch_at}
use Rattle.wz_module.specs.declared.items.ImportKind.{ImportKind}
use Rattle.wz_module.specs.declared.items.ImportKind.TheVariants.{Func, Table, Memory, Global}
use Rattle.wz_module.specs.Imports.{Import}
use Rattle.wz_decode_code.specs.Instructions.{IsU32}
use Rattle.wz_decode_code.specs.InstrReading.{u32_at}
use Rattle.wz_decode_sections.specs.Productions.{Production}
use Rattle.wz_decode_sections.specs.Limits.{IsMemType, mem_type_at, IsTableType, table_type_at}
use Rattle.wz_decode_sections.specs.GlobalTypes.{IsGlobalType, global_type_at}

-- importdesc ::= 0x00 typeidx | 0x01 tabletype | 0x02 memtype | 0x03 globaltype
abbrev pub IsImportKind : Form ImportKind
IsImportKind text kind =
    Production IsByte 0x00 (λ type. Func type) (λ t n. IsU32 t n) text kind
    ⊎ (Production IsByte 0x01 (λ type. Table type) (λ t x. IsTableType t x) text kind
    ⊎ (Production IsByte 0x02 (λ type. Memory type) (λ t x. IsMemType t x) text kind
    ⊎ Production IsByte 0x03 (λ type. Global type) (λ t x. IsGlobalType t x) text kind))

abbrev pub import_from : List ℕ × (List ℕ × ImportKind) → Import
import_from x = record { from_module = x.0; name = x.1.0; kind = x.1.1 }

-- import ::= name name importdesc
abbrev pub IsImport : Form Import
IsImport text i = Made (λ x. import_from x) (Both IsName (λ t x. Both IsName (λ t kind. IsImportKind t kind) t x)) text i

-- importsec ::= vec(import)
abbrev pub IsImportSection : Form (List Import)
IsImportSection payload imports = IsVector (λ t i. IsImport t i) payload imports

-- ---- what stands in front of bytes

abbrev pub import_kind_rows : ℕ → Reading ImportKind
import_kind_rows tag bytes =
    if tag == 0x00 then made_at (λ type. Func type) (λ b. u32_at b) bytes
    else (if tag == 0x01 then made_at (λ type. Table type) (λ b. table_type_at b) bytes
    else (if tag == 0x02 then made_at (λ type. Memory type) (λ b. mem_type_at b) bytes
    else (if tag == 0x03 then made_at (λ type. Global type) (λ b. global_type_at b) bytes
    else None)))

abbrev pub import_kind_at : Reading ImportKind
import_kind_at bytes = switch_at byte_at (λ tag b. import_kind_rows tag b) bytes

abbrev pub import_at : Reading Import
import_at bytes = made_at (λ x. import_from x) (λ b. both_at (λ b. name_at b) (λ b. both_at (λ b. name_at b) (λ b. import_kind_at b) b) b) bytes
