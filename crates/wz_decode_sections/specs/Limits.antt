-- Sections 5.3.7 to 5.3.9 of the Core Specification: limits, and the types of memories and tables.
use Rattle.std.specs.Prelude.{◌⊎◌, ℕ, Option, Some, None, if◌then◌else◌, ◌==◌}
use Rattle.wz_bytes.specs.Reading.{Form, Reading}
use Rattle.wz_bytes.specs.Forms.{IsByte, byte_at, Both, both_at, Made, made_at, switch_at}
use Rattle.wz_types.specs.declared.types.RefKind.{RefKind}
use Rattle.wz_types.specs.declared.types.Limits.{Limits}
use Rattle.wz_types.specs.declared.types.MemType.{MemType}
use Rattle.wz_types.specs.declared.types.TableType.{TableType}
use Rattle.wz_decode_code.specs.Types.{IsRefKind, kind_at}
use Rattle.wz_decode_code.specs.Instructions.{IsU32, Two}
use Rattle.wz_decode_code.specs.InstrReading.{u32_at, two_at}
use Rattle.wz_decode_sections.specs.Productions.{Production}

abbrev pub limits_from : ℕ → Option ℕ → Limits
limits_from min max = record { min = min; max = max }

-- limits ::= 0x00 min:u32 | 0x01 min:u32 max:u32
abbrev pub IsLimits : Form Limits
IsLimits text limits =
    Production IsByte 0x00 (λ min. limits_from min None) (λ t n. IsU32 t n) text limits
    ⊎ Production IsByte 0x01 (λ xy. limits_from xy.0 (Some xy.1)) (λ t xy. Two t xy) text limits

abbrev pub mem_type_from : Limits → MemType
mem_type_from limits = record { limits = limits }

-- memtype ::= limits
abbrev pub IsMemType : Form MemType
IsMemType text type = Made (λ x. mem_type_from x) (λ t l. IsLimits t l) text type

abbrev pub table_type_from : RefKind × Limits → TableType
table_type_from x = record { kind = x.0; limits = x.1 }

-- tabletype ::= reftype limits
abbrev pub IsTableType : Form TableType
IsTableType text type = Made (λ x. table_type_from x) (Both (λ t kind. IsRefKind t kind) (λ t l. IsLimits t l)) text type

-- ---- what stands in front of bytes

abbrev pub limits_rows : ℕ → Reading Limits
limits_rows tag bytes =
    if tag == 0x00 then made_at (λ min. limits_from min None) (λ b. u32_at b) bytes
    else (if tag == 0x01 then made_at (λ xy. limits_from xy.0 (Some xy.1)) (λ b. two_at b) bytes
    else None)

abbrev pub limits_at : Reading Limits
limits_at bytes = switch_at byte_at (λ tag b. limits_rows tag b) bytes

abbrev pub mem_type_at : Reading MemType
mem_type_at bytes = made_at (λ x. mem_type_from x) (λ b. limits_at b) bytes

abbrev pub table_type_at : Reading TableType
table_type_at bytes = made_at (λ x. table_type_from x) (λ b. both_at (λ b. kind_at b) (λ b. limits_at b) b) bytes
