-- Section 5.5.10 of the Core Specification: the export section.
use Rattle.std.specs.Prelude.{◌⊎◌, ℕ, List, None, if◌then◌else◌, ◌==◌}
use Rattle.wz_bytes.specs.Reading.{Form, Reading}
use Rattle.wz_bytes.specs.Name.{IsName, name_at}
use Rattle.wz_bytes.specs.Forms.{IsByte, byte_at, Both, both_at, Made, made_at, IsVector, switch_at}
use Rattle.wz_module.specs.declared.items.ExportTarget.{ExportTarget}
use Rattle.wz_module.specs.declared.items.ExportTarget.TheVariants.{Func, Table, Memory, Global}
use Rattle.wz_module.specs.Exports.{Export}
use Rattle.wz_decode_code.specs.Instructions.{IsU32}
use Rattle.wz_decode_code.specs.InstrReading.{u32_at}
use Rattle.wz_decode_sections.specs.Productions.{Production}

-- exportdesc ::= 0x00 funcidx | 0x01 tableidx | 0x02 memidx | 0x03 globalidx
abbrev pub IsExportTarget : Form ExportTarget
IsExportTarget text target =
    Production IsByte 0x00 (λ index. Func index) (λ t n. IsU32 t n) text target
    ⊎ (Production IsByte 0x01 (λ index. Table index) (λ t n. IsU32 t n) text target
    ⊎ (Production IsByte 0x02 (λ index. Memory index) (λ t n. IsU32 t n) text target
    ⊎ Production IsByte 0x03 (λ index. Global index) (λ t n. IsU32 t n) text target))

abbrev pub export_from : List ℕ × ExportTarget → Export
export_from x = record { name = x.0; target = x.1 }

-- export ::= name exportdesc
abbrev pub IsExport : Form Export
IsExport text export = Made (λ x. export_from x) (Both IsName (λ t target. IsExportTarget t target)) text export

-- exportsec ::= vec(export)
abbrev pub IsExportSection : Form (List Export)
IsExportSection payload exports = IsVector (λ t export. IsExport t export) payload exports

-- ---- what stands in front of bytes

abbrev pub export_target_rows : ℕ → Reading ExportTarget
export_target_rows tag bytes =
    if tag == 0x00 then made_at (λ index. Func index) (λ b. u32_at b) bytes
    else (if tag == 0x01 then made_at (λ index. Table index) (λ b. u32_at b) bytes
    else (if tag == 0x02 then made_at (λ index. Memory index) (λ b. u32_at b) bytes
    else (if tag == 0x03 then made_at (λ index. Global index) (λ b. u32_at b) bytes
    else None)))

abbrev pub export_target_at : Reading ExportTarget
export_target_at bytes = switch_at byte_at (λ tag b. export_target_rows tag b) bytes

abbrev pub export_at : Reading Export
export_at bytes = made_at (λ x. export_from x) (λ b. both_at (λ b. name_at b) (λ b. export_target_at b) b) bytes
