-- Section 5.5.14 of the Core Specification: the data section.
use Rattle.std.specs.Prelude.{◌⊎◌, ℕ, List, None, if◌then◌else◌, ◌==◌}
use Rattle.wz_bytes.specs.Reading.{Form, Reading}
use Rattle.wz_bytes.specs.Forms.{made_at, IsVector, IsBytes, bytes_at, switch_at}
use Rattle.wz_module.specs.Datas.{DataMode, PassiveData, ActiveData, DataSegment}
use Rattle.wz_decode_code.specs.InstrReading.{u32_at}
use Rattle.wz_decode_sections.specs.Productions.{Production, IsSegmentFlag}
use Rattle.wz_decode_sections.specs.Offsets.{AtOffset, offset_at, AtPlace, place_at}

abbrev pub data_from : DataMode → List ℕ → DataSegment
data_from mode bytes = record { mode = mode; bytes = bytes }

-- data ::= 0:u32 expr vec(byte)          active in memory 0
--        | 1:u32 vec(byte)               passive
--        | 2:u32 memidx expr vec(byte)   active
abbrev pub IsData : Form DataSegment
IsData text segment =
    Production IsSegmentFlag 0 (λ x. data_from (ActiveData 0 x.0) x.1) (λ t x. AtOffset IsBytes t x) text segment
    ⊎ (Production IsSegmentFlag 1 (λ bytes. data_from PassiveData bytes) IsBytes text segment
    ⊎ Production IsSegmentFlag 2 (λ x. data_from (ActiveData x.0 x.1.0) x.1.1) (λ t x. AtPlace IsBytes t x) text segment)

-- datasec ::= vec(data)
abbrev pub IsDataSection : Form (List DataSegment)
IsDataSection payload datas = IsVector (λ t segment. IsData t segment) payload datas

-- ---- what stands in front of bytes

abbrev pub data_rows : ℕ → Reading DataSegment
data_rows flag bytes =
    if flag == 0 then made_at (λ x. data_from (ActiveData 0 x.0) x.1) (λ b. offset_at (λ b. bytes_at b) b) bytes
    else (if flag == 1 then made_at (λ bytes. data_from PassiveData bytes) (λ b. bytes_at b) bytes
    else (if flag == 2 then made_at (λ x. data_from (ActiveData x.0 x.1.0) x.1.1) (λ b. place_at (λ b. bytes_at b) b) bytes
    else None))

abbrev pub data_at : Reading DataSegment
data_at bytes = switch_at (λ b. u32_at b) (λ flag b. data_rows flag b) bytes
