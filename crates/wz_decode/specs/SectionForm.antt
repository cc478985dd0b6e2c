-- Section 5.5.2 of the Core Specification: a section, whatever it holds.
use Rattle.std.specs.Prelude.{ℕ, List}
use Rattle.wz_bytes.specs.Reading.{Form, Reading}
use Rattle.wz_bytes.specs.Forms.{IsByte, byte_at, Both, both_at, Made, made_at, IsBytes, bytes_at, AreItems}
use Rattle.wz_module.specs.Sections.{Section}

abbrev pub section_from : ℕ × List ℕ → Section
section_from x = record { id = x.0; payload = x.1 }

-- section ::= id:byte size:u32 and so many bytes
abbrev pub IsSection : Form Section
IsSection text section = Made (λ x. section_from x) (Both IsByte IsBytes) text section

-- sections one behind the other
abbrev pub AreSections : Form (List Section)
AreSections text sections = AreItems (λ t s. IsSection t s) text sections

-- ---- what stands in front of bytes

abbrev pub section_at : Reading Section
section_at bytes = made_at (λ x. section_from x) (λ b. both_at byte_at (λ b. bytes_at b) b) bytes
