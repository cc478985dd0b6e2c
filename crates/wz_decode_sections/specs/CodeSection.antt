-- Section 5.5.13 of the Core Specification: the code section.
use Rattle.std.specs.Prelude.{List}
use Rattle.wz_bytes.specs.Reading.{Form, Reading}
use Rattle.wz_bytes.specs.Forms.{Sized, sized_at, IsVector}
use Rattle.wz_module.specs.Functions.{BodyTree}
use Rattle.wz_decode_code.specs.Entry.{IsEntry}
use Rattle.wz_decode_code.specs.Reading.{entry_at}

-- code ::= size:u32 and a function's locals and instructions, in just so many bytes
abbrev pub IsCodeEntry : Form BodyTree
IsCodeEntry text body = Sized (λ t body. IsEntry t body) text body

-- codesec ::= vec(code)
abbrev pub IsCodeSection : Form (List BodyTree)
IsCodeSection payload bodies = IsVector (λ t body. IsCodeEntry t body) payload bodies

-- ---- what stands in front of bytes

abbrev pub code_entry_at : Reading BodyTree
code_entry_at bytes = sized_at (λ b. entry_at b) bytes
