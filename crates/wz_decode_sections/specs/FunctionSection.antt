-- Section 5.5.6 of the Core Specification: the function section.
use Rattle.std.specs.Prelude.{ℕ, List}
use Rattle.wz_bytes.specs.Reading.{Form, Reading}
use Rattle.wz_bytes.specs.Forms.{IsVector, vector_at}
use Rattle.wz_decode_code.specs.Instructions.{IsU32}
use Rattle.wz_decode_code.specs.InstrReading.{u32_at}

-- vec(u32), where each number is an index (section 5.5.1)
abbrev pub AreIndices : Form (List ℕ)
AreIndices text indices = IsVector (λ t n. IsU32 t n) text indices

-- funcsec ::= vec(typeidx)
abbrev pub IsFunctionSection : Form (List ℕ)
IsFunctionSection payload functions = AreIndices payload functions

-- ---- what stands in front of bytes

abbrev pub indices_at : Reading (List ℕ)
indices_at bytes = vector_at (λ b. u32_at b) bytes
