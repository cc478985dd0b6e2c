-- Section 5.5.15 of the Core Specification: the data count section.
use Rattle.std.specs.Prelude.{ℕ}
use Rattle.wz_bytes.specs.Reading.{Form}
use Rattle.wz_decode_code.specs.Instructions.{IsU32}

-- datacountsec ::= u32
abbrev pub IsDataCountSection : Form ℕ
IsDataCountSection payload count = IsU32 payload count
