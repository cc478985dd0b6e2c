-- Section 5.5.11 of the Core Specification: the start section.
use Rattle.std.specs.Prelude.{ℕ}
use Rattle.wz_bytes.specs.Reading.{Form}
use Rattle.wz_decode_code.specs.Instructions.{IsU32}

-- startsec ::= funcidx
abbrev pub IsStartSection : Form ℕ
IsStartSection payload function = IsU32 payload function
