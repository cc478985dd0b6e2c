-- Section 5.5.16 of the Core Specification: what every module begins with.
use Rattle.std.specs.Prelude.{ℕ, List, [], ◌∷◌, ◌++◌}

-- magic ::= 0x00 0x61 0x73 0x6D
abbrev pub magic : List ℕ
magic = 0x00 ∷ 0x61 ∷ 0x73 ∷ 0x6D ∷ []

-- version ::= 0x01 0x00 0x00 0x00
abbrev pub version : List ℕ
version = 0x01 ∷ 0x00 ∷ 0x00 ∷ 0x00 ∷ []

abbrev pub header : List ℕ
header = magic ++ version
