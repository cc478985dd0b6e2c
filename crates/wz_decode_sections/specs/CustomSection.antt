-- Section 5.5.3 of the Core Specification: custom sections.
use Rattle.std.specs.Prelude.{ℕ, List}
use Rattle.wz_bytes.specs.Reading.{Front}
use Rattle.wz_bytes.specs.Name.{IsName}

-- custom ::= name byte*
abbrev pub IsCustomSection : List ℕ → Type 0
IsCustomSection payload = (name rest : List ℕ) × Front IsName payload name rest
