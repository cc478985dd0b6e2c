-- Section 5.5.2 of the Core Specification: how sections are written.
use Rattle.std.specs.Prelude.{ℕ, List, ◌∷◌}
use Rattle.wz_encode.specs.Vectors.{bytes_text}

-- section ::= id:byte size:u32 contents
abbrev pub section_text : ℕ → List ℕ → List ℕ
section_text id payload = id ∷ bytes_text payload
