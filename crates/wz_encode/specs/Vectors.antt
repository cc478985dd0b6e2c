-- Sections 5.1.3 and 5.2.4 of the Core Specification: how vectors and names are written, with the shortest spelling of their length.
use Rattle.std.specs.Prelude.{ℕ, List, ◌++◌, length}
use Rattle.std.specs.List.{flat_map}
use Rattle.wz_bytes.specs.Shortest.{shortest_unsigned}

-- vec(B): the number of the items, and these one behind the other
abbrev pub vector_text : {X : Type 0} → (X → List ℕ) → List X → List ℕ
vector_text item items = shortest_unsigned (length items) ++ flat_map item items

-- vec(byte), and so a name
abbrev pub bytes_text : List ℕ → List ℕ
bytes_text bytes = shortest_unsigned (length bytes) ++ bytes
