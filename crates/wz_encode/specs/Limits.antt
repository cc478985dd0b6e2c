-- Sections 5.3.7, 5.3.8 and 5.5.8 of the Core Specification: how limits and the memory section are written.
use Rattle.std.specs.Prelude.{ℕ, List, ◌∷◌, ◌++◌, Option, Some, None}
use Rattle.wz_bytes.specs.Shortest.{shortest_unsigned}
use Rattle.wz_types.specs.declared.types.MemType.{MemType}
use Rattle.wz_encode.specs.Vectors.{vector_text}

-- limits ::= 0x00 min:u32 | 0x01 min:u32 max:u32
abbrev pub limits_text : ℕ → Option ℕ → List ℕ
limits_text min None = 0x00 ∷ shortest_unsigned min
limits_text min (Some max) = 0x01 ∷ (shortest_unsigned min ++ shortest_unsigned max)

-- memtype ::= limits
abbrev pub memory_type_text : MemType → List ℕ
memory_type_text type = limits_text type.limits.min type.limits.max

-- memsec ::= vec(memtype)
abbrev pub memories_text : List MemType → List ℕ
memories_text memories = vector_text memory_type_text memories
