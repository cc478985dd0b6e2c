-- Section 5.5.8 of the Core Specification: the memory section.
use Rattle.std.specs.Prelude.{List}
use Rattle.wz_bytes.specs.Reading.{Form}
use Rattle.wz_bytes.specs.Forms.{IsVector}
use Rattle.wz_types.specs.declared.types.MemType.{MemType}
use Rattle.wz_decode_sections.specs.Limits.{IsMemType}

-- memsec ::= vec(memtype)
abbrev pub IsMemorySection : Form (List MemType)
IsMemorySection payload memories = IsVector (λ t type. IsMemType t type) payload memories
