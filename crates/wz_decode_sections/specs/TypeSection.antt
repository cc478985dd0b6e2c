-- Section 5.5.4 of the Core Specification: the type section.
use Rattle.std.specs.Prelude.{List}
use Rattle.wz_bytes.specs.Reading.{Form}
use Rattle.wz_bytes.specs.Forms.{IsVector}
use Rattle.wz_types.specs.FunctionType.{FunctionType}
use Rattle.wz_decode_sections.specs.FunctionTypes.{IsFuncType}

-- typesec ::= vec(functype)
abbrev pub IsTypeSection : Form (List FunctionType)
IsTypeSection payload types = IsVector (λ t type. IsFuncType t type) payload types
