-- Section 5.5.7 of the Core Specification: the table section.
use Rattle.std.specs.Prelude.{List}
use Rattle.wz_bytes.specs.Reading.{Form}
use Rattle.wz_bytes.specs.Forms.{IsVector}
use Rattle.wz_types.specs.declared.types.TableType.{TableType}
use Rattle.wz_decode_sections.specs.Limits.{IsTableType}

-- tablesec ::= vec(tabletype)
abbrev pub IsTableSection : Form (List TableType)
IsTableSection payload tables = IsVector (λ t type. IsTableType t type) payload tables
