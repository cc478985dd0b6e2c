-- Sections 4.2.12 (export instances) and 4.2.13 (external values) of the Core Specification: what of an instance is seen from outside.
use Rattle.std.specs.Prelude.{ℕ, List, Option, Some, None, find}
use Rattle.std.specs.Str.{bytes_eq}

-- a function, table, memory or global of the instance, by number
pub data ExternalValue : Type 0 where
  ExternalFunction : ℕ → ExternalValue
  ExternalTable : ℕ → ExternalValue
  ExternalMemory : ℕ → ExternalValue
  ExternalGlobal : ℕ → ExternalValue

-- with the bytes of its name
pub record ExportInstance : Type 0 where
  pub name : List ℕ
  pub value : ExternalValue

abbrev pub value_of_export : Option ExportInstance → Option ExternalValue
value_of_export None = None
value_of_export (Some export) = Some export.value

-- what the first export of this name is; names are distinct in every module
abbrev pub exported : List ExportInstance → List ℕ → Option ExternalValue
exported exports name = value_of_export (find (λ export. bytes_eq export.name name) exports)
