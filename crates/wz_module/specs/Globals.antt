-- Section 2.5.6 of the Core Specification: globals.
use Rattle.wz_types.specs.declared.types.GlobalType.{GlobalType}
use Rattle.wz_code.specs.Trees.{Code}

-- a global of the module's own, and the expression of its first value
pub record GlobalDef : Type 0 where
  pub kind : GlobalType
  pub init : Code
