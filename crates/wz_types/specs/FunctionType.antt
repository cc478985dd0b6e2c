-- Section 2.3.6 of the Core Specification: a function's type.
use Rattle.std.specs.Prelude.{List}
use Rattle.wz_types.specs.declared.types.ValType.{ValType}

-- the types of the parameters and of the results, each in the order of pushing
pub record FunctionType : Type 0 where
  pub params : List ValType
  pub results : List ValType
