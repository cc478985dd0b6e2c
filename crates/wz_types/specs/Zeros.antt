-- Section 4.2.1 of the Core Specification: the default value of each value type, with which a local that is no parameter starts.
use Rattle.std.specs.Prelude.{List, map}
use Rattle.wz_types.specs.declared.types.ValType.{ValType}
use Rattle.wz_types.specs.declared.types.ValType.TheVariants as valtype
use Rattle.wz_types.specs.declared.types.RefKind.TheVariants as kind
use Rattle.wz_types.specs.declared.value.Reference.TheVariants.{Null}
use Rattle.wz_types.specs.declared.value.Value.{Value}
use Rattle.wz_types.specs.declared.value.Value.TheVariants as value

abbrev pub zero_of : ValType → Value
zero_of valtype.I32 = value.I32 0
zero_of valtype.I64 = value.I64 0
zero_of valtype.F32 = value.F32 0
zero_of valtype.F64 = value.F64 0
zero_of valtype.FuncRef = value.Ref (Null kind.Func)
zero_of valtype.ExternRef = value.Ref (Null kind.Extern)

abbrev pub zeros_of : List ValType → List Value
zeros_of types = map (λ type. zero_of type) types
