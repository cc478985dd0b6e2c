-- Section 2.3 of the Core Specification: when two types are one, as tests.
use Rattle.std.specs.Prelude.{List, [], ◌∷◌, Bool, true, false, ◌&&◌}
use Rattle.wz_types.specs.declared.types.ValType.{ValType}
use Rattle.wz_types.specs.declared.types.ValType.TheVariants.{I32, I64, F32, F64, FuncRef, ExternRef}
use Rattle.wz_types.specs.declared.types.RefKind.{RefKind}
use Rattle.wz_types.specs.declared.types.RefKind.TheVariants.{Func, Extern}
use Rattle.wz_types.specs.FunctionType.{FunctionType}

abbrev pub same_type : ValType → ValType → Bool
same_type I32 I32 = true
same_type I64 I64 = true
same_type F32 F32 = true
same_type F64 F64 = true
same_type FuncRef FuncRef = true
same_type ExternRef ExternRef = true
same_type a b = false

abbrev pub same_kind : RefKind → RefKind → Bool
same_kind Func Func = true
same_kind Extern Extern = true
same_kind a b = false

abbrev pub same_types : List ValType → List ValType → Bool
same_types [] [] = true
same_types (a ∷ one) (b ∷ other) = same_type a b && same_types one other
same_types one other = false

abbrev pub same_function_type : FunctionType → FunctionType → Bool
same_function_type a b = same_types a.params b.params && same_types a.results b.results
