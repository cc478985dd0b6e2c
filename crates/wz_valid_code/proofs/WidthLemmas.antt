-- A constant that is typed has its width.
use Rattle.std.proofs.Common.{ℕ, ◌<◌, ◌^◌, nat_lt, [], ◌∷◌}
use Rattle.std.proofs.lemmas.Bool.{ltb-true}
use Rattle.wz_types.specs.declared.types.ValType.{ValType}
use Rattle.wz_types.specs.declared.types.ValType.TheVariants as valtype
use Rattle.wz_code.specs.declared.instr.Instr.TheVariants.{I32Const, I64Const, F32Const, F64Const}
use Rattle.wz_code.specs.Trees.{Plain, TableBranch, TypedSelect}
use Rattle.wz_valid_code.specs.Operands.{Operands}
use Rattle.wz_valid_code.specs.Rules.{Exchange, Leads}
use Rattle.wz_valid_code.specs.Instructions.{constant_of}
use Rattle.wz_valid_code.specs.Laws.{TypedHasWidth, ConstantHasWidth}
use Rattle.wz_valid_code.proofs.LawLemmas.{if-fits}

constant-width : (type : ValType) (width bits : ℕ) (before next : Operands) → Leads (constant_of type width bits) before next → bits < 2 ^ width
constant-width type width bits before next l = ltb-true bits (2 ^ width) (if-fits (nat_lt bits (2 ^ width)) (Exchange [] (type ∷ [])) before next l)

pub typed_has_width : TypedHasWidth
typed_has_width scope labels (Plain (I32Const bits)) before next l = constant-width valtype.I32 32 bits before next l
typed_has_width scope labels (Plain (I64Const bits)) before next l = constant-width valtype.I64 64 bits before next l
typed_has_width scope labels (Plain (F32Const bits)) before next l = constant-width valtype.F32 32 bits before next l
typed_has_width scope labels (Plain (F64Const bits)) before next l = constant-width valtype.F64 64 bits before next l
typed_has_width scope labels (Plain instr) before next l = tt
typed_has_width scope labels (TableBranch numbers last) before next l = tt
typed_has_width scope labels (TypedSelect types) before next l = tt

pub constant_has_width : ConstantHasWidth
constant_has_width context (Plain (I32Const bits)) before next l = constant-width valtype.I32 32 bits before next l
constant_has_width context (Plain (I64Const bits)) before next l = constant-width valtype.I64 64 bits before next l
constant_has_width context (Plain (F32Const bits)) before next l = constant-width valtype.F32 32 bits before next l
constant_has_width context (Plain (F64Const bits)) before next l = constant-width valtype.F64 64 bits before next l
constant_has_width context (Plain instr) before next l = tt
constant_has_width context (TableBranch numbers last) before next l = tt
constant_has_width context (TypedSelect types) before next l = tt
