-- Section 4.4.1 of the Core Specification: what each numeric instruction does with its operands, by the operations of section 4.3.
use Rattle.std.specs.Prelude.{ℕ, List, [], ◌∷◌, Result, Ok, Err}
use Rattle.wz_types.specs.declared.trap.TrapKind.{TrapKind}
use Rattle.wz_types.specs.declared.value.Value.{Value}
use Rattle.wz_types.specs.declared.value.Value.TheVariants.{I32, I64, F32, F64}
use Rattle.wz_code.specs.declared.numeric.NumOp.{NumOp}
use Rattle.wz_code.specs.declared.numeric.NumOp.TheVariants as op
use Rattle.wz_num.specs.declared.answer.NumAnswer.{NumAnswer}
use Rattle.wz_num.specs.declared.answer.NumAnswer.TheVariants.{Gives, Trap, Ask, Stuck}
use Rattle.wz_num.specs.Integers.{iadd, isub, imul, idiv_u, idiv_s, irem_u, irem_s, iand, ior, ixor, ishl, ishr_u, ishr_s, irotl, irotr}
use Rattle.wz_num.specs.Integers.{iclz, ictz, ipopcnt, ieqz, ieq, ine, ilt_u, ilt_s, igt_u, igt_s, ile_u, ile_s, ige_u, ige_s}
use Rattle.wz_num.specs.Floats.{fabs, fneg, fcopysign}
use Rattle.wz_num.specs.Conversions.{wrap, extend_u, extend_s, iextend_s, reinterpret}

-- what an operation makes of the patterns of its operands, one or two of a type, the first pushed first
pub data Meaning : Type 0 where
  OneI32 OneI64 OneF32 OneF64 : (ℕ → NumAnswer) → Meaning
  TwoI32 TwoI64 TwoF32 TwoF64 : (ℕ → ℕ → NumAnswer) → Meaning

-- the answer on operands, in the order of pushing; there is none where they aren't as many of the type
abbrev pub meant : Meaning → List Value → NumAnswer
meant (OneI32 f) (I32 a ∷ []) = f a
meant (OneI64 f) (I64 a ∷ []) = f a
meant (OneF32 f) (F32 a ∷ []) = f a
meant (OneF64 f) (F64 a ∷ []) = f a
meant (TwoI32 f) (I32 a ∷ I32 b ∷ []) = f a b
meant (TwoI64 f) (I64 a ∷ I64 b ∷ []) = f a b
meant (TwoF32 f) (F32 a ∷ F32 b ∷ []) = f a b
meant (TwoF64 f) (F64 a ∷ F64 b ∷ []) = f a b
meant meaning operands = Stuck

-- ---- the pattern of a value of the type, or the trap of an undefined quotient

abbrev pub i32 : ℕ → NumAnswer
i32 a = Gives (I32 a)

abbrev pub i64 : ℕ → NumAnswer
i64 a = Gives (I64 a)

abbrev pub f32 : ℕ → NumAnswer
f32 a = Gives (F32 a)

abbrev pub f64 : ℕ → NumAnswer
f64 a = Gives (F64 a)

abbrev pub i32_or_trap : Result ℕ TrapKind → NumAnswer
i32_or_trap (Ok a) = i32 a
i32_or_trap (Err kind) = Trap kind

abbrev pub i64_or_trap : Result ℕ TrapKind → NumAnswer
i64_or_trap (Ok a) = i64 a
i64_or_trap (Err kind) = Trap kind

-- the table, in the order of the opcodes; `Ask` is the question that the environment answers
abbrev pub meaning_of : NumOp → Meaning
meaning_of op.I32Eqz = OneI32 (λ a. i32 (ieqz 32 a))
meaning_of op.I32Eq = TwoI32 (λ a b. i32 (ieq 32 a b))
meaning_of op.I32Ne = TwoI32 (λ a b. i32 (ine 32 a b))
meaning_of op.I32LtS = TwoI32 (λ a b. i32 (ilt_s 32 a b))
meaning_of op.I32LtU = TwoI32 (λ a b. i32 (ilt_u 32 a b))
meaning_of op.I32GtS = TwoI32 (λ a b. i32 (igt_s 32 a b))
meaning_of op.I32GtU = TwoI32 (λ a b. i32 (igt_u 32 a b))
meaning_of op.I32LeS = TwoI32 (λ a b. i32 (ile_s 32 a b))
meaning_of op.I32LeU = TwoI32 (λ a b. i32 (ile_u 32 a b))
meaning_of op.I32GeS = TwoI32 (λ a b. i32 (ige_s 32 a b))
meaning_of op.I32GeU = TwoI32 (λ a b. i32 (ige_u 32 a b))
meaning_of op.I64Eqz = OneI64 (λ a. i32 (ieqz 64 a))
meaning_of op.I64Eq = TwoI64 (λ a b. i32 (ieq 64 a b))
meaning_of op.I64Ne = TwoI64 (λ a b. i32 (ine 64 a b))
meaning_of op.I64LtS = TwoI64 (λ a b. i32 (ilt_s 64 a b))
meaning_of op.I64LtU = TwoI64 (λ a b. i32 (ilt_u 64 a b))
meaning_of op.I64GtS = TwoI64 (λ a b. i32 (igt_s 64 a b))
meaning_of op.I64GtU = TwoI64 (λ a b. i32 (igt_u 64 a b))
meaning_of op.I64LeS = TwoI64 (λ a b. i32 (ile_s 64 a b))
meaning_of op.I64LeU = TwoI64 (λ a b. i32 (ile_u 64 a b))
meaning_of op.I64GeS = TwoI64 (λ a b. i32 (ige_s 64 a b))
meaning_of op.I64GeU = TwoI64 (λ a b. i32 (ige_u 64 a b))
meaning_of op.F32Eq = TwoF32 (λ a b. Ask)
meaning_of op.F32Ne = TwoF32 (λ a b. Ask)
meaning_of op.F32Lt = TwoF32 (λ a b. Ask)
meaning_of op.F32Gt = TwoF32 (λ a b. Ask)
meaning_of op.F32Le = TwoF32 (λ a b. Ask)
meaning_of op.F32Ge = TwoF32 (λ a b. Ask)
meaning_of op.F64Eq = TwoF64 (λ a b. Ask)
meaning_of op.F64Ne = TwoF64 (λ a b. Ask)
meaning_of op.F64Lt = TwoF64 (λ a b. Ask)
meaning_of op.F64Gt = TwoF64 (λ a b. Ask)
meaning_of op.F64Le = TwoF64 (λ a b. Ask)
meaning_of op.F64Ge = TwoF64 (λ a b. Ask)
meaning_of op.I32Clz = OneI32 (λ a. i32 (iclz 32 a))
meaning_of op.I32Ctz = OneI32 (λ a. i32 (ictz 32 a))
meaning_of op.I32Popcnt = OneI32 (λ a. i32 (ipopcnt 32 a))
meaning_of op.I32Add = TwoI32 (λ a b. i32 (iadd 32 a b))
meaning_of op.I32Sub = TwoI32 (λ a b. i32 (isub 32 a b))
meaning_of op.I32Mul = TwoI32 (λ a b. i32 (imul 32 a b))
meaning_of op.I32DivS = TwoI32 (λ a b. i32_or_trap (idiv_s 32 a b))
meaning_of op.I32DivU = TwoI32 (λ a b. i32_or_trap (idiv_u 32 a b))
meaning_of op.I32RemS = TwoI32 (λ a b. i32_or_trap (irem_s 32 a b))
meaning_of op.I32RemU = TwoI32 (λ a b. i32_or_trap (irem_u 32 a b))
meaning_of op.I32And = TwoI32 (λ a b. i32 (iand 32 a b))
meaning_of op.I32Or = TwoI32 (λ a b. i32 (ior 32 a b))
meaning_of op.I32Xor = TwoI32 (λ a b. i32 (ixor 32 a b))
meaning_of op.I32Shl = TwoI32 (λ a b. i32 (ishl 32 a b))
meaning_of op.I32ShrS = TwoI32 (λ a b. i32 (ishr_s 32 a b))
meaning_of op.I32ShrU = TwoI32 (λ a b. i32 (ishr_u 32 a b))
meaning_of op.I32Rotl = TwoI32 (λ a b. i32 (irotl 32 a b))
meaning_of op.I32Rotr = TwoI32 (λ a b. i32 (irotr 32 a b))
meaning_of op.I64Clz = OneI64 (λ a. i64 (iclz 64 a))
meaning_of op.I64Ctz = OneI64 (λ a. i64 (ictz 64 a))
meaning_of op.I64Popcnt = OneI64 (λ a. i64 (ipopcnt 64 a))
meaning_of op.I64Add = TwoI64 (λ a b. i64 (iadd 64 a b))
meaning_of op.I64Sub = TwoI64 (λ a b. i64 (isub 64 a b))
meaning_of op.I64Mul = TwoI64 (λ a b. i64 (imul 64 a b))
meaning_of op.I64DivS = TwoI64 (λ a b. i64_or_trap (idiv_s 64 a b))
meaning_of op.I64DivU = TwoI64 (λ a b. i64_or_trap (idiv_u 64 a b))
meaning_of op.I64RemS = TwoI64 (λ a b. i64_or_trap (irem_s 64 a b))
meaning_of op.I64RemU = TwoI64 (λ a b. i64_or_trap (irem_u 64 a b))
meaning_of op.I64And = TwoI64 (λ a b. i64 (iand 64 a b))
meaning_of op.I64Or = TwoI64 (λ a b. i64 (ior 64 a b))
meaning_of op.I64Xor = TwoI64 (λ a b. i64 (ixor 64 a b))
meaning_of op.I64Shl = TwoI64 (λ a b. i64 (ishl 64 a b))
meaning_of op.I64ShrS = TwoI64 (λ a b. i64 (ishr_s 64 a b))
meaning_of op.I64ShrU = TwoI64 (λ a b. i64 (ishr_u 64 a b))
meaning_of op.I64Rotl = TwoI64 (λ a b. i64 (irotl 64 a b))
meaning_of op.I64Rotr = TwoI64 (λ a b. i64 (irotr 64 a b))
meaning_of op.F32Abs = OneF32 (λ a. f32 (fabs 32 a))
meaning_of op.F32Neg = OneF32 (λ a. f32 (fneg 32 a))
meaning_of op.F32Ceil = OneF32 (λ a. Ask)
meaning_of op.F32Floor = OneF32 (λ a. Ask)
meaning_of op.F32Trunc = OneF32 (λ a. Ask)
meaning_of op.F32Nearest = OneF32 (λ a. Ask)
meaning_of op.F32Sqrt = OneF32 (λ a. Ask)
meaning_of op.F32Add = TwoF32 (λ a b. Ask)
meaning_of op.F32Sub = TwoF32 (λ a b. Ask)
meaning_of op.F32Mul = TwoF32 (λ a b. Ask)
meaning_of op.F32Div = TwoF32 (λ a b. Ask)
meaning_of op.F32Min = TwoF32 (λ a b. Ask)
meaning_of op.F32Max = TwoF32 (λ a b. Ask)
meaning_of op.F32Copysign = TwoF32 (λ a b. f32 (fcopysign 32 a b))
meaning_of op.F64Abs = OneF64 (λ a. f64 (fabs 64 a))
meaning_of op.F64Neg = OneF64 (λ a. f64 (fneg 64 a))
meaning_of op.F64Ceil = OneF64 (λ a. Ask)
meaning_of op.F64Floor = OneF64 (λ a. Ask)
meaning_of op.F64Trunc = OneF64 (λ a. Ask)
meaning_of op.F64Nearest = OneF64 (λ a. Ask)
meaning_of op.F64Sqrt = OneF64 (λ a. Ask)
meaning_of op.F64Add = TwoF64 (λ a b. Ask)
meaning_of op.F64Sub = TwoF64 (λ a b. Ask)
meaning_of op.F64Mul = TwoF64 (λ a b. Ask)
meaning_of op.F64Div = TwoF64 (λ a b. Ask)
meaning_of op.F64Min = TwoF64 (λ a b. Ask)
meaning_of op.F64Max = TwoF64 (λ a b. Ask)
meaning_of op.F64Copysign = TwoF64 (λ a b. f64 (fcopysign 64 a b))
meaning_of op.I32WrapI64 = OneI64 (λ a. i32 (wrap 64 32 a))
meaning_of op.I32TruncF32S = OneF32 (λ a. Ask)
meaning_of op.I32TruncF32U = OneF32 (λ a. Ask)
meaning_of op.I32TruncF64S = OneF64 (λ a. Ask)
meaning_of op.I32TruncF64U = OneF64 (λ a. Ask)
meaning_of op.I64ExtendI32S = OneI32 (λ a. i64 (extend_s 32 64 a))
meaning_of op.I64ExtendI32U = OneI32 (λ a. i64 (extend_u 32 64 a))
meaning_of op.I64TruncF32S = OneF32 (λ a. Ask)
meaning_of op.I64TruncF32U = OneF32 (λ a. Ask)
meaning_of op.I64TruncF64S = OneF64 (λ a. Ask)
meaning_of op.I64TruncF64U = OneF64 (λ a. Ask)
meaning_of op.F32ConvertI32S = OneI32 (λ a. Ask)
meaning_of op.F32ConvertI32U = OneI32 (λ a. Ask)
meaning_of op.F32ConvertI64S = OneI64 (λ a. Ask)
meaning_of op.F32ConvertI64U = OneI64 (λ a. Ask)
meaning_of op.F32DemoteF64 = OneF64 (λ a. Ask)
meaning_of op.F64ConvertI32S = OneI32 (λ a. Ask)
meaning_of op.F64ConvertI32U = OneI32 (λ a. Ask)
meaning_of op.F64ConvertI64S = OneI64 (λ a. Ask)
meaning_of op.F64ConvertI64U = OneI64 (λ a. Ask)
meaning_of op.F64PromoteF32 = OneF32 (λ a. Ask)
meaning_of op.I32ReinterpretF32 = OneF32 (λ a. i32 (reinterpret a))
meaning_of op.I64ReinterpretF64 = OneF64 (λ a. i64 (reinterpret a))
meaning_of op.F32ReinterpretI32 = OneI32 (λ a. f32 (reinterpret a))
meaning_of op.F64ReinterpretI64 = OneI64 (λ a. f64 (reinterpret a))
meaning_of op.I32Extend8S = OneI32 (λ a. i32 (iextend_s 32 8 a))
meaning_of op.I32Extend16S = OneI32 (λ a. i32 (iextend_s 32 16 a))
meaning_of op.I64Extend8S = OneI64 (λ a. i64 (iextend_s 64 8 a))
meaning_of op.I64Extend16S = OneI64 (λ a. i64 (iextend_s 64 16 a))
meaning_of op.I64Extend32S = OneI64 (λ a. i64 (iextend_s 64 32 a))
meaning_of op.I32TruncSatF32S = OneF32 (λ a. Ask)
meaning_of op.I32TruncSatF32U = OneF32 (λ a. Ask)
meaning_of op.I32TruncSatF64S = OneF64 (λ a. Ask)
meaning_of op.I32TruncSatF64U = OneF64 (λ a. Ask)
meaning_of op.I64TruncSatF32S = OneF32 (λ a. Ask)
meaning_of op.I64TruncSatF32U = OneF32 (λ a. Ask)
meaning_of op.I64TruncSatF64S = OneF64 (λ a. Ask)
meaning_of op.I64TruncSatF64U = OneF64 (λ a. Ask)

-- a value, a trap, a question, or stuck
unfoldable pub number : NumOp → List Value → NumAnswer
number op operands = meant (meaning_of op) operands
