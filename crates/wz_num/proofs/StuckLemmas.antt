-- Operands of other numbers or types are stuck.
use Rattle.std.proofs.Common.{◌≡◌, ◌≤◌, List, [], ◌∷◌, length, refl, arith}
use Rattle.wz_types.specs.declared.value.Value.{Value}
use Rattle.wz_types.specs.declared.value.Value.TheVariants.{I32, I64, F32, F64}
use Rattle.wz_num.specs.declared.answer.NumAnswer.TheVariants.{Stuck}
use Rattle.wz_num.specs.Number.{Meaning, meant}
use Rattle.wz_num.specs.Number.Meaning.{OneI32, OneI64, OneF32, OneF64, TwoI32, TwoI64, TwoF32, TwoF64}

three : (meaning : Meaning) (a b c : Value) (rest : List Value) → Stuck ≡ meant meaning (a ∷ b ∷ c ∷ rest)
three (OneI32 f) (I32 x) b c rest = refl
three (OneI32 f) a b c rest = refl
three (OneI64 f) (I64 x) b c rest = refl
three (OneI64 f) a b c rest = refl
three (OneF32 f) (F32 x) b c rest = refl
three (OneF32 f) a b c rest = refl
three (OneF64 f) (F64 x) b c rest = refl
three (OneF64 f) a b c rest = refl
three (TwoI32 f) (I32 x) (I32 y) c rest = refl
three (TwoI32 f) a b c rest = refl
three (TwoI64 f) (I64 x) (I64 y) c rest = refl
three (TwoI64 f) a b c rest = refl
three (TwoF32 f) (F32 x) (F32 y) c rest = refl
three (TwoF32 f) a b c rest = refl
three (TwoF64 f) (F64 x) (F64 y) c rest = refl
three (TwoF64 f) a b c rest = refl

pub too_many : (meaning : Meaning) (operands : List Value) → 3 ≤ length operands → Stuck ≡ meant meaning operands
too_many meaning [] h = absurd (omega (arith, h))
too_many meaning (a ∷ []) h = absurd (omega (arith, h))
too_many meaning (a ∷ b ∷ []) h = absurd (omega (arith, h))
too_many meaning (a ∷ b ∷ c ∷ rest) h = three meaning a b c rest
