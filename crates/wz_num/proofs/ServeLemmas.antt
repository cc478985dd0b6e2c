-- Operands of an operation's types are answered by a value of its result's type, a trap or a question.
use Rattle.std.proofs.Common.{◌≡◌, ℕ, ◌<◌, ◌^◌, ◌%◌, nat_lt, List, [], ◌∷◌, Result, Ok, Err, IfOk, IsTrue, Bool, true, false, true≢false, sym, ap, ap₂, ◌∙◌, refl, subst, arith, lt_of_le_of_lt}
use Rattle.std.proofs.lemmas.Bool.{ltb-true, lt-ltb}
use Rattle.std.proofs.lemmas.Nat.{and_le_l, or_lt, xor_lt, leading_le, trailing_le, ones-le}
use Rattle.wz_types.specs.declared.trap.TrapKind.{TrapKind}
use Rattle.wz_types.specs.declared.types.ValType.{ValType}
use Rattle.wz_types.specs.declared.types.ValType.TheVariants as type
use Rattle.wz_types.specs.declared.value.Value.{Value}
use Rattle.wz_types.specs.declared.value.Value.TheVariants.{I32, I64, F32, F64, Ref}
use Rattle.wz_types.specs.declared.value.Reference.{Reference}
use Rattle.wz_types.specs.declared.types.RefKind.{RefKind}
use Rattle.wz_types.specs.declared.types.RefKind.TheVariants as kind
use Rattle.wz_types.specs.Fits.{type_of_kind, kind_of, value_fits, Fits, all_fit}
use Rattle.wz_types.proofs.FitsLemmas.{fits-parts}
use Rattle.wz_types.proofs.SameTypeLemmas.{and-parts}
use Rattle.wz_code.specs.declared.numeric.NumOp.{NumOp}
use Rattle.wz_code.specs.declared.numeric.NumOp.TheVariants as op
use Rattle.wz_code.specs.Numeric.{types_of}
use Rattle.wz_num.specs.declared.answer.NumAnswer.{NumAnswer}
use Rattle.wz_num.specs.Number.{Meaning, meant, meaning_of, number, i32_or_trap, i64_or_trap}
use Rattle.wz_num.specs.Number.Meaning.{OneI32, OneI64, OneF32, OneF64, TwoI32, TwoI64, TwoF32, TwoF64}
use Rattle.wz_num.specs.Integers.{iadd, isub, imul, idiv_u, idiv_s, irem_u, irem_s, iand, ior, ixor, ishl, ishr_u, ishr_s, irotl, irotr}
use Rattle.wz_num.specs.Integers.{iclz, ictz, ipopcnt, ieqz, ieq, ine, ilt_u, ilt_s, igt_u, igt_s, ile_u, ile_s, ige_u, ige_s}
use Rattle.wz_num.specs.Floats.{fabs, fneg, fcopysign}
use Rattle.wz_num.specs.Conversions.{wrap, extend_u, extend_s, iextend_s, reinterpret}
use Rattle.wz_num.specs.Laws.{operand_types, AnswerServes, NumbersServe}
use Rattle.wz_num.proofs.BoundLemmas.{truth-lt, div_u-lt, div_s-lt, rem_u-lt, rem_s-lt, mod-lt-pow, shr_u-lt, shr_s-lt, rotl-lt, rotr-lt, extend_s-lt}

-- ---- from the list of operands to their patterns

abbrev types_taken : Meaning → List ValType
types_taken (OneI32 f) = type.I32 ∷ []
types_taken (OneI64 f) = type.I64 ∷ []
types_taken (OneF32 f) = type.F32 ∷ []
types_taken (OneF64 f) = type.F64 ∷ []
types_taken (TwoI32 f) = type.I32 ∷ type.I32 ∷ []
types_taken (TwoI64 f) = type.I64 ∷ type.I64 ∷ []
types_taken (TwoF32 f) = type.F32 ∷ type.F32 ∷ []
types_taken (TwoF64 f) = type.F64 ∷ type.F64 ∷ []

-- what the operation makes of any patterns of the width serves
abbrev OneServes : ℕ → ValType → ℕ → ℕ → (ℕ → NumAnswer) → Type 0
OneServes n result functions types f = (a : ℕ) → a < 2 ^ n → AnswerServes result functions types (f a)

abbrev TwoServe : ℕ → ValType → ℕ → ℕ → (ℕ → ℕ → NumAnswer) → Type 0
TwoServe n result functions types f = (a b : ℕ) → a < 2 ^ n → b < 2 ^ n → AnswerServes result functions types (f a b)

abbrev MeaningServes : ValType → ℕ → ℕ → Meaning → Type 0
MeaningServes result functions types (OneI32 f) = OneServes 32 result functions types f
MeaningServes result functions types (OneI64 f) = OneServes 64 result functions types f
MeaningServes result functions types (OneF32 f) = OneServes 32 result functions types f
MeaningServes result functions types (OneF64 f) = OneServes 64 result functions types f
MeaningServes result functions types (TwoI32 f) = TwoServe 32 result functions types f
MeaningServes result functions types (TwoI64 f) = TwoServe 64 result functions types f
MeaningServes result functions types (TwoF32 f) = TwoServe 32 result functions types f
MeaningServes result functions types (TwoF64 f) = TwoServe 64 result functions types f

-- ---- operands that fit

is_reference : ValType → Bool
is_reference type.FuncRef = true
is_reference type.ExternRef = true
is_reference type = false

references : (kind : RefKind) → is_reference (type_of_kind kind) ≡ true
unfolding is_reference
references kind.Func = refl
references kind.Extern = refl

no_reference : (type : ValType) (reference : Reference) (functions types : ℕ) → is_reference type ≡ false → Fits (Ref reference) type functions types → ⊥
no_reference type reference functions types number h =
    let e : type_of_kind (kind_of reference) ≡ type = (fits-parts (Ref reference) type functions types h).has_type in
    true≢false (sym (references (kind_of reference)) ∙ ap (λ (x : ValType). is_reference x) e ∙ number)

read_i32 : (value : Value) (functions types : ℕ) → Fits value type.I32 functions types → (a : ℕ) × (value ≡ I32 a) × (a < 2 ^ 32)
unfolding is_reference
read_i32 (I32 a) functions types h = (a, refl, ltb-true a (2 ^ 32) h)
read_i32 (Ref reference) functions types h = absurd (no_reference type.I32 reference functions types refl h)
read_i32 value functions types h = absurd (cc h)

read_i64 : (value : Value) (functions types : ℕ) → Fits value type.I64 functions types → (a : ℕ) × (value ≡ I64 a) × (a < 2 ^ 64)
unfolding is_reference
read_i64 (I64 a) functions types h = (a, refl, ltb-true a (2 ^ 64) h)
read_i64 (Ref reference) functions types h = absurd (no_reference type.I64 reference functions types refl h)
read_i64 value functions types h = absurd (cc h)

read_f32 : (value : Value) (functions types : ℕ) → Fits value type.F32 functions types → (a : ℕ) × (value ≡ F32 a) × (a < 2 ^ 32)
unfolding is_reference
read_f32 (F32 a) functions types h = (a, refl, ltb-true a (2 ^ 32) h)
read_f32 (Ref reference) functions types h = absurd (no_reference type.F32 reference functions types refl h)
read_f32 value functions types h = absurd (cc h)

read_f64 : (value : Value) (functions types : ℕ) → Fits value type.F64 functions types → (a : ℕ) × (value ≡ F64 a) × (a < 2 ^ 64)
unfolding is_reference
read_f64 (F64 a) functions types h = (a, refl, ltb-true a (2 ^ 64) h)
read_f64 (Ref reference) functions types h = absurd (no_reference type.F64 reference functions types refl h)
read_f64 value functions types h = absurd (cc h)

one_fits : (operands : List Value) (type : ValType) (functions types : ℕ) → IsTrue (all_fit operands (type ∷ []) functions types)
    → (value : Value) × (operands ≡ value ∷ []) × Fits value type functions types
one_fits [] type functions types h = absurd (cc h)
one_fits (a ∷ []) type functions types h = (a, refl, (and-parts (value_fits a type functions types) true h).0)
one_fits (a ∷ b ∷ rest) type functions types h = absurd (cc (and-parts (value_fits a type functions types) false h).1)

two_fit : (operands : List Value) (first second : ValType) (functions types : ℕ) → IsTrue (all_fit operands (first ∷ second ∷ []) functions types)
    → (a b : Value) × (operands ≡ a ∷ b ∷ []) × Fits a first functions types × Fits b second functions types
two_fit [] first second functions types h = absurd (cc h)
two_fit (a ∷ rest) first second functions types h =
    let p = and-parts (value_fits a first functions types) (all_fit rest (second ∷ []) functions types) h in
    let q = one_fits rest second functions types p.1 in
    (a, q.0, ap (λ (list : List Value). a ∷ list) q.1, p.0, q.2)

serves : (result : ValType) (functions types : ℕ) (meaning : Meaning) (operands : List Value) → MeaningServes result functions types meaning
    → IsTrue (all_fit operands (types_taken meaning) functions types) → AnswerServes result functions types (meant meaning operands)
serves result functions types (OneI32 f) operands each h =
    let p = one_fits operands type.I32 functions types h in
    let a = read_i32 p.0 functions types p.2 in
    subst (λ (list : List Value). AnswerServes result functions types (meant (OneI32 f) list)) (sym (p.1 ∙ ap (λ (x : Value). x ∷ []) a.1)) (each a.0 a.2)
serves result functions types (OneI64 f) operands each h =
    let p = one_fits operands type.I64 functions types h in
    let a = read_i64 p.0 functions types p.2 in
    subst (λ (list : List Value). AnswerServes result functions types (meant (OneI64 f) list)) (sym (p.1 ∙ ap (λ (x : Value). x ∷ []) a.1)) (each a.0 a.2)
serves result functions types (OneF32 f) operands each h =
    let p = one_fits operands type.F32 functions types h in
    let a = read_f32 p.0 functions types p.2 in
    subst (λ (list : List Value). AnswerServes result functions types (meant (OneF32 f) list)) (sym (p.1 ∙ ap (λ (x : Value). x ∷ []) a.1)) (each a.0 a.2)
serves result functions types (OneF64 f) operands each h =
    let p = one_fits operands type.F64 functions types h in
    let a = read_f64 p.0 functions types p.2 in
    subst (λ (list : List Value). AnswerServes result functions types (meant (OneF64 f) list)) (sym (p.1 ∙ ap (λ (x : Value). x ∷ []) a.1)) (each a.0 a.2)
serves result functions types (TwoI32 f) operands each h =
    let p = two_fit operands type.I32 type.I32 functions types h in
    let a = read_i32 p.0 functions types p.3 in
    let b = read_i32 p.1 functions types p.4 in
    subst (λ (list : List Value). AnswerServes result functions types (meant (TwoI32 f) list)) (sym (p.2 ∙ ap₂ (λ (x y : Value). x ∷ y ∷ []) a.1 b.1)) (each a.0 b.0 a.2 b.2)
serves result functions types (TwoI64 f) operands each h =
    let p = two_fit operands type.I64 type.I64 functions types h in
    let a = read_i64 p.0 functions types p.3 in
    let b = read_i64 p.1 functions types p.4 in
    subst (λ (list : List Value). AnswerServes result functions types (meant (TwoI64 f) list)) (sym (p.2 ∙ ap₂ (λ (x y : Value). x ∷ y ∷ []) a.1 b.1)) (each a.0 b.0 a.2 b.2)
serves result functions types (TwoF32 f) operands each h =
    let p = two_fit operands type.F32 type.F32 functions types h in
    let a = read_f32 p.0 functions types p.3 in
    let b = read_f32 p.1 functions types p.4 in
    subst (λ (list : List Value). AnswerServes result functions types (meant (TwoF32 f) list)) (sym (p.2 ∙ ap₂ (λ (x y : Value). x ∷ y ∷ []) a.1 b.1)) (each a.0 b.0 a.2 b.2)
serves result functions types (TwoF64 f) operands each h =
    let p = two_fit operands type.F64 type.F64 functions types h in
    let a = read_f64 p.0 functions types p.3 in
    let b = read_f64 p.1 functions types p.4 in
    subst (λ (list : List Value). AnswerServes result functions types (meant (TwoF64 f) list)) (sym (p.2 ∙ ap₂ (λ (x y : Value). x ∷ y ∷ []) a.1 b.1)) (each a.0 b.0 a.2 b.2)

-- ---- from the bounds to the results

fits : (r limit : ℕ) → r < limit → IsTrue (nat_lt r limit)
fits r limit h = lt-ltb r limit h

i32_quotient : (functions types : ℕ) (r : Result ℕ TrapKind) → IfOk r (λ x. x < 2 ^ 32) → AnswerServes type.I32 functions types (i32_or_trap r)
i32_quotient functions types (Ok x) h = fits x (2 ^ 32) h
i32_quotient functions types (Err kind) h = tt

i64_quotient : (functions types : ℕ) (r : Result ℕ TrapKind) → IfOk r (λ x. x < 2 ^ 64) → AnswerServes type.I64 functions types (i64_or_trap r)
i64_quotient functions types (Ok x) h = fits x (2 ^ 64) h
i64_quotient functions types (Err kind) h = tt

-- the table; the operations that ask are at its end
bounded : (op : NumOp) (functions types : ℕ) → MeaningServes (types_of op).result functions types (meaning_of op)
bounded op.I32Eqz functions types = λ a p. fits (ieqz 32 a) (2 ^ 32) (truth-lt 32 _ (omega arith))
bounded op.I32Eq functions types = λ a b p q. fits (ieq 32 a b) (2 ^ 32) (truth-lt 32 _ (omega arith))
bounded op.I32Ne functions types = λ a b p q. fits (ine 32 a b) (2 ^ 32) (truth-lt 32 _ (omega arith))
bounded op.I32LtS functions types = λ a b p q. fits (ilt_s 32 a b) (2 ^ 32) (truth-lt 32 _ (omega arith))
bounded op.I32LtU functions types = λ a b p q. fits (ilt_u 32 a b) (2 ^ 32) (truth-lt 32 _ (omega arith))
bounded op.I32GtS functions types = λ a b p q. fits (igt_s 32 a b) (2 ^ 32) (truth-lt 32 _ (omega arith))
bounded op.I32GtU functions types = λ a b p q. fits (igt_u 32 a b) (2 ^ 32) (truth-lt 32 _ (omega arith))
bounded op.I32LeS functions types = λ a b p q. fits (ile_s 32 a b) (2 ^ 32) (truth-lt 32 _ (omega arith))
bounded op.I32LeU functions types = λ a b p q. fits (ile_u 32 a b) (2 ^ 32) (truth-lt 32 _ (omega arith))
bounded op.I32GeS functions types = λ a b p q. fits (ige_s 32 a b) (2 ^ 32) (truth-lt 32 _ (omega arith))
bounded op.I32GeU functions types = λ a b p q. fits (ige_u 32 a b) (2 ^ 32) (truth-lt 32 _ (omega arith))
bounded op.I64Eqz functions types = λ a p. fits (ieqz 64 a) (2 ^ 32) (truth-lt 32 _ (omega arith))
bounded op.I64Eq functions types = λ a b p q. fits (ieq 64 a b) (2 ^ 32) (truth-lt 32 _ (omega arith))
bounded op.I64Ne functions types = λ a b p q. fits (ine 64 a b) (2 ^ 32) (truth-lt 32 _ (omega arith))
bounded op.I64LtS functions types = λ a b p q. fits (ilt_s 64 a b) (2 ^ 32) (truth-lt 32 _ (omega arith))
bounded op.I64LtU functions types = λ a b p q. fits (ilt_u 64 a b) (2 ^ 32) (truth-lt 32 _ (omega arith))
bounded op.I64GtS functions types = λ a b p q. fits (igt_s 64 a b) (2 ^ 32) (truth-lt 32 _ (omega arith))
bounded op.I64GtU functions types = λ a b p q. fits (igt_u 64 a b) (2 ^ 32) (truth-lt 32 _ (omega arith))
bounded op.I64LeS functions types = λ a b p q. fits (ile_s 64 a b) (2 ^ 32) (truth-lt 32 _ (omega arith))
bounded op.I64LeU functions types = λ a b p q. fits (ile_u 64 a b) (2 ^ 32) (truth-lt 32 _ (omega arith))
bounded op.I64GeS functions types = λ a b p q. fits (ige_s 64 a b) (2 ^ 32) (truth-lt 32 _ (omega arith))
bounded op.I64GeU functions types = λ a b p q. fits (ige_u 64 a b) (2 ^ 32) (truth-lt 32 _ (omega arith))
bounded op.I32Clz functions types = λ a p. fits (iclz 32 a) (2 ^ 32) (lt_of_le_of_lt (leading_le 32 a) (omega arith))
bounded op.I32Ctz functions types = λ a p. fits (ictz 32 a) (2 ^ 32) (lt_of_le_of_lt (trailing_le 32 a) (omega arith))
bounded op.I32Popcnt functions types = λ a p. fits (ipopcnt 32 a) (2 ^ 32) (lt_of_le_of_lt (ones-le 32 a p) (omega arith))
bounded op.I32Add functions types = λ a b p q. fits (iadd 32 a b) (2 ^ 32) (mod-lt-pow 32 _)
bounded op.I32Sub functions types = λ a b p q. fits (isub 32 a b) (2 ^ 32) (mod-lt-pow 32 _)
bounded op.I32Mul functions types = λ a b p q. fits (imul 32 a b) (2 ^ 32) (mod-lt-pow 32 _)
bounded op.I32DivS functions types = λ a b p q. i32_quotient functions types (idiv_s 32 a b) (div_s-lt 32 a b p)
bounded op.I32DivU functions types = λ a b p q. i32_quotient functions types (idiv_u 32 a b) (div_u-lt 32 a b p)
bounded op.I32RemS functions types = λ a b p q. i32_quotient functions types (irem_s 32 a b) (rem_s-lt 32 a b p)
bounded op.I32RemU functions types = λ a b p q. i32_quotient functions types (irem_u 32 a b) (rem_u-lt 32 a b p)
bounded op.I32And functions types = λ a b p q. fits (iand 32 a b) (2 ^ 32) (lt_of_le_of_lt (and_le_l a b) p)
bounded op.I32Or functions types = λ a b p q. fits (ior 32 a b) (2 ^ 32) (or_lt 32 a b p q)
bounded op.I32Xor functions types = λ a b p q. fits (ixor 32 a b) (2 ^ 32) (xor_lt 32 a b p q)
bounded op.I32Shl functions types = λ a b p q. fits (ishl 32 a b) (2 ^ 32) (mod-lt-pow 32 _)
bounded op.I32ShrS functions types = λ a b p q. fits (ishr_s 32 a b) (2 ^ 32) (shr_s-lt 32 a b p)
bounded op.I32ShrU functions types = λ a b p q. fits (ishr_u 32 a b) (2 ^ 32) (shr_u-lt 32 a (b % 32) p)
bounded op.I32Rotl functions types = λ a b p q. fits (irotl 32 a b) (2 ^ 32) (rotl-lt 32 a b (omega arith) p)
bounded op.I32Rotr functions types = λ a b p q. fits (irotr 32 a b) (2 ^ 32) (rotr-lt 32 a b (omega arith) p)
bounded op.I64Clz functions types = λ a p. fits (iclz 64 a) (2 ^ 64) (lt_of_le_of_lt (leading_le 64 a) (omega arith))
bounded op.I64Ctz functions types = λ a p. fits (ictz 64 a) (2 ^ 64) (lt_of_le_of_lt (trailing_le 64 a) (omega arith))
bounded op.I64Popcnt functions types = λ a p. fits (ipopcnt 64 a) (2 ^ 64) (lt_of_le_of_lt (ones-le 64 a p) (omega arith))
bounded op.I64Add functions types = λ a b p q. fits (iadd 64 a b) (2 ^ 64) (mod-lt-pow 64 _)
bounded op.I64Sub functions types = λ a b p q. fits (isub 64 a b) (2 ^ 64) (mod-lt-pow 64 _)
bounded op.I64Mul functions types = λ a b p q. fits (imul 64 a b) (2 ^ 64) (mod-lt-pow 64 _)
bounded op.I64DivS functions types = λ a b p q. i64_quotient functions types (idiv_s 64 a b) (div_s-lt 64 a b p)
bounded op.I64DivU functions types = λ a b p q. i64_quotient functions types (idiv_u 64 a b) (div_u-lt 64 a b p)
bounded op.I64RemS functions types = λ a b p q. i64_quotient functions types (irem_s 64 a b) (rem_s-lt 64 a b p)
bounded op.I64RemU functions types = λ a b p q. i64_quotient functions types (irem_u 64 a b) (rem_u-lt 64 a b p)
bounded op.I64And functions types = λ a b p q. fits (iand 64 a b) (2 ^ 64) (lt_of_le_of_lt (and_le_l a b) p)
bounded op.I64Or functions types = λ a b p q. fits (ior 64 a b) (2 ^ 64) (or_lt 64 a b p q)
bounded op.I64Xor functions types = λ a b p q. fits (ixor 64 a b) (2 ^ 64) (xor_lt 64 a b p q)
bounded op.I64Shl functions types = λ a b p q. fits (ishl 64 a b) (2 ^ 64) (mod-lt-pow 64 _)
bounded op.I64ShrS functions types = λ a b p q. fits (ishr_s 64 a b) (2 ^ 64) (shr_s-lt 64 a b p)
bounded op.I64ShrU functions types = λ a b p q. fits (ishr_u 64 a b) (2 ^ 64) (shr_u-lt 64 a (b % 64) p)
bounded op.I64Rotl functions types = λ a b p q. fits (irotl 64 a b) (2 ^ 64) (rotl-lt 64 a b (omega arith) p)
bounded op.I64Rotr functions types = λ a b p q. fits (irotr 64 a b) (2 ^ 64) (rotr-lt 64 a b (omega arith) p)
bounded op.F32Abs functions types = λ a p. fits (fabs 32 a) (2 ^ 32) (omega (arith, p))
bounded op.F32Neg functions types = λ a p. fits (fneg 32 a) (2 ^ 32) (omega (arith, p))
bounded op.F32Copysign functions types = λ a b p q. fits (fcopysign 32 a b) (2 ^ 32) (omega (arith, q))
bounded op.F64Abs functions types = λ a p. fits (fabs 64 a) (2 ^ 64) (omega (arith, p))
bounded op.F64Neg functions types = λ a p. fits (fneg 64 a) (2 ^ 64) (omega (arith, p))
bounded op.F64Copysign functions types = λ a b p q. fits (fcopysign 64 a b) (2 ^ 64) (omega (arith, q))
bounded op.I32WrapI64 functions types = λ a p. fits (wrap 64 32 a) (2 ^ 32) (mod-lt-pow 32 a)
bounded op.I64ExtendI32S functions types = λ a p. fits (extend_s 32 64 a) (2 ^ 64) (extend_s-lt 32 64 a (omega arith) p)
bounded op.I64ExtendI32U functions types = λ a p. fits (extend_u 32 64 a) (2 ^ 64) (omega (arith, p))
bounded op.I32ReinterpretF32 functions types = λ a p. fits (reinterpret a) (2 ^ 32) (p)
bounded op.I64ReinterpretF64 functions types = λ a p. fits (reinterpret a) (2 ^ 64) (p)
bounded op.F32ReinterpretI32 functions types = λ a p. fits (reinterpret a) (2 ^ 32) (p)
bounded op.F64ReinterpretI64 functions types = λ a p. fits (reinterpret a) (2 ^ 64) (p)
bounded op.I32Extend8S functions types = λ a p. fits (iextend_s 32 8 a) (2 ^ 32) (extend_s-lt 8 32 (a % 2 ^ 8) (omega arith) (mod-lt-pow 8 a))
bounded op.I32Extend16S functions types = λ a p. fits (iextend_s 32 16 a) (2 ^ 32) (extend_s-lt 16 32 (a % 2 ^ 16) (omega arith) (mod-lt-pow 16 a))
bounded op.I64Extend8S functions types = λ a p. fits (iextend_s 64 8 a) (2 ^ 64) (extend_s-lt 8 64 (a % 2 ^ 8) (omega arith) (mod-lt-pow 8 a))
bounded op.I64Extend16S functions types = λ a p. fits (iextend_s 64 16 a) (2 ^ 64) (extend_s-lt 16 64 (a % 2 ^ 16) (omega arith) (mod-lt-pow 16 a))
bounded op.I64Extend32S functions types = λ a p. fits (iextend_s 64 32 a) (2 ^ 64) (extend_s-lt 32 64 (a % 2 ^ 32) (omega arith) (mod-lt-pow 32 a))
bounded op.F32Ceil functions types = λ a p. tt
bounded op.F32Floor functions types = λ a p. tt
bounded op.F32Trunc functions types = λ a p. tt
bounded op.F32Nearest functions types = λ a p. tt
bounded op.F32Sqrt functions types = λ a p. tt
bounded op.F64Ceil functions types = λ a p. tt
bounded op.F64Floor functions types = λ a p. tt
bounded op.F64Trunc functions types = λ a p. tt
bounded op.F64Nearest functions types = λ a p. tt
bounded op.F64Sqrt functions types = λ a p. tt
bounded op.I32TruncF32S functions types = λ a p. tt
bounded op.I32TruncF32U functions types = λ a p. tt
bounded op.I32TruncF64S functions types = λ a p. tt
bounded op.I32TruncF64U functions types = λ a p. tt
bounded op.I64TruncF32S functions types = λ a p. tt
bounded op.I64TruncF32U functions types = λ a p. tt
bounded op.I64TruncF64S functions types = λ a p. tt
bounded op.I64TruncF64U functions types = λ a p. tt
bounded op.F32ConvertI32S functions types = λ a p. tt
bounded op.F32ConvertI32U functions types = λ a p. tt
bounded op.F32ConvertI64S functions types = λ a p. tt
bounded op.F32ConvertI64U functions types = λ a p. tt
bounded op.F32DemoteF64 functions types = λ a p. tt
bounded op.F64ConvertI32S functions types = λ a p. tt
bounded op.F64ConvertI32U functions types = λ a p. tt
bounded op.F64ConvertI64S functions types = λ a p. tt
bounded op.F64ConvertI64U functions types = λ a p. tt
bounded op.F64PromoteF32 functions types = λ a p. tt
bounded op.I32TruncSatF32S functions types = λ a p. tt
bounded op.I32TruncSatF32U functions types = λ a p. tt
bounded op.I32TruncSatF64S functions types = λ a p. tt
bounded op.I32TruncSatF64U functions types = λ a p. tt
bounded op.I64TruncSatF32S functions types = λ a p. tt
bounded op.I64TruncSatF32U functions types = λ a p. tt
bounded op.I64TruncSatF64S functions types = λ a p. tt
bounded op.I64TruncSatF64U functions types = λ a p. tt
bounded op functions types = λ a b p q. tt

taken_is : (op : NumOp) → operand_types op ≡ types_taken (meaning_of op)
taken_is op.I32Eqz = refl
taken_is op = refl

pub numbers_serve : NumbersServe
unfolding number
numbers_serve op operands functions types h =
    serves (types_of op).result functions types (meaning_of op) operands (bounded op functions types)
    (subst (λ (list : List ValType). IsTrue (all_fit operands list functions types)) (taken_is op) h)
