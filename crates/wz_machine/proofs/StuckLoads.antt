-- Loads give values of their types, and what is stored has a pattern.
use Rattle.std.proofs.Common.{◌≡◌, ◌≤◌, ◌<◌, ◌+◌, ◌-◌, ◌*◌, ◌^◌, ◌∷◌, ◌&&◌, [], ℕ, if◌then◌else◌, List, take, zero, arith, suc, pow-suc, refl, drop, Bool, nat_le, nat_lt, true, pos, negsuc, false, Some, lt-ltb, subst, ltb-true, length}
use Rattle.std.proofs.lemmas.Bool.{and_parts, leb-true}
use Rattle.wz_types.specs.declared.types.ValType.{ValType}
use Rattle.wz_types.specs.declared.value.Value.{Value}
use Rattle.wz_types.specs.declared.value.Value.TheVariants.{I32, I64, F32, F64, Ref}
use Rattle.wz_types.specs.declared.types.RefKind.{RefKind}
use Rattle.wz_types.specs.Fits.{type_of_kind, type_of, kind_of}
use Rattle.wz_types.proofs.FitsLemmas.{fits-parts}
use Rattle.wz_types.specs.declared.types.ValType.TheVariants as valtype
use Rattle.wz_types.specs.declared.types.RefKind.TheVariants as kind
use Rattle.wz_code.specs.declared.accesses.AccessShape.{AccessShape}
use Rattle.wz_code.specs.declared.accesses.MemOp.{MemOp}
use Rattle.wz_code.specs.Accesses.{shape_of}
use Rattle.wz_code.specs.declared.accesses.MemOp.TheVariants as op
use Rattle.wz_num.specs.Integers.{pattern_of}
use Rattle.wz_linear.specs.Bytes.{number_of, part}
use Rattle.wz_valid_code.specs.Context.{TypingContext}
use Rattle.wz_machine.specs.TypedState.{HoldsBytes, HasType}
use Rattle.wz_machine.specs.MemorySteps.{bits_in, extension, value_of_bits, bits_of_value, read_value}
use Rattle.wz_machine.proofs.StuckParts.{each-drop}

-- ---- numbers of so many bytes

number-below : (count : ℕ) (bytes : List ℕ) → HoldsBytes bytes → number_of (take count bytes) < 256 ^ count
unfolding number_of
number-below zero bytes h = omega arith
number-below (suc count) [] h =
    let p : 256 ^ suc count ≡ 256 ^ count * 256 = pow-suc 256 count in
    let q = number-below count [] h in
    let some : number_of (take count []) < 256 ^ count = q in
    omega (arith, p, some)
number-below (suc count) (byte ∷ bytes) h =
    let p : 256 ^ suc count ≡ 256 ^ count * 256 = pow-suc 256 count in
    let one = h zero byte refl in
    let rest = number-below count bytes (λ k. h (suc k)) in
    omega (arith, p, one, rest)

part-below : (bytes : List ℕ) (at count : ℕ) → HoldsBytes bytes → number_of (part bytes at count) < 256 ^ count
unfolding part
part-below bytes at count h = number-below count (drop at bytes) (λ k byte e. let j = each-drop bytes at k byte e in h j.0 byte j.1)

-- ---- the table of accesses

-- the bytes of an access have no more bits than its value, which is a number
abbrev fits_value : AccessShape → Bool
fits_value shape = nat_le (256 ^ shape.bytes) (2 ^ (8 * shape.bytes)) && (nat_le (2 ^ (8 * shape.bytes)) (2 ^ bits_in shape.value) && nat_lt 0 (bits_in shape.value))

each-fits : (op : MemOp) → fits_value (shape_of op) ≡ true
each-fits op.I32Load = refl
each-fits op = refl

-- ---- patterns

signed-lt : (m n number : ℕ) (low : Bool) → 2 ^ m ≤ 2 ^ n → number < 2 ^ m → pattern_of n (if low then pos number else negsuc (2 ^ m - (number + 1))) < 2 ^ n
signed-lt m n number true le lt = omega (arith, le, lt)
signed-lt m n number false le lt = omega (arith, le, lt)

extension-lt : (signed : Bool) (m n number : ℕ) → 2 ^ m ≤ 2 ^ n → number < 2 ^ m → extension signed m n number < 2 ^ n
extension-lt true m n number le lt = signed-lt m n number (nat_lt number (2 ^ (m - 1))) le lt
extension-lt false m n number le lt = omega (arith, le, lt)

value-of : (context : TypingContext) (type : ValType) (bits : ℕ) → 0 < bits_in type → bits < 2 ^ bits_in type
    → (value : Value) × (value_of_bits type bits ≡ Some value) × HasType context value type
value-of context valtype.I32 bits wide lt = (I32 bits, refl, lt-ltb bits (2 ^ 32) lt)
value-of context valtype.I64 bits wide lt = (I64 bits, refl, lt-ltb bits (2 ^ 64) lt)
value-of context valtype.F32 bits wide lt = (F32 bits, refl, lt-ltb bits (2 ^ 32) lt)
value-of context valtype.F64 bits wide lt = (F64 bits, refl, lt-ltb bits (2 ^ 64) lt)
value-of context valtype.FuncRef bits wide lt = absurd (omega (arith, wide))
value-of context valtype.ExternRef bits wide lt = absurd (omega (arith, wide))

no-width : (kind : RefKind) → bits_in (type_of_kind kind) ≡ 0
no-width kind.Func = refl
no-width kind.Extern = refl

pattern-of : (type : ValType) (value : Value) → 0 < bits_in type → type_of value ≡ type → (bits : ℕ) × (bits_of_value type value ≡ Some bits)
pattern-of type (I32 bits) wide e = (bits, subst (λ (t : ValType). bits_of_value t (I32 bits) ≡ Some bits) e refl)
pattern-of type (I64 bits) wide e = (bits, subst (λ (t : ValType). bits_of_value t (I64 bits) ≡ Some bits) e refl)
pattern-of type (F32 bits) wide e = (bits, subst (λ (t : ValType). bits_of_value t (F32 bits) ≡ Some bits) e refl)
pattern-of type (F64 bits) wide e = (bits, subst (λ (t : ValType). bits_of_value t (F64 bits) ≡ Some bits) e refl)
pattern-of type (Ref reference) wide e =
    let none : bits_in type ≡ 0 = subst (λ (t : ValType). bits_in t ≡ 0) e (no-width (kind_of reference)) in
    absurd (omega (arith, wide, none))

-- ---- what is loaded and stored

module _ (context : TypingContext) (shape : AccessShape) (fits : fits_value shape ≡ true) where
  loads-by : (bytes : List ℕ) (at : ℕ) → HoldsBytes bytes → (value : Value) × (read_value shape bytes at ≡ Some value) × HasType context value shape.value
  loads-by bytes at h =
      let p = and_parts (nat_le (256 ^ shape.bytes) (2 ^ (8 * shape.bytes)))
      (nat_le (2 ^ (8 * shape.bytes)) (2 ^ bits_in shape.value) && nat_lt 0 (bits_in shape.value)) fits in
      let q = and_parts (nat_le (2 ^ (8 * shape.bytes)) (2 ^ bits_in shape.value)) (nat_lt 0 (bits_in shape.value)) p.1 in
      let read : ℕ = number_of (part bytes at shape.bytes) in
      let few : 256 ^ shape.bytes ≤ 2 ^ (8 * shape.bytes) = leb-true (256 ^ shape.bytes) (2 ^ (8 * shape.bytes)) p.0 in
      let le : 2 ^ (8 * shape.bytes) ≤ 2 ^ bits_in shape.value = leb-true (2 ^ (8 * shape.bytes)) (2 ^ bits_in shape.value) q.0 in
      let below : read < 256 ^ shape.bytes = part-below bytes at shape.bytes h in
      let lt : read < 2 ^ (8 * shape.bytes) = omega (arith, few, below) in
      value-of context shape.value (extension shape.signed (8 * shape.bytes) (bits_in shape.value) (number_of (part bytes at shape.bytes)))
      (ltb-true 0 (bits_in shape.value) q.1)
      (extension-lt shape.signed (8 * shape.bytes) (bits_in shape.value) (number_of (part bytes at shape.bytes)) le lt)

  stores-by : (value : Value) → HasType context value shape.value → (bits : ℕ) × (bits_of_value shape.value value ≡ Some bits)
  stores-by value h =
      let p = and_parts (nat_le (256 ^ shape.bytes) (2 ^ (8 * shape.bytes)))
      (nat_le (2 ^ (8 * shape.bytes)) (2 ^ bits_in shape.value) && nat_lt 0 (bits_in shape.value)) fits in
      let q = and_parts (nat_le (2 ^ (8 * shape.bytes)) (2 ^ bits_in shape.value)) (nat_lt 0 (bits_in shape.value)) p.1 in
      pattern-of shape.value value (ltb-true 0 (bits_in shape.value) q.1) (fits-parts value shape.value (length context.functions) (length context.types) h).has_type

-- a load gives a value of its type
pub loads : (context : TypingContext) (op : MemOp) (bytes : List ℕ) (at : ℕ) → HoldsBytes bytes
    → (value : Value) × (read_value (shape_of op) bytes at ≡ Some value) × HasType context value (shape_of op).value
loads context op bytes at h = loads-by context (shape_of op) (each-fits op) bytes at h

-- what is stored has a pattern
pub stores : (context : TypingContext) (op : MemOp) (value : Value) → HasType context value (shape_of op).value
    → (bits : ℕ) × (bits_of_value (shape_of op).value value ≡ Some bits)
stores context op value h = stores-by context (shape_of op) (each-fits op) value h
