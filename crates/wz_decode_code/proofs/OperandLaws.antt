-- What stands behind opcodes is read exactly.
use Rattle.std.proofs.Common.{◌≡◌, ℕ, ℤ, List, [], ◌∷◌, Some, refl, ap, subst, ◌∙◌}
use Rattle.std.specs.Prelude.{nat_eq}
use Rattle.std.proofs.lemmas.Bool.{eqb-true}
use Rattle.std.specs.Int.{w32, w64, cast_unsigned, from_le_bytes}
use Rattle.wz_bytes.specs.Reading.{Front, IsExact}
use Rattle.wz_bytes.specs.Signed.{IsSigned, signed_at}
use Rattle.wz_bytes.specs.Forms.{byte_at, IsPiece, piece_at, Both, both_at}
use Rattle.wz_bytes.proofs.ReadingLemmas.{bind_some, some_is, guarded}
use Rattle.wz_bytes.proofs.UnsignedLaws.{unsigned_exact}
use Rattle.wz_bytes.proofs.SignedLaws.{signed_exact}
use Rattle.wz_bytes.proofs.FormLaws.{byte_exact, piece_exact, both_exact, made_exact}
use Rattle.wz_decode_code.specs.Instructions.{IsU32, Two, IsZeroByte, IsI32, IsI64, IsF32, IsF64}
use Rattle.wz_decode_code.specs.InstrReading.{u32_at, two_at, zero_byte_at, i32_at, i64_at, f32_at, f64_at}

pub u32_exact : IsExact (λ t n. IsU32 t n) (λ b. u32_at b)
u32_exact = unsigned_exact 32

pub two_exact : IsExact (λ t xy. Two t xy) (λ b. two_at b)
two_exact = both_exact (λ t n. IsU32 t n) (λ t n. IsU32 t n) (λ b. u32_at b) (λ b. u32_at b) u32_exact u32_exact

zero_byte_found : (bytes : List ℕ) (m : ℕ) (rest : List ℕ) → zero_byte_at bytes ≡ Some (m, rest) → Front (λ t m. IsZeroByte t m) bytes m rest
unfolding zero_byte_at
zero_byte_found bytes m rest e =
    let b = bind_some (byte_at bytes) _ _ e in
    let zero = guarded (nat_eq b.0.0 0x00) _ _ b.2 in
    let f = byte_exact.found bytes b.0.0 b.0.1 b.1 in
    subst (λ (p : ℕ × List ℕ). Front (λ t m. IsZeroByte t m) bytes p.0 p.1) (some_is _ _ zero.1)
    (record { text = f.text; parts = f.parts; spelled = (f.spelled.0 ∙ ap (λ (k : ℕ). k ∷ []) (eqb-true b.0.0 0x00 zero.0), refl) })

pub zero_byte_exact : IsExact (λ t m. IsZeroByte t m) (λ b. zero_byte_at b)
unfolding zero_byte_at
zero_byte_exact = record { found = zero_byte_found; again = λ text m rest h. rw (h.0, h.1) refl }

pub number_and_zero_exact : IsExact (λ t xy. Both (λ t n. IsU32 t n) (λ t m. IsZeroByte t m) t xy) (λ b. both_at (λ b. u32_at b) (λ b. zero_byte_at b) b)
number_and_zero_exact = both_exact (λ t n. IsU32 t n) (λ t m. IsZeroByte t m) (λ b. u32_at b) (λ b. zero_byte_at b) u32_exact zero_byte_exact

pub two_zeros_exact : IsExact (λ t xy. Both (λ t m. IsZeroByte t m) (λ t m. IsZeroByte t m) t xy) (λ b. both_at (λ b. zero_byte_at b) (λ b. zero_byte_at b) b)
two_zeros_exact = both_exact (λ t m. IsZeroByte t m) (λ t m. IsZeroByte t m) (λ b. zero_byte_at b) (λ b. zero_byte_at b) zero_byte_exact zero_byte_exact

pub i32_exact : IsExact (λ t n. IsI32 t n) (λ b. i32_at b)
i32_exact = made_exact (λ (z : ℤ). cast_unsigned w32 z) (λ t z. IsSigned 32 t z) (λ b. signed_at 32 b) (signed_exact 32)

pub i64_exact : IsExact (λ t n. IsI64 t n) (λ b. i64_at b)
i64_exact = made_exact (λ (z : ℤ). cast_unsigned w64 z) (λ t z. IsSigned 64 t z) (λ b. signed_at 64 b) (signed_exact 64)

pub f32_exact : IsExact (λ t n. IsF32 t n) (λ b. f32_at b)
f32_exact = made_exact (λ (piece : List ℕ). from_le_bytes w32 piece) (λ t p. IsPiece 4 t p) (λ b. piece_at 4 b) (piece_exact 4)

pub f64_exact : IsExact (λ t n. IsF64 t n) (λ b. f64_at b)
f64_exact = made_exact (λ (piece : List ℕ). from_le_bytes w64 piece) (λ t p. IsPiece 8 t p) (λ b. piece_at 8 b) (piece_exact 8)
