-- The sizes of signed integers.
use Rattle.std.proofs.Common.{◌≡◌, ℕ, ℤ, pos, negsuc, ◌+◌, ◌-◌, ◌*◌, ◌^◌, ◌<◌, ◌≤◌, ◌+ℤ◌, ◌*ℤ◌, ap, ◌∙◌, arith, to_z, of_z, w32, w64, SFits, List, [], ◌∷◌, length, get_or, drop, Some, sym, refl}
use Rattle.std.proofs.Math.Pow.{pow_mono}
use Rattle.std.proofs.lemmas.Nat.{pow-add}
use Rattle.std.proofs.lemmas.Int.{ints}
use Rattle.std.proofs.lemmas.Bool.{lt-ltb, le-ltb}
use Rattle.wz_bytes.specs.Signed.{IsSignedNumber, signed_at}

-- seven bits more
pub half_scaled : (bits : ℕ) → 7 < bits → 2 ^ (bits - 1) ≡ 128 * 2 ^ (bits - 7 - 1)
half_scaled bits h =
    let e : bits - 1 ≡ 7 + (bits - 7 - 1) = omega arith in
    ap (λ (k : ℕ). 2 ^ k) e ∙ pow-add 2 7 (bits - 7 - 1)

pub within_more : (bits : ℕ) (high : ℤ) (low : ℕ) → 7 < bits → low < 128 → IsSignedNumber (bits - 7) high → IsSignedNumber bits (pos 128 *ℤ high +ℤ pos low)
within_more bits high low many small h =
    let e = half_scaled bits many in
    (omega (arith, ints, e, h.0), omega (arith, ints, e, h.1))

pub half_at_most : (bits : ℕ) → bits ≤ 64 → 2 ^ (bits - 1) ≤ 2 ^ 63
half_at_most bits h = pow_mono (let k : bits - 1 ≤ 63 = omega arith in k)

-- what the code computes of the higher groups and one more
pub joined : (bits : ℕ) (high low : ℤ) (n : ℕ) → 7 < bits → bits ≤ 64 → IsSignedNumber (bits - 7) high → low ≡ pos n → n < 128
    → to_z w64 (of_z w64 (to_z w64 (of_z w64 (pos 128 *ℤ to_z w64 (of_z w64 high))) +ℤ to_z w64 (of_z w64 low))) ≡ pos 128 *ℤ high +ℤ pos n
joined bits high low n many most h is small =
    let e = half_scaled bits many in
    omega (arith, ints, e, half_at_most bits most, h.0, h.1, is)

pub signed_at_more : (bits : ℕ) (bytes : List ℕ) (high : ℤ) (rest : List ℕ) → 0 < length bytes → 7 < bits → 128 ≤ get_or bytes 0 0 → get_or bytes 0 0 < 256
    → Some (high, rest) ≡ signed_at (bits - 7) (drop 1 bytes) → Some (pos 128 *ℤ high +ℤ pos (get_or bytes 0 0 - 128), rest) ≡ signed_at bits bytes
unfolding signed_at
signed_at_more bits [] high rest some many big byte e = absurd (omega arith)
signed_at_more bits (b ∷ bytes) high rest some many big byte e =
    let b1 = le-ltb _ _ big in
    let b2 = lt-ltb _ _ byte in
    let b3 = lt-ltb _ _ many in
    rw (b1, b2, b3, sym e) refl

-- 32 bits in code hold what 32 bits hold
pub fits_32 : (z : ℤ) → IsSignedNumber 32 z → SFits w32 z
fits_32 (pos n) h = record { sfits = omega (arith, ints, h.1) }
fits_32 (negsuc n) h = record { sfits = omega (arith, ints, h.0) }
