-- What std says of the words that the definitions of integer operations use.
use Rattle.std.proofs.Common.{◌≡◌, ℕ, zero, suc, ◌+◌, ◌-◌, ◌^◌, ◌<◌, ◌≤◌, Bool, true, false, if◌then◌else◌, nat_lt, pos, negsuc, ◌-ℤ◌, refl, sym, subst, ap, ◌∙◌, arith, add-one}
use Rattle.std.specs.Int.{trailing_zeros}
use Rattle.std.specs.Int.Count.{count_leading_zeros, count_trailing_zeros, ones, ones_step}
use Rattle.std.proofs.lemmas.Bool.{lt-ltb, le-ltb}
use Rattle.std.proofs.lemmas.Int.{ints, quot-rem, rem_below}
use Rattle.std.proofs.lemmas.Nat.{leading_top}
use Rattle.std.proofs.lemmas.Nat.Bits.{bit_at_and, bit_at_or, bit_at_xor, bit_at-trailing_zeros}
use mir.Val.{bits}
use Rattle.wz_num.specs.Integers.{signed_of, pattern_of, iclz, ictz}
use Rattle.wz_num.specs.Laws.{SignsAreExact, QuotientsAreExact, BitsAreExact, HasHighest, LeadingZerosAreExact, TrailingZerosAreExact, OnesAreExact}

signed_low : (n i : ℕ) → i < 2 ^ (n - 1) → signed_of n i ≡ pos i
signed_low n i h = ap (λ (b : Bool). if b then pos i else negsuc (2 ^ n - (i + 1))) (lt-ltb i (2 ^ (n - 1)) h)

signed_high : (n i : ℕ) → i < 2 ^ n → 2 ^ (n - 1) ≤ i → signed_of n i ≡ pos i -ℤ pos (2 ^ n)
signed_high n i below h =
    let e : negsuc (2 ^ n - (i + 1)) ≡ pos i -ℤ pos (2 ^ n) = omega (arith, ints, below) in
    ap (λ (b : Bool). if b then pos i else negsuc (2 ^ n - (i + 1))) (le-ltb i (2 ^ (n - 1)) h) ∙ e

pattern-by : (n i : ℕ) (low : Bool) → i < 2 ^ n → pattern_of n (if low then pos i else negsuc (2 ^ n - (i + 1))) ≡ i
pattern-by n i true h = refl
pattern-by n i false h = omega (arith, h)

pub signs_are_exact : SignsAreExact
signs_are_exact n i h = record {
  low = signed_low n i;
  high = signed_high n i h;
  pattern = pattern-by n i (nat_lt i (2 ^ (n - 1))) h;
}

pub quotients_are_exact : QuotientsAreExact
quotients_are_exact a d = (quot-rem a d, rem_below a d)

pub bits_are_exact : BitsAreExact
bits_are_exact n a b i = (bit_at_and a b i, bit_at_or a b i, bit_at_xor a b i)

no_one : (n : ℕ) → iclz n 0 ≡ n
unfolding count_leading_zeros
no_one zero = refl
no_one (suc n) = refl

pub leading_zeros_are_exact : LeadingZerosAreExact
leading_zeros_are_exact n = (no_one n, highest) where
  highest : (a : ℕ) → 0 < a → a < 2 ^ n → (j : ℕ) × HasHighest n a j
  highest a some h =
      let top = leading_top n a some h in
      (top.0, (ap (λ (x : ℕ). iclz n a + x) (add-one top.0) ∙ top.1, top.2, subst (λ (x : ℕ). a < 2 ^ x) (sym (add-one top.0)) top.3))

no_one_below : (n : ℕ) → ictz n 0 ≡ n
unfolding count_trailing_zeros
no_one_below zero = refl
no_one_below (suc n) = ap (λ (x : ℕ). suc x) (no_one_below n)

pub trailing_zeros_are_exact : TrailingZerosAreExact
trailing_zeros_are_exact w = (no_one_below (bits w), λ a some h. let low = bit_at-trailing_zeros w a some h in (trailing_zeros w a, (refl, low.0, low.1, low.2)))

pub ones_are_exact : OnesAreExact
unfolding ones
ones_are_exact n a = (refl, ones_step a)
