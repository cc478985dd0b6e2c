-- The sizes of unsigned integers.
use Rattle.std.proofs.Common.{◌≡◌, ℕ, ◌+◌, ◌-◌, ◌*◌, ◌^◌, ◌<◌, ◌≤◌, ap, ◌∙◌, arith, inl, inr}
use Rattle.wz_bytes.specs.Unsigned.{IsWidth}
use Rattle.std.proofs.Math.Pow.{pow_mono}
use Rattle.std.proofs.lemmas.Nat.{pow-add}

pub at_least_7 : (bits : ℕ) → 7 ≤ bits → 128 ≤ 2 ^ bits
at_least_7 bits h = let p : 2 ^ 7 ≤ 2 ^ bits = pow_mono h in omega (arith, p)

-- each width at which numbers are read
pub width_bounds : (bits : ℕ) → IsWidth bits → (7 < bits) × (bits ≤ 64)
width_bounds bits (inl h) = (omega (arith, h), omega (arith, h))
width_bounds bits (inr (inl h)) = (omega (arith, h), omega (arith, h))
width_bounds bits (inr (inr h)) = (omega (arith, h), omega (arith, h))

-- seven bits more
pub scaled : (bits high : ℕ) → 7 < bits → high < 2 ^ (bits - 7) → 128 * high + 128 ≤ 2 ^ bits
scaled bits high h below =
    let e : bits ≡ 7 + (bits - 7) = omega arith in
    let p : 2 ^ bits ≡ 128 * 2 ^ (bits - 7) = ap (λ (k : ℕ). 2 ^ k) e ∙ pow-add 2 7 (bits - 7) in
    omega (arith, p)

pub at_most_64 : (bits : ℕ) → bits ≤ 64 → 2 ^ bits ≤ 2 ^ 64
at_most_64 bits h = pow_mono h

pub ruleset steps = (at_least_7, scaled, at_most_64)

pub ruleset sizes = (at_least_7, width_bounds)
