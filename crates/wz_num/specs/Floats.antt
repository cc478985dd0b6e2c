-- Section 4.3.3 of the Core Specification: the operations on floats of n bits that look at bits alone, so that they are the same on a NaN.
-- A float is its pattern: the top bit is the sign, and the rest stands below it. The operand that was pushed first stands first.
-- All other operations on floats are questions: the environment answers them.
use Rattle.std.specs.Prelude.{ℕ, ◌+◌, ◌-◌, ◌*◌, ◌/◌, ◌%◌, ◌^◌}

-- the sign bit, 0 or 1
abbrev pub sign_bit : ℕ → ℕ → ℕ
sign_bit n a = a / 2 ^ (n - 1)

-- all bits but the sign
abbrev pub fabs : ℕ → ℕ → ℕ
fabs n a = a % 2 ^ (n - 1)

-- the other sign before the same bits
abbrev pub fneg : ℕ → ℕ → ℕ
fneg n a = (1 - sign_bit n a) * 2 ^ (n - 1) + fabs n a

-- the sign of the second before the bits of the first
abbrev pub fcopysign : ℕ → ℕ → ℕ → ℕ
fcopysign n a b = sign_bit n b * 2 ^ (n - 1) + fabs n a
