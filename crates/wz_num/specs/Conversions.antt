-- Section 4.3.4 of the Core Specification: the conversions between integers, from m to n bits. Those from or to floats are questions, but
-- `reinterpret`, which keeps the pattern.
use Rattle.std.specs.Prelude.{ℕ, ◌%◌, ◌^◌}
use Rattle.wz_num.specs.Integers.{signed_of, pattern_of}

-- the low n bits
abbrev pub wrap : ℕ → ℕ → ℕ → ℕ
wrap m n a = a % 2 ^ n

-- the same number
abbrev pub extend_u : ℕ → ℕ → ℕ → ℕ
extend_u m n a = a

-- the pattern, of n bits, of the number that the m bits stand for by the sign
abbrev pub extend_s : ℕ → ℕ → ℕ → ℕ
extend_s m n a = pattern_of n (signed_of m a)

-- within one width (section 4.3.2): the low m bits, extended by their sign
abbrev pub iextend_s : ℕ → ℕ → ℕ → ℕ
iextend_s n m a = extend_s m n (wrap n m a)

abbrev pub reinterpret : ℕ → ℕ
reinterpret a = a
