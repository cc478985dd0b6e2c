-- Section 5.2.2 of the Core Specification: unsigned integers.
use Rattle.std.specs.Prelude.{◌≡◌, ℕ, ◌+◌, ◌-◌, ◌*◌, ◌^◌, ◌<◌, ◌≤◌, nat_lt, List, [], ◌∷◌, Option, Some, None, if◌then◌else◌, ◌⊎◌}
use Rattle.wz_bytes.specs.Reading.{◌>>=◌}

-- the widths at which numbers are read
abbrev pub IsWidth : ℕ → Type 0
IsWidth bits = (bits ≡ 32) ⊎ (bits ≡ 33) ⊎ (bits ≡ 64)

-- The bytes spell n as an unsigned integer of so many bits:
--   uN ::= n:byte          => n                    if n < 2^7 and n < 2^N
--        | n:byte m:u(N-7) => 2^7 * m + (n - 2^7)  if n >= 2^7 and N > 7
abbrev pub IsUnsigned : ℕ → List ℕ → ℕ → Type 0
IsUnsigned bits [] n = ⊥
IsUnsigned bits (b ∷ bytes) n =
    ((bytes ≡ []) × (b < 128) × (b < 2 ^ bits) × (n ≡ b))
    ⊎ ((128 ≤ b) × (b < 256) × (7 < bits) × (high : ℕ) × (n ≡ 128 * high + (b - 128)) × IsUnsigned (bits - 7) bytes high)

-- the unsigned integer of so many bits that stands in front of the bytes, and the bytes behind it
unfoldable pub unsigned_at : ℕ → List ℕ → Option (ℕ × List ℕ)
unsigned_at bits [] = None
unsigned_at bits (b ∷ bytes) =
    if nat_lt b 128 then (if nat_lt b (2 ^ bits) then Some (b, bytes) else None)
    else (if nat_lt b 256 then (if nat_lt 7 bits then (unsigned_at (bits - 7) bytes >>= λ x. Some (128 * x.0 + (b - 128), x.1)) else None) else None)
