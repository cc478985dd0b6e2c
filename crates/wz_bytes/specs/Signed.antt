-- Section 5.2.2 of the Core Specification: signed integers.
use Rattle.std.specs.Prelude.{◌≡◌, ℕ, ℤ, pos, neg_ℤ, ◌+◌, ◌-◌, ◌^◌, ◌<◌, ◌≤◌, ◌+ℤ◌, ◌-ℤ◌, ◌*ℤ◌, ◌≤ℤ◌, ◌<ℤ◌, nat_lt, nat_le, List, [], ◌∷◌, Option, Some, None, if◌then◌else◌, ◌⊎◌}
use Rattle.wz_bytes.specs.Reading.{◌>>=◌}

-- The bytes spell z as a signed integer of so many bits:
--   sN ::= n:byte          => n                    if n < 2^6 and n < 2^(N-1)
--        | n:byte          => n - 2^7              if 2^6 <= n < 2^7 and n >= 2^7 - 2^(N-1)
--        | n:byte m:s(N-7) => 2^7 * m + (n - 2^7)  if n >= 2^7 and N > 7
abbrev pub IsSigned : ℕ → List ℕ → ℤ → Type 0
IsSigned bits [] z = ⊥
IsSigned bits (b ∷ bytes) z =
    ((bytes ≡ []) × (b < 64) × (b < 2 ^ (bits - 1)) × (z ≡ pos b))
    ⊎ (((bytes ≡ []) × (64 ≤ b) × (b < 128) × (128 ≤ b + 2 ^ (bits - 1)) × (z ≡ pos b -ℤ pos 128))
    ⊎ ((128 ≤ b) × (b < 256) × (7 < bits) × (high : ℤ) × (z ≡ pos 128 *ℤ high +ℤ pos (b - 128)) × IsSigned (bits - 7) bytes high))

-- two's complement of so many bits holds z
abbrev pub IsSignedNumber : ℕ → ℤ → Type 0
IsSignedNumber bits z = (neg_ℤ (pos (2 ^ (bits - 1))) ≤ℤ z) × (z <ℤ pos (2 ^ (bits - 1)))

-- what a last byte stands for, of which so many bits are used: the others are copies of the sign
abbrev pub last_group : ℕ → ℕ → Option ℤ
last_group bits b =
    if nat_lt b 64 then (if nat_lt b (2 ^ (bits - 1)) then Some (pos b) else None)
    else (if nat_le 128 (b + 2 ^ (bits - 1)) then Some (pos b -ℤ pos 128) else None)

-- the signed integer of so many bits that stands in front of the bytes, and the bytes behind it
unfoldable pub signed_at : ℕ → List ℕ → Option (ℤ × List ℕ)
signed_at bits [] = None
signed_at bits (b ∷ bytes) =
    if nat_lt b 128 then (last_group bits b >>= λ z. Some (z, bytes))
    else (if nat_lt b 256 then (if nat_lt 7 bits then (signed_at (bits - 7) bytes >>= λ x. Some (pos 128 *ℤ x.0 +ℤ pos (b - 128), x.1)) else None) else None)
