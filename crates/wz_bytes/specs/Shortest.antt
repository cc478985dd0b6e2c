-- Section 5.2.2 of the Core Specification: of the spellings of an integer, the one with the fewest bytes.
use Rattle.std.specs.Prelude.{ℕ, zero, suc, ℤ, pos, negsuc, ◌+◌, ◌-◌, ◌/◌, ◌%◌, Bool, nat_lt, List, [], ◌∷◌, if◌then◌else◌}

-- a number's groups of seven bits, the lowest first, in at most so many bytes and one more
unfoldable pub unsigned_groups : ℕ → ℕ → List ℕ
unsigned_groups zero n = n ∷ []
unsigned_groups (suc more) n = if nat_lt n 128 then n ∷ [] else (n % 128 + 128) ∷ unsigned_groups more (n / 128)

-- the shortest spelling of a number below 2^64, which takes at most ten bytes
unfoldable pub shortest_unsigned : ℕ → List ℕ
shortest_unsigned n = unsigned_groups 9 n

-- the lowest seven bits in two's complement, where those of -1 - n are those of n turned over
abbrev pub low_group : ℤ → ℕ
low_group (pos n) = n % 128
low_group (negsuc n) = 127 - n % 128

-- the number without them
abbrev pub high_groups : ℤ → ℤ
high_groups (pos n) = pos (n / 128)
high_groups (negsuc n) = negsuc (n / 128)

-- whether seven bits hold the number with its sign: from -64 to 63
abbrev pub is_one_group : ℤ → Bool
is_one_group (pos n) = nat_lt n 64
is_one_group (negsuc n) = nat_lt n 64

unfoldable pub signed_groups : ℕ → ℤ → List ℕ
signed_groups zero z = low_group z ∷ []
signed_groups (suc more) z = if is_one_group z then low_group z ∷ [] else (low_group z + 128) ∷ signed_groups more (high_groups z)

-- the shortest spelling of a number from -2^63 to 2^63 - 1, which takes at most ten bytes
unfoldable pub shortest_signed : ℤ → List ℕ
shortest_signed z = signed_groups 9 z
