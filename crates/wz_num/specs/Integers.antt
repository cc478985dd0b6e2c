-- Section 4.3.2 of the Core Specification: the operations on integers of n bits, under the standard's names.
-- An integer is its pattern, a number below 2 ^ n, and so is a result. The operand that was pushed first stands first.
-- `int_div`, `int_rem`, `int_shr` and `int_lt` are division towards zero, its rest (with the dividend's sign), the quotient by a power of two
-- rounded down, and the order of whole numbers; `count_leading_zeros`, `count_trailing_zeros` and `count_ones` look at binary digits.
use Rattle.std.specs.Prelude.{ℕ, ◌+◌, ◌-◌, ◌*◌, ◌/◌, ◌%◌, ◌^◌, Bool, not, ◌&&◌, if◌then◌else◌, nat_lt, nat_le, nat_eq, Result, Ok, Err, ℤ, pos, negsuc}
use Rattle.std.specs.Prelude.{bit_and, bit_or, bit_xor, int_div, int_rem, int_lt, int_le, count_ones}
use Rattle.std.specs.Int.{int_shr}
use Rattle.std.specs.Int.Count.{count_leading_zeros, count_trailing_zeros}
use Rattle.wz_types.specs.declared.trap.TrapKind.{TrapKind}
use Rattle.wz_types.specs.declared.trap.TrapKind.TheVariants.{DivideByZero, IntegerOverflow}

-- ---- signs: `negsuc i` is the number -(i + 1)

-- the signed interpretation: i from 0 to 2 ^ (n - 1) - 1, and i - 2 ^ n above
abbrev pub signed_of : ℕ → ℕ → ℤ
signed_of n i = if nat_lt i (2 ^ (n - 1)) then pos i else negsuc (2 ^ n - (i + 1))

-- its inverse: the pattern of a number from -2 ^ (n - 1) to 2 ^ (n - 1) - 1
abbrev pub pattern_of : ℕ → ℤ → ℕ
pattern_of n (pos i) = i
pattern_of n (negsuc i) = 2 ^ n - (i + 1)

-- a test gives 1 or 0
abbrev pub truth_of : Bool → ℕ
truth_of holds = if holds then 1 else 0

-- ---- arithmetic

abbrev pub iadd : ℕ → ℕ → ℕ → ℕ
iadd n a b = (a + b) % 2 ^ n

abbrev pub isub : ℕ → ℕ → ℕ → ℕ
isub n a b = (a + 2 ^ n - b) % 2 ^ n

abbrev pub imul : ℕ → ℕ → ℕ → ℕ
imul n a b = a * b % 2 ^ n

-- where the standard leaves a quotient or a rest undefined, the instruction traps
abbrev pub idiv_u : ℕ → ℕ → ℕ → Result ℕ TrapKind
idiv_u n a b = if nat_eq b 0 then Err DivideByZero else Ok (a / b)

abbrev pub irem_u : ℕ → ℕ → ℕ → Result ℕ TrapKind
irem_u n a b = if nat_eq b 0 then Err DivideByZero else Ok (a % b)

-- a quotient of 2 ^ (n - 1), which no pattern stands for: that of -2 ^ (n - 1) by -1
abbrev pub overflows : ℕ → ℕ → ℕ → Bool
overflows n a b = nat_eq a (2 ^ (n - 1)) && nat_eq b (2 ^ n - 1)

abbrev pub idiv_s : ℕ → ℕ → ℕ → Result ℕ TrapKind
idiv_s n a b =
    if nat_eq b 0 then Err DivideByZero
    else (if overflows n a b then Err IntegerOverflow else Ok (pattern_of n (int_div (signed_of n a) (signed_of n b))))

abbrev pub irem_s : ℕ → ℕ → ℕ → Result ℕ TrapKind
irem_s n a b = if nat_eq b 0 then Err DivideByZero else Ok (pattern_of n (int_rem (signed_of n a) (signed_of n b)))

-- ---- bits

abbrev pub iand : ℕ → ℕ → ℕ → ℕ
iand n a b = bit_and a b

abbrev pub ior : ℕ → ℕ → ℕ → ℕ
ior n a b = bit_or a b

abbrev pub ixor : ℕ → ℕ → ℕ → ℕ
ixor n a b = bit_xor a b

-- shifts and rotations: by k bits, the second operand modulo n
abbrev pub ishl : ℕ → ℕ → ℕ → ℕ
ishl n a b = let k = b % n in a * 2 ^ k % 2 ^ n

abbrev pub ishr_u : ℕ → ℕ → ℕ → ℕ
ishr_u n a b = let k = b % n in a / 2 ^ k

-- extended with the most significant bit of the original: the signed quotient by 2 ^ k, rounded down
abbrev pub ishr_s : ℕ → ℕ → ℕ → ℕ
ishr_s n a b = let k = b % n in pattern_of n (int_shr (signed_of n a) k)

-- the low n - k bits move up, and the k bits that leave above come in below
abbrev pub irotl : ℕ → ℕ → ℕ → ℕ
irotl n a b = let k = b % n in a * 2 ^ k % 2 ^ n + a / 2 ^ (n - k)

-- the high n - k bits move down, and the k bits that leave below come in above
abbrev pub irotr : ℕ → ℕ → ℕ → ℕ
irotr n a b = let k = b % n in a / 2 ^ k + a * 2 ^ (n - k) % 2 ^ n

-- the zero bits above the highest 1, and below the lowest: n where there is no 1
abbrev pub iclz : ℕ → ℕ → ℕ
iclz n a = count_leading_zeros n a

abbrev pub ictz : ℕ → ℕ → ℕ
ictz n a = count_trailing_zeros n a

abbrev pub ipopcnt : ℕ → ℕ → ℕ
ipopcnt n a = count_ones a

-- ---- comparisons

abbrev pub ieqz : ℕ → ℕ → ℕ
ieqz n a = truth_of (nat_eq a 0)

abbrev pub ieq : ℕ → ℕ → ℕ → ℕ
ieq n a b = truth_of (nat_eq a b)

abbrev pub ine : ℕ → ℕ → ℕ → ℕ
ine n a b = truth_of (not (nat_eq a b))

abbrev pub ilt_u : ℕ → ℕ → ℕ → ℕ
ilt_u n a b = truth_of (nat_lt a b)

abbrev pub ilt_s : ℕ → ℕ → ℕ → ℕ
ilt_s n a b = truth_of (int_lt (signed_of n a) (signed_of n b))

abbrev pub igt_u : ℕ → ℕ → ℕ → ℕ
igt_u n a b = truth_of (nat_lt b a)

abbrev pub igt_s : ℕ → ℕ → ℕ → ℕ
igt_s n a b = truth_of (int_lt (signed_of n b) (signed_of n a))

abbrev pub ile_u : ℕ → ℕ → ℕ → ℕ
ile_u n a b = truth_of (nat_le a b)

abbrev pub ile_s : ℕ → ℕ → ℕ → ℕ
ile_s n a b = truth_of (int_le (signed_of n a) (signed_of n b))

abbrev pub ige_u : ℕ → ℕ → ℕ → ℕ
ige_u n a b = truth_of (nat_le b a)

abbrev pub ige_s : ℕ → ℕ → ℕ → ℕ
ige_s n a b = truth_of (int_le (signed_of n b) (signed_of n a))
