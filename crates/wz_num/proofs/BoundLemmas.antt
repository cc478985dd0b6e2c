-- Each operation on patterns of n bits gives a pattern of its result's width.
use Rattle.std.proofs.Common.{◌≡◌, ℕ, zero, suc, ◌+◌, ◌-◌, ◌*◌, ◌/◌, ◌%◌, ◌^◌, ◌<◌, ◌≤◌, Bool, true, false, if◌then◌else◌, nat_eq, nat_lt, ℤ, pos, negsuc, Ok, Err, IfOk, refl, subst, arith, le_refl, lt_of_le_of_lt}
use Rattle.std.specs.Prelude.{int_div, int_rem, unsigned_abs, neg_ℤ}
use Rattle.std.specs.Int.{int_shr}
use Rattle.std.proofs.lemmas.Bool.{ltb-false}
use Rattle.std.proofs.lemmas.Nat.{pow_pos, mod_below, or_lt}
use Rattle.std.proofs.Math.Nat.{div-le_self, mod-le}
use Rattle.wz_types.specs.declared.trap.TrapKind.{TrapKind}
use Rattle.wz_types.specs.declared.trap.TrapKind.TheVariants.{DivideByZero, IntegerOverflow}
use Rattle.wz_num.specs.Integers.{signed_of, pattern_of, truth_of, overflows, idiv_u, irem_u, idiv_s, irem_s, ishr_s, irotl, irotr}
use Rattle.wz_num.specs.Conversions.{extend_s}
use Rattle.wz_num.proofs.PatternLemmas.{left_at, right_at}

-- ---- numbers of the two signs, of less than `limit` without it

abbrev Small : ℕ → ℤ → Type 0
Small limit (pos i) = i < limit
Small limit (negsuc i) = i + 1 < limit

small_neg : (limit i : ℕ) → i < limit → Small limit (neg_ℤ (pos i))
small_neg limit zero h = h
small_neg limit (suc i) h = omega (arith, h)

signed-by : (n i limit : ℕ) (low : Bool) → nat_lt i (2 ^ (n - 1)) ≡ low → 2 ^ n ≤ limit → i < 2 ^ n
    → Small limit (if low then pos i else negsuc (2 ^ n - (i + 1)))
signed-by n i limit true e m h = omega (arith, m, h)
signed-by n i limit false e m h = omega (arith, m, h, ltb-false i (2 ^ (n - 1)) e, pow_pos (n - 1))

small_signed : (n i limit : ℕ) → 2 ^ n ≤ limit → i < 2 ^ n → Small limit (signed_of n i)
small_signed n i limit m h = signed-by n i limit (nat_lt i (2 ^ (n - 1))) refl m h

pattern-lt : (n : ℕ) (z : ℤ) → Small (2 ^ n) z → pattern_of n z < 2 ^ n
pattern-lt n (pos i) h = h
pattern-lt n (negsuc i) h = omega (arith, h)

small_div : (limit : ℕ) (a b : ℤ) → Small limit a → Small limit (int_div a b)
small_div limit (pos a) (pos b) h = lt_of_le_of_lt (div-le_self a b) h
small_div limit (pos a) (negsuc b) h = small_neg limit (a / suc b) (lt_of_le_of_lt (div-le_self a (suc b)) h)
small_div limit (negsuc a) (pos b) h = small_neg limit (suc a / b) (lt_of_le_of_lt (div-le_self (suc a) b) (omega (arith, h)))
small_div limit (negsuc a) (negsuc b) h = lt_of_le_of_lt (div-le_self (suc a) (suc b)) (omega (arith, h))

small_rem : (limit : ℕ) (a b : ℤ) → Small limit a → Small limit (int_rem a b)
small_rem limit (pos a) b h = lt_of_le_of_lt (mod-le a (unsigned_abs b)) h
small_rem limit (negsuc a) b h = small_neg limit (suc a % unsigned_abs b) (lt_of_le_of_lt (mod-le (suc a) (unsigned_abs b)) (omega (arith, h)))

small_shr : (limit : ℕ) (a : ℤ) (k : ℕ) → Small limit a → Small limit (int_shr a k)
small_shr limit (pos a) k h = lt_of_le_of_lt (div-le_self a (2 ^ k)) h
small_shr limit (negsuc a) k h = omega (arith, h, div-le_self a (2 ^ k))

-- ---- integers

pub truth-lt : (n : ℕ) (holds : Bool) → 1 < 2 ^ n → truth_of holds < 2 ^ n
truth-lt n true h = h
truth-lt n false h = omega (arith, h)

unless : (limit x : ℕ) (fails : Bool) (kind : TrapKind) → x < limit → IfOk (if fails then Err kind else Ok x) (λ r. r < limit)
unless limit x true kind h = tt
unless limit x false kind h = h

pub div_u-lt : (n a b : ℕ) → a < 2 ^ n → IfOk (idiv_u n a b) (λ r. r < 2 ^ n)
div_u-lt n a b h = unless (2 ^ n) (a / b) (nat_eq b 0) DivideByZero (lt_of_le_of_lt (div-le_self a b) h)

pub rem_u-lt : (n a b : ℕ) → a < 2 ^ n → IfOk (irem_u n a b) (λ r. r < 2 ^ n)
rem_u-lt n a b h = unless (2 ^ n) (a % b) (nat_eq b 0) DivideByZero (lt_of_le_of_lt (mod-le a b) h)

unless_either : (limit x : ℕ) (none over : Bool) → x < limit
    → IfOk (if none then Err DivideByZero else (if over then Err IntegerOverflow else Ok x)) (λ r. r < limit)
unless_either limit x true over h = tt
unless_either limit x false over h = unless limit x over IntegerOverflow h

pub div_s-lt : (n a b : ℕ) → a < 2 ^ n → IfOk (idiv_s n a b) (λ r. r < 2 ^ n)
div_s-lt n a b h =
    let quotient = small_div (2 ^ n) (signed_of n a) (signed_of n b) (small_signed n a (2 ^ n) (le_refl (2 ^ n)) h) in
    unless_either (2 ^ n) (pattern_of n (int_div (signed_of n a) (signed_of n b))) (nat_eq b 0) (overflows n a b)
    (pattern-lt n (int_div (signed_of n a) (signed_of n b)) quotient)

pub rem_s-lt : (n a b : ℕ) → a < 2 ^ n → IfOk (irem_s n a b) (λ r. r < 2 ^ n)
rem_s-lt n a b h =
    let rest = small_rem (2 ^ n) (signed_of n a) (signed_of n b) (small_signed n a (2 ^ n) (le_refl (2 ^ n)) h) in
    unless (2 ^ n) (pattern_of n (int_rem (signed_of n a) (signed_of n b))) (nat_eq b 0) DivideByZero (pattern-lt n (int_rem (signed_of n a) (signed_of n b)) rest)

pub mod-lt-pow : (n a : ℕ) → a % 2 ^ n < 2 ^ n
mod-lt-pow n a = mod_below a (2 ^ n) (pow_pos n)

pub shr_u-lt : (n a k : ℕ) → a < 2 ^ n → a / 2 ^ k < 2 ^ n
shr_u-lt n a k h = lt_of_le_of_lt (div-le_self a (2 ^ k)) h

pub shr_s-lt : (n a b : ℕ) → a < 2 ^ n → ishr_s n a b < 2 ^ n
shr_s-lt n a b h = pattern-lt n (int_shr (signed_of n a) (b % n)) (small_shr (2 ^ n) (signed_of n a) (b % n) (small_signed n a (2 ^ n) (le_refl (2 ^ n)) h))

pub rotl-lt : (n a b : ℕ) → 0 < n → a < 2 ^ n → irotl n a b < 2 ^ n
rotl-lt n a b some h =
    let k = b % n in
    subst (λ (x : ℕ). x < 2 ^ n) (left_at n a (b % n) (mod_below b n some) h)
    (or_lt n (a * 2 ^ (b % n) % 2 ^ n) (a / 2 ^ ((n - b % n) % n)) (mod-lt-pow n (a * 2 ^ (b % n))) (shr_u-lt n a ((n - b % n) % n) h))

pub rotr-lt : (n a b : ℕ) → 0 < n → a < 2 ^ n → irotr n a b < 2 ^ n
rotr-lt n a b some h =
    subst (λ (x : ℕ). x < 2 ^ n) (right_at n a (b % n) (mod_below b n some) h)
    (or_lt n (a / 2 ^ (b % n)) (a * 2 ^ ((n - b % n) % n) % 2 ^ n) (shr_u-lt n a (b % n) h) (mod-lt-pow n (a * 2 ^ ((n - b % n) % n))))

-- ---- conversions

pub extend_s-lt : (m n a : ℕ) → 2 ^ m ≤ 2 ^ n → a < 2 ^ m → extend_s m n a < 2 ^ n
extend_s-lt m n a wider h = pattern-lt n (signed_of m a) (small_signed m a (2 ^ n) wider h)
