-- What std says of rotations and masks, as the whole numbers of the definitions.
use Rattle.std.proofs.Common.{ℕ, zero, suc, ◌+◌, ◌-◌, ◌*◌, ◌/◌, ◌%◌, ◌^◌, ◌<◌, ◌≡◌, bit_and, bit_or, sym, ap, ap₂, subst, ◌∙◌, arith, add-zero, add_comm, mul-one, mod-eq_of_lt}
use Rattle.std.specs.Int.Bits.{or_self}
use Rattle.std.proofs.lemmas.Nat.{or_comm, or_shifted, and_mask, pow_pos, shr_below, mod_below, mod-pow-add, shl-shr}
use Rattle.std.proofs.lemmas.Nat.Bits.{and_pow}
use Rattle.std.proofs.Math.Nat.{mul-mod_left, mod_self, div-one, div-eq_of_lt}

-- of j + k bits, the j that stay move up by k
moved_up : (a k j : ℕ) → a * 2 ^ k % 2 ^ (j + k) ≡ (a % 2 ^ j) * 2 ^ k
moved_up a k j =
    mod-pow-add (a * 2 ^ k) j k ∙ ap (λ (x : ℕ). (x % 2 ^ j) * 2 ^ k + a * 2 ^ k % 2 ^ k) (shl-shr a k)
    ∙ ap (λ (x : ℕ). (a % 2 ^ j) * 2 ^ k + x) (mul-mod_left a (2 ^ k)) ∙ add-zero ((a % 2 ^ j) * 2 ^ k)

-- ---- the two parts of a rotation share no bit

left_by : (a k j : ℕ) → a < 2 ^ (j + k) → bit_or (a * 2 ^ k % 2 ^ (j + k)) (a / 2 ^ j) ≡ a * 2 ^ k % 2 ^ (j + k) + a / 2 ^ j
left_by a k j h =
    let up : a * 2 ^ k % 2 ^ (j + k) ≡ (a % 2 ^ j) * 2 ^ k = moved_up a k j in
    let low : a / 2 ^ j < 2 ^ k = shr_below a k j (subst (λ (e : ℕ). a < 2 ^ e) (add_comm j k) h) in
    ap (λ (x : ℕ). bit_or x (a / 2 ^ j)) up ∙ or_shifted (a % 2 ^ j) k (a / 2 ^ j) low ∙ ap (λ (x : ℕ). x + a / 2 ^ j) (sym up)

right_by : (a k j : ℕ) → a < 2 ^ (j + k) → bit_or (a / 2 ^ k) (a * 2 ^ j % 2 ^ (j + k)) ≡ a / 2 ^ k + a * 2 ^ j % 2 ^ (j + k)
right_by a k j h =
    let up : a * 2 ^ j % 2 ^ (j + k) ≡ (a % 2 ^ k) * 2 ^ j = ap (λ (e : ℕ). a * 2 ^ j % 2 ^ e) (add_comm j k) ∙ moved_up a j k in
    ap (λ (x : ℕ). bit_or (a / 2 ^ k) x) up ∙ or_comm (a / 2 ^ k) ((a % 2 ^ k) * 2 ^ j) ∙ or_shifted (a % 2 ^ k) j (a / 2 ^ k) (shr_below a j k h)
    ∙ add_comm ((a % 2 ^ k) * 2 ^ j) (a / 2 ^ k) ∙ ap (λ (x : ℕ). a / 2 ^ k + x) (sym up)

-- ---- by no bits

sub-zero : (n : ℕ) → n - 0 ≡ n
sub-zero n = omega arith

same : (n a : ℕ) → a < 2 ^ n → a * 2 ^ 0 % 2 ^ n ≡ a
same n a h = ap (λ (x : ℕ). x % 2 ^ n) (mul-one a) ∙ mod-eq_of_lt h

none : (n : ℕ) → (n - 0) % n ≡ 0
none n = ap (λ (x : ℕ). x % n) (sub-zero n) ∙ mod_self n

pub left_at : (n a k : ℕ) → k < n → a < 2 ^ n → bit_or (a * 2 ^ k % 2 ^ n) (a / 2 ^ ((n - k) % n)) ≡ a * 2 ^ k % 2 ^ n + a / 2 ^ (n - k)
left_at n a zero below h =
    let gone : a / 2 ^ (n - 0) ≡ 0 = ap (λ (e : ℕ). a / 2 ^ e) (sub-zero n) ∙ div-eq_of_lt h in
    ap₂ (λ (x y : ℕ). bit_or x y) (same n a h) (ap (λ (e : ℕ). a / 2 ^ e) (none n) ∙ div-one a) ∙ or_self a
    ∙ sym (ap₂ (λ (x y : ℕ). x + y) (same n a h) gone ∙ add-zero a)
left_at n a (suc k) below h =
    let sum : n - suc k + suc k ≡ n = omega (arith, below) in
    let less : n - suc k < n = omega (arith, below) in
    ap (λ (e : ℕ). bit_or (a * 2 ^ suc k % 2 ^ n) (a / 2 ^ e)) (mod-eq_of_lt less)
    ∙ subst (λ (m : ℕ). bit_or (a * 2 ^ suc k % 2 ^ m) (a / 2 ^ (n - suc k)) ≡ a * 2 ^ suc k % 2 ^ m + a / 2 ^ (n - suc k)) sum
    (left_by a (suc k) (n - suc k) (subst (λ (m : ℕ). a < 2 ^ m) (sym sum) h))

pub right_at : (n a k : ℕ) → k < n → a < 2 ^ n → bit_or (a / 2 ^ k) (a * 2 ^ ((n - k) % n) % 2 ^ n) ≡ a / 2 ^ k + a * 2 ^ (n - k) % 2 ^ n
right_at n a zero below h =
    let gone : a * 2 ^ (n - 0) % 2 ^ n ≡ 0 = ap (λ (e : ℕ). a * 2 ^ e % 2 ^ n) (sub-zero n) ∙ mul-mod_left a (2 ^ n) in
    let still : a * 2 ^ ((n - 0) % n) % 2 ^ n ≡ a = ap (λ (e : ℕ). a * 2 ^ e % 2 ^ n) (none n) ∙ same n a h in
    ap₂ (λ (x y : ℕ). bit_or x y) (div-one a) still ∙ or_self a ∙ sym (ap₂ (λ (x y : ℕ). x + y) (div-one a) gone ∙ add-zero a)
right_at n a (suc k) below h =
    let sum : n - suc k + suc k ≡ n = omega (arith, below) in
    let less : n - suc k < n = omega (arith, below) in
    ap (λ (e : ℕ). bit_or (a / 2 ^ suc k) (a * 2 ^ e % 2 ^ n)) (mod-eq_of_lt less)
    ∙ subst (λ (m : ℕ). bit_or (a / 2 ^ suc k) (a * 2 ^ (n - suc k) % 2 ^ m) ≡ a / 2 ^ suc k + a * 2 ^ (n - suc k) % 2 ^ m) sum
    (right_by a (suc k) (n - suc k) (subst (λ (m : ℕ). a < 2 ^ m) (sym sum) h))

-- std's rotations by k bits, where k is below the width
pub left : (n a k : ℕ) → k < n → a < 2 ^ n → bit_or (a * 2 ^ (k % n) % 2 ^ n) (a / 2 ^ ((n - k % n) % n)) ≡ a * 2 ^ k % 2 ^ n + a / 2 ^ (n - k)
left n a k below h = ap (λ (r : ℕ). bit_or (a * 2 ^ r % 2 ^ n) (a / 2 ^ ((n - r) % n))) (mod-eq_of_lt below) ∙ left_at n a k below h

pub right : (n a k : ℕ) → k < n → a < 2 ^ n → bit_or (a / 2 ^ (k % n)) (a * 2 ^ ((n - k % n) % n) % 2 ^ n) ≡ a / 2 ^ k + a * 2 ^ (n - k) % 2 ^ n
right n a k below h = ap (λ (r : ℕ). bit_or (a / 2 ^ r) (a * 2 ^ ((n - r) % n) % 2 ^ n)) (mod-eq_of_lt below) ∙ right_at n a k below h

-- the top bit of b before the k low bits of a
pub sign_of_second : (k a b : ℕ) → b < 2 ^ (1 + k) → bit_or (bit_and a (2 ^ k - 1)) (bit_and b (2 ^ k)) ≡ b / 2 ^ k * 2 ^ k + a % 2 ^ k
sign_of_second k a b h =
    let top : bit_and b (2 ^ k) ≡ b / 2 ^ k * 2 ^ k = and_pow b k ∙ ap (λ (x : ℕ). x * 2 ^ k) (mod-eq_of_lt (shr_below b 1 k h)) in
    ap₂ (λ (x y : ℕ). bit_or x y) (and_mask a k) top ∙ or_comm (a % 2 ^ k) (b / 2 ^ k * 2 ^ k)
    ∙ or_shifted (b / 2 ^ k) k (a % 2 ^ k) (mod_below a (2 ^ k) (pow_pos k))
