-- What ranges of a memory hold, and numbers as bytes.
use Rattle.std.proofs.Common.{ℕ, zero, suc, ◌+◌, ◌*◌, ◌/◌, ◌%◌, ◌^◌, ◌<◌, ◌≤◌, ◌≡◌, List, [], ◌∷◌, length, take, set, get_or, refl, sym, ◌∙◌, ap, arith}
use Rattle.std.proofs.lemmas.List.{drop_more}
use Rattle.std.proofs.lemmas.List.Edits.{sets, sets-eq}
use Rattle.std.proofs.Math.Nat.{div-div-eq-div-mul, div-one, pow-suc}
use Rattle.std.specs.Int.{byte_at, bytes_low_first, to_le_bytes, w64}
use Rattle.wz_linear.specs.Bytes.{number_of, bytes_of, part, written}

-- one byte more of a range
pub number_of-part_more : (xs : List ℕ) (at next count : ℕ) → next ≡ at + 1 → at < length xs
    → number_of (part xs at (suc count)) ≡ get_or xs at 0 + 256 * number_of (part xs next count)
unfolding number_of part
number_of-part_more xs at next count e h = rw (drop_more xs at 0 h, e)

pub number_of-part_none : (xs : List ℕ) (at : ℕ) → number_of (part xs at 0) ≡ 0
unfolding number_of part
number_of-part_none xs at = refl

pub length-bytes_of : (count number : ℕ) → length (bytes_of count number) ≡ count
unfolding bytes_of
length-bytes_of zero number = refl
length-bytes_of (suc count) number = ap suc (length-bytes_of count (number / 256))

-- the bytes of std's conversion from place i on
pub byte_at_is : (i number : ℕ) → byte_at i number ≡ number / 256 ^ i % 256
byte_at_is zero number = ap (λ n. n % 256) (sym (div-one number))
byte_at_is (suc i) number = refl

pub div-pow_more : (i number : ℕ) → number / 256 ^ i / 256 ≡ number / 256 ^ suc i
div-pow_more i number = div-div-eq-div-mul number (256 ^ i) 256 ∙ ap (λ n. number / n) (sym (pow-suc 256 i))

pub bytes_low_first_is : (i count number : ℕ) → bytes_low_first i count number ≡ bytes_of count (number / 256 ^ i)
unfolding bytes_of
bytes_low_first_is i zero number = refl
bytes_low_first_is i (suc count) number = rw (byte_at_is i number, div-pow_more i number, bytes_low_first_is (suc i) count number)

pub take-bytes_of : (count more number : ℕ) → take count (bytes_of (count + more) number) ≡ bytes_of count number
unfolding bytes_of
take-bytes_of zero more number = refl
take-bytes_of (suc count) more number =
    let e : suc count + more ≡ suc (count + more) = omega arith in
    rw (e, take-bytes_of count more (number / 256))

-- writes one after another are one write
pub sets_is : (xs : List ℕ) (at : ℕ) (bytes : List ℕ) → at + length bytes ≤ length xs → sets xs at bytes ≡ written xs at bytes
unfolding written
sets_is xs at bytes h = sets-eq bytes xs at h

-- what a load of each width reads
pub number_at_1 : (xs : List ℕ) (at : ℕ) → at + 1 ≤ length xs → number_of (part xs at 1) ≡ get_or xs at 0
number_at_1 xs at h =
    let b0 = number_of-part_more xs at (at + 1) 0 refl (omega arith) in
    omega (arith, number_of-part_none xs (at + 1))

pub number_at_2 : (xs : List ℕ) (at : ℕ) → at + 2 ≤ length xs
    → number_of (part xs at 2) ≡ get_or xs at 0 + 256 * get_or xs (at + 1) 0
number_at_2 xs at h =
    let b0 = number_of-part_more xs at (at + 1) 1 refl (omega arith) in
    omega (arith, number_at_1 xs (at + 1) (omega arith))

pub number_at_4 : (xs : List ℕ) (at : ℕ) → at + 4 ≤ length xs
    → number_of (part xs at 4) ≡ get_or xs at 0 + 256 * get_or xs (at + 1) 0 + 65536 * get_or xs (at + 2) 0 + 16777216 * get_or xs (at + 3) 0
number_at_4 xs at h =
    let b0 = number_of-part_more xs at (at + 1) 3 refl (omega arith) in
    let b1 = number_of-part_more xs (at + 1) (at + 2) 2 (omega arith) (omega arith) in
    let b2 = number_of-part_more xs (at + 2) (at + 3) 1 (omega arith) (omega arith) in
    omega (arith, number_at_1 xs (at + 3) (omega arith))

pub number_at_8 : (xs : List ℕ) (at : ℕ) → at + 8 ≤ length xs
    → number_of (part xs at 8) ≡ get_or xs at 0 + 256 * get_or xs (at + 1) 0 + 256 ^ 2 * get_or xs (at + 2) 0 + 256 ^ 3 * get_or xs (at + 3) 0
    + 256 ^ 4 * get_or xs (at + 4) 0 + 256 ^ 5 * get_or xs (at + 5) 0 + 256 ^ 6 * get_or xs (at + 6) 0 + 256 ^ 7 * get_or xs (at + 7) 0
number_at_8 xs at h =
    let b0 = number_of-part_more xs at (at + 1) 7 refl (omega arith) in
    let b1 = number_of-part_more xs (at + 1) (at + 2) 6 (omega arith) (omega arith) in
    let b2 = number_of-part_more xs (at + 2) (at + 3) 5 (omega arith) (omega arith) in
    let b3 = number_of-part_more xs (at + 3) (at + 4) 4 (omega arith) (omega arith) in
    let b4 = number_of-part_more xs (at + 4) (at + 5) 3 (omega arith) (omega arith) in
    let b5 = number_of-part_more xs (at + 5) (at + 6) 2 (omega arith) (omega arith) in
    let b6 = number_of-part_more xs (at + 6) (at + 7) 1 (omega arith) (omega arith) in
    omega (arith, number_at_1 xs (at + 7) (omega arith))

-- the bytes of a value as a store of each width writes them
pub low_bytes : (count more value : ℕ) (all : List ℕ) → count + more ≡ 8 → all ≡ to_le_bytes w64 value → take count all ≡ bytes_of count value
low_bytes count more value all e is =
    ap (take count) is ∙ ap (λ n. take count (bytes_low_first 0 n value)) (sym e)
    ∙ ap (take count) (bytes_low_first_is 0 (count + more) value)
    ∙ ap (λ n. take count (bytes_of (count + more) n)) (div-one value)
    ∙ take-bytes_of count more value

pub sets_low : (xs : List ℕ) (at count more value : ℕ) → count + more ≡ 8 → at + count ≤ length xs
    → sets xs at (take count (to_le_bytes w64 value)) ≡ written xs at (bytes_of count value)
sets_low xs at count more value e h =
    let low = low_bytes count more value (to_le_bytes w64 value) e refl in
    ap (sets xs at) low ∙ sets_is xs at (bytes_of count value) (omega (arith, length-bytes_of count value))

-- the writes of a store of each width, one byte after another
pub put_2 : (xs : List ℕ) (at a b : ℕ) → set (set xs at a) (at + 1) b ≡ sets xs at (a ∷ b ∷ [])
put_2 xs at a b = let e1 : at + 1 ≡ suc at = omega arith in rw e1

pub put_4 : (xs : List ℕ) (at a b c d : ℕ)
    → set (set (set (set xs at a) (at + 1) b) (at + 2) c) (at + 3) d ≡ sets xs at (a ∷ b ∷ c ∷ d ∷ [])
put_4 xs at a b c d =
    let e1 : at + 1 ≡ suc at = omega arith in
    let e2 : at + 2 ≡ suc (suc at) = omega arith in
    let e3 : at + 3 ≡ suc (suc (suc at)) = omega arith in
    rw (e1, e2, e3)

pub put_8 : (xs : List ℕ) (at a b c d e f g h : ℕ)
    → set (set (set (set (set (set (set (set xs at a) (at + 1) b) (at + 2) c) (at + 3) d) (at + 4) e) (at + 5) f) (at + 6) g) (at + 7) h
    ≡ sets xs at (a ∷ b ∷ c ∷ d ∷ e ∷ f ∷ g ∷ h ∷ [])
put_8 xs at a b c d e f g h =
    let e1 : at + 1 ≡ suc at = omega arith in
    let e2 : at + 2 ≡ suc (suc at) = omega arith in
    let e3 : at + 3 ≡ suc (suc (suc at)) = omega arith in
    let e4 : at + 4 ≡ suc (suc (suc (suc at))) = omega arith in
    let e5 : at + 5 ≡ suc (suc (suc (suc (suc at)))) = omega arith in
    let e6 : at + 6 ≡ suc (suc (suc (suc (suc (suc at))))) = omega arith in
    let e7 : at + 7 ≡ suc (suc (suc (suc (suc (suc (suc at)))))) = omega arith in
    rw (e1, e2, e3, e4, e5, e6, e7)
