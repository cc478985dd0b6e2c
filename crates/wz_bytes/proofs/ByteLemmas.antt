-- Numbers below 256: as a fact, as a test, and what has them.
use Rattle.std.proofs.Common.{◌≡◌, ℕ, ◌+◌, ◌/◌, ◌%◌, ◌<◌, List, [], ◌∷◌, take, get_or, Bool, true, false, cond, ltb, refl, subst, arith, inl, inr, Fits, w8}
use Rattle.std.specs.Prelude.{nat_lt, IsUtf8, ◌&&◌}
use Rattle.std.proofs.Math.Utf8.{encode, encodes, scalar, scalars, scalar_cases}
use Rattle.std.proofs.lemmas.Bool.{lt-ltb, ltb-true}
use Rattle.std.proofs.lemmas.List.Elements.{All-nil, All-cons, All-head, All-tail, All-append, All-take, All-weaker, All-from_get_or}
use Rattle.std.proofs.lemmas.List.Sums.{AllPass-from_list_all, list_all-from_AllPass}
use Rattle.wz_bytes.specs.Forms.{AreBytes, are_bytes}

pub bytes_from_test : (xs : List ℕ) → are_bytes xs ≡ true → AreBytes xs
bytes_from_test xs e = All-weaker (λ b. nat_lt b 256 ≡ true) (λ b. b < 256) (λ b t. ltb-true b 256 t) xs (AllPass-from_list_all (λ b. nat_lt b 256) xs e)

pub test_from_bytes : (xs : List ℕ) → AreBytes xs → are_bytes xs ≡ true
test_from_bytes xs h = list_all-from_AllPass (λ b. nat_lt b 256) xs (All-weaker (λ b. b < 256) (λ b. nat_lt b 256 ≡ true) (λ b t. lt-ltb b 256 t) xs h)

pub no_bytes : AreBytes []
no_bytes = All-nil (λ b. b < 256)

pub byte_more : (b : ℕ) (xs : List ℕ) → b < 256 → AreBytes xs → AreBytes (b ∷ xs)
byte_more b xs = All-cons (λ b. b < 256) b xs

pub bytes_head : (b : ℕ) (xs : List ℕ) → AreBytes (b ∷ xs) → b < 256
bytes_head b xs = All-head (λ b. b < 256) b xs

pub bytes_tail : (b : ℕ) (xs : List ℕ) → AreBytes (b ∷ xs) → AreBytes xs
bytes_tail b xs = All-tail (λ b. b < 256) b xs

-- what a slice of bytes has
pub slice_bytes : (xs : List ℕ) → ((i : ℕ) → Fits w8 (get_or xs i 0)) → AreBytes xs
slice_bytes xs h = All-from_get_or (λ b. b < 256) xs 0 (λ i _. (h i).fits)

pub slice_passes : (n : ℕ) (xs : List ℕ) → ((i : ℕ) → Fits w8 (get_or xs i 0)) → are_bytes (take n xs) ≡ true
slice_passes n xs h = test_from_bytes (take n xs) (All-take (λ b. b < 256) n xs (slice_bytes xs h))

-- ---- a text in UTF-8

either : (test : Bool) (x y : List ℕ) → (test ≡ true → AreBytes x) → (test ≡ false → AreBytes y) → AreBytes (cond test x y)
either true x y one other = one refl
either false x y one other = other refl

scalar_below : (c : ℕ) → scalar c ≡ true → c < 1114112
scalar_below c s = elim (scalar_cases c s) [ inl low ↦ omega (arith, low) | inr high ↦ omega (arith, high.1) ]

char_bytes : (c : ℕ) → scalar c ≡ true → AreBytes (encode c)
unfolding encode
char_bytes c s =
    let six = λ (n : ℕ). 128 + n % 64 in
    let more = λ (n : ℕ) (xs : List ℕ) (h : AreBytes xs). byte_more (six n) xs (omega arith) h in
    let one = six c ∷ [] in
    let two = six (c / 64) ∷ one in
    let three = six (c / 4096) ∷ two in
    let one_is : AreBytes one = more c [] no_bytes in
    let two_is : AreBytes two = more (c / 64) one one_is in
    let three_is : AreBytes three = more (c / 4096) two two_is in
    either (ltb c 128) _ _ (λ e. byte_more c [] (omega (arith, ltb-true c 128 e)) no_bytes)
    (λ _. either (ltb c 2048) _ _ (λ e. byte_more (192 + c / 64) one (omega (arith, ltb-true c 2048 e)) one_is)
    (λ _. either (ltb c 65536) _ _ (λ e. byte_more (224 + c / 4096) two (omega (arith, ltb-true c 65536 e)) two_is)
    (λ _. byte_more (240 + c / 262144) three (omega (arith, scalar_below c s)) three_is)))

both_true : (a b : Bool) → (a && b) ≡ true → (a ≡ true) × (b ≡ true)
both_true true b e = (refl, e)
both_true false b e = absurd cc

chars_bytes : (cs : List ℕ) → scalars cs ≡ true → AreBytes (encodes cs)
chars_bytes [] s = no_bytes
chars_bytes (c ∷ cs) s = let t = both_true (scalar c) (scalars cs) s in All-append (λ b. b < 256) (encode c) (encodes cs) (char_bytes c t.0) (chars_bytes cs t.1)

pub utf8_bytes : (text : List ℕ) → IsUtf8 text → AreBytes text
utf8_bytes text h = subst (λ (t : List ℕ). AreBytes t) h.1.1 (chars_bytes h.0 h.1.0)
