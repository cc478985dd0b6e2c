-- The reading of signed integers is exact.
use Rattle.std.proofs.Common.{◌≡◌, length, ◌*◌, ℕ, ℤ, pos, ◌+◌, ◌-◌, ◌^◌, ◌<◌, ◌≤◌, ◌-ℤ◌, List, [], ◌∷◌, ◌++◌, Option, Some, None, Bool, true, false, cond, ltb, refl, sym, ap, subst, ◌∙◌, arith, inl, inr}
use Rattle.std.specs.Prelude.{nat_le}
use Rattle.std.proofs.lemmas.Bool.{lt-ltb, le-leb, leb-true, ltb-true, ltb-false, le-ltb}
use Rattle.wz_bytes.specs.Reading.{◌>>=◌, Front, IsExact}
use Rattle.wz_bytes.specs.Signed.{IsSigned, last_group, signed_at}
use Rattle.std.proofs.lemmas.Int.{ints}
use Rattle.wz_bytes.specs.Signed.{IsSignedNumber}
use Rattle.wz_bytes.proofs.SignedLemmas.{within_more}
use Rattle.wz_bytes.proofs.ReadingLemmas.{bind_some, some_is, chosen, guarded}

-- what a last byte stands for, as the grammar's first two rules have it
last_found : (bits b : ℕ) (z : ℤ) → b < 128 → last_group bits b ≡ Some z → IsSigned bits (b ∷ []) z
last_found bits b z byte e =
    elim (chosen (ltb b 64) _ _ _ e) [
      | inl small ↦ let fits = guarded (ltb b (2 ^ (bits - 1))) _ _ small.1 in inl (refl, ltb-true _ _ small.0, ltb-true _ _ fits.0, sym (some_is _ _ fits.1))
      | inr big ↦ let fits = guarded (nat_le 128 (b + 2 ^ (bits - 1))) _ _ big.1 in inr (inl (refl, ltb-false _ _ big.0, byte, leb-true _ _ fits.0, sym (some_is _ _ fits.1)))
    ]

signed_found : (bits : ℕ) (bytes : List ℕ) (z : ℤ) (rest : List ℕ) → signed_at bits bytes ≡ Some (z, rest) → Front (λ t x. IsSigned bits t x) bytes z rest
unfolding signed_at
signed_found bits [] z rest e = absurd cc
signed_found bits (b ∷ bytes) z rest e =
    elim (chosen (ltb b 128) _ _ _ e) [
      | inl small ↦
          let last = bind_some (last_group bits b) _ _ small.1 in
          subst (λ (p : ℤ × List ℕ). Front (λ t x. IsSigned bits t x) (b ∷ bytes) p.0 p.1) (some_is _ _ last.2) (record {
            text = b ∷ [];
            parts = refl;
            spelled = last_found bits b last.0 (ltb-true _ _ small.0) last.1;
          })
      | inr big ↦
          let byte = guarded (ltb b 256) _ _ big.1 in
          let room = guarded (ltb 7 bits) _ _ byte.1 in
          let high = bind_some (signed_at (bits - 7) bytes) _ _ room.1 in
          let more = signed_found (bits - 7) bytes high.0.0 high.0.1 high.1 in
          subst (λ (p : ℤ × List ℕ). Front (λ t x. IsSigned bits t x) (b ∷ bytes) p.0 p.1) (some_is _ _ high.2) (record {
            text = b ∷ more.text;
            parts = ap (λ (t : List ℕ). b ∷ t) more.parts;
            spelled = inr (inr (ltb-false _ _ big.0, ltb-true _ _ byte.0, ltb-true _ _ room.0, high.0.0, refl, more.spelled));
          })
    ]

if_true : {A : Type 0} (b : Bool) (x y : A) → b ≡ true → cond b x y ≡ x
if_true true x y e = refl
if_true false x y e = absurd cc

if_false : {A : Type 0} (b : Bool) (x y : A) → b ≡ false → cond b x y ≡ y
if_false true x y e = absurd cc
if_false false x y e = refl

positive_again : (bits b : ℕ) → b < 64 → b < 2 ^ (bits - 1) → last_group bits b ≡ Some (pos b)
positive_again bits b small fits = let s = lt-ltb _ _ small in let f = lt-ltb _ _ fits in rw (s, f) refl

negative_again : (bits b : ℕ) → 64 ≤ b → 128 ≤ b + 2 ^ (bits - 1) → last_group bits b ≡ Some (pos b -ℤ pos 128)
negative_again bits b big fits = if_false (ltb b 64) _ _ (le-ltb _ _ big) ∙ if_true (nat_le 128 (b + 2 ^ (bits - 1))) (Some (pos b -ℤ pos 128)) None (le-leb _ _ fits)

last_again : (bits b : ℕ) (z : ℤ) (rest : List ℕ) → b < 128 → last_group bits b ≡ Some z → signed_at bits (b ∷ rest) ≡ Some (z, rest)
unfolding signed_at
last_again bits b z rest byte last =
    let first : signed_at bits (b ∷ rest) ≡ (last_group bits b >>= λ x. Some (x, rest)) = if_true (ltb b 128) _ _ (lt-ltb _ _ byte) in
    first ∙ ap (λ (o : Option ℤ). o >>= λ x. Some (x, rest)) last

signed_again : (bits : ℕ) (text : List ℕ) (z : ℤ) (rest : List ℕ) → IsSigned bits text z → signed_at bits (text ++ rest) ≡ Some (z, rest)
unfolding signed_at
signed_again bits [] z rest h = absurd h
signed_again bits (b ∷ text) z rest (inl h) =
    rw (h.0, h.3) (last_again bits b (pos b) rest (omega (arith, h.1)) (positive_again bits b h.1 h.2))
signed_again bits (b ∷ text) z rest (inr (inl h)) =
    let e = last_again bits b (pos b -ℤ pos 128) rest h.2 (negative_again bits b h.1 h.3) in
    ap (λ (t : List ℕ). signed_at bits (b ∷ t ++ rest)) h.0 ∙ e ∙ ap (λ (x : ℤ). Some (x, rest)) (sym h.4)
signed_again bits (b ∷ text) z rest (inr (inr h)) =
    let big = le-ltb _ _ h.0 in
    let byte = lt-ltb _ _ h.1 in
    let room = lt-ltb _ _ h.2 in
    rw (big, byte, room, signed_again (bits - 7) text h.3 rest h.5, h.4) refl

pub signed_exact : (bits : ℕ) → IsExact (λ t z. IsSigned bits t z) (λ bytes. signed_at bits bytes)
signed_exact bits = record { found = signed_found bits; again = signed_again bits }

pub signed_within : (bits : ℕ) (text : List ℕ) (z : ℤ) → 1 ≤ bits → IsSigned bits text z → IsSignedNumber bits z
signed_within bits [] z some h = absurd h
signed_within bits (b ∷ text) z some (inl h) = rw h.3 (omega (arith, ints), omega (arith, ints, h.2))
signed_within bits (b ∷ text) z some (inr (inl h)) = (omega (arith, ints, h.4, h.3, h.2), omega (arith, ints, h.4, h.3, h.2))
signed_within bits (b ∷ text) z some (inr (inr h)) =
    rw h.4 (within_more bits h.3 (b - 128) h.2 (omega (arith, h.1)) (signed_within (bits - 7) text h.3 (omega (arith, h.2)) h.5))

pub signed_short : (bits : ℕ) (text : List ℕ) (z : ℤ) → 1 ≤ bits → IsSigned bits text z → 7 * length text < bits + 7
signed_short bits [] z some h = absurd h
signed_short bits (b ∷ text) z some (inl h) = rw h.0 (omega arith)
signed_short bits (b ∷ text) z some (inr (inl h)) = rw h.0 (omega arith)
signed_short bits (b ∷ text) z some (inr (inr h)) =
    let rest = signed_short (bits - 7) text h.3 (omega (arith, h.2)) h.5 in
    omega (arith, rest, h.2)

-- a spelling has a byte at least
pub signed_some : (bits : ℕ) (text : List ℕ) (z : ℤ) → IsSigned bits text z → 1 ≤ length text
signed_some bits [] z h = absurd h
signed_some bits (b ∷ text) z h = omega arith

same_byte : (a b : List ℕ) (x y : ℕ) → a ≡ [] → b ≡ [] → x ≡ y → x ∷ a ≡ y ∷ b
same_byte a b x y none nothing same = ap (λ (t : List ℕ). x ∷ t) none ∙ ap (λ (m : ℕ). m ∷ []) same ∙ ap (λ (t : List ℕ). y ∷ t) (sym nothing)

too_long : (bits : ℕ) (a b : List ℕ) (z : ℤ) → a ≡ [] → IsSigned bits b z → length a ≡ length b → ⊥
too_long bits a b z none h e = omega (arith, e, ap length none, signed_some bits b z h)

pub one_signed_of_length : (bits : ℕ) (a b : List ℕ) (z : ℤ) → IsSigned bits a z → IsSigned bits b z → length a ≡ length b → a ≡ b
one_signed_of_length bits [] b z h k e = absurd h
one_signed_of_length bits (x ∷ a) [] z h k e = absurd k
one_signed_of_length bits (x ∷ a) (y ∷ b) z (inl h) (inl k) e = same_byte a b x y h.0 k.0 (omega (arith, ints, h.3, k.3))
one_signed_of_length bits (x ∷ a) (y ∷ b) z (inl h) (inr (inl k)) e = absurd (omega (arith, ints, h.3, k.4, k.2))
one_signed_of_length bits (x ∷ a) (y ∷ b) z (inl h) (inr (inr k)) e = absurd (too_long (bits - 7) a b k.3 h.0 k.5 (omega (arith, e)))
one_signed_of_length bits (x ∷ a) (y ∷ b) z (inr (inl h)) (inl k) e = absurd (omega (arith, ints, k.3, h.4, h.2))
one_signed_of_length bits (x ∷ a) (y ∷ b) z (inr (inl h)) (inr (inl k)) e = same_byte a b x y h.0 k.0 (omega (arith, ints, h.4, k.4))
one_signed_of_length bits (x ∷ a) (y ∷ b) z (inr (inl h)) (inr (inr k)) e = absurd (too_long (bits - 7) a b k.3 h.0 k.5 (omega (arith, e)))
one_signed_of_length bits (x ∷ a) (y ∷ b) z (inr (inr h)) (inl k) e = absurd (too_long (bits - 7) b a h.3 k.0 h.5 (omega (arith, e)))
one_signed_of_length bits (x ∷ a) (y ∷ b) z (inr (inr h)) (inr (inl k)) e = absurd (too_long (bits - 7) b a h.3 k.0 h.5 (omega (arith, e)))
one_signed_of_length bits (x ∷ a) (y ∷ b) z (inr (inr h)) (inr (inr k)) e =
    let high : k.3 ≡ h.3 = omega (arith, ints, h.0, h.1, h.4, k.0, k.1, k.4) in
    let low : x ≡ y = omega (arith, ints, h.0, h.1, h.4, k.0, k.1, k.4) in
    let rest = one_signed_of_length (bits - 7) a b h.3 h.5 (subst (λ (m : ℤ). IsSigned (bits - 7) b m) high k.5) (omega (arith, e)) in
    ap (λ (m : ℕ). m ∷ a) low ∙ ap (λ (t : List ℕ). y ∷ t) rest
