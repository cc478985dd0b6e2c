-- The reading of unsigned integers is exact.
use Rattle.std.proofs.Common.{◌≡◌, length, ℕ, ◌-◌, ◌^◌, ◌+◌, ◌*◌, ◌<◌, ◌≤◌, List, [], ◌∷◌, ◌++◌, Some, ltb, refl, sym, ap, ◌∙◌, subst, arith, inl, inr}
use Rattle.std.proofs.lemmas.Bool.{lt-ltb, ltb-true, ltb-false, le-ltb}
use Rattle.wz_bytes.specs.Reading.{Front, IsExact}
use Rattle.wz_bytes.specs.Unsigned.{IsUnsigned, unsigned_at}
use Rattle.wz_bytes.proofs.ReadingLemmas.{bind_some, some_is, chosen, guarded}
use Rattle.wz_bytes.proofs.Widths.{scaled}

unsigned_found : (bits : ℕ) (bytes : List ℕ) (n : ℕ) (rest : List ℕ) → unsigned_at bits bytes ≡ Some (n, rest) → Front (λ t n. IsUnsigned bits t n) bytes n rest
unfolding unsigned_at
unsigned_found bits [] n rest e = absurd cc
unsigned_found bits (b ∷ bytes) n rest e =
    elim (chosen (ltb b 128) _ _ _ e) [
      | inl small ↦
          let fits = guarded (ltb b (2 ^ bits)) _ _ small.1 in
          let pair = some_is _ _ fits.1 in
          let n-is : b ≡ n = ap (λ (p : ℕ × List ℕ). p.0) pair in
          let rest-is : bytes ≡ rest = ap (λ (p : ℕ × List ℕ). p.1) pair in
          record { text = b ∷ []; parts = ap (λ (t : List ℕ). b ∷ t) rest-is; spelled = inl (refl, ltb-true _ _ small.0, ltb-true _ _ fits.0, sym n-is) }
      | inr big ↦
          let byte = guarded (ltb b 256) _ _ big.1 in
          let room = guarded (ltb 7 bits) _ _ byte.1 in
          let high = bind_some (unsigned_at (bits - 7) bytes) _ _ room.1 in
          let more = unsigned_found (bits - 7) bytes high.0.0 high.0.1 high.1 in
          subst (λ (p : ℕ × List ℕ). Front (λ t n. IsUnsigned bits t n) (b ∷ bytes) p.0 p.1) (some_is _ _ high.2) (record {
            text = b ∷ more.text;
            parts = ap (λ (t : List ℕ). b ∷ t) more.parts;
            spelled = inr (ltb-false _ _ big.0, ltb-true _ _ byte.0, ltb-true _ _ room.0, high.0.0, refl, more.spelled);
          })
    ]

unsigned_again : (bits : ℕ) (text : List ℕ) (n : ℕ) (rest : List ℕ) → IsUnsigned bits text n → unsigned_at bits (text ++ rest) ≡ Some (n, rest)
unfolding unsigned_at
unsigned_again bits [] n rest h = absurd h
unsigned_again bits (b ∷ text) n rest (inl h) =
    let small = lt-ltb _ _ h.1 in
    let fits = lt-ltb _ _ h.2 in
    rw (h.0, small, fits, h.3) refl
unsigned_again bits (b ∷ text) n rest (inr h) =
    let big = le-ltb _ _ h.0 in
    let byte = lt-ltb _ _ h.1 in
    let room = lt-ltb _ _ h.2 in
    rw (big, byte, room, unsigned_again (bits - 7) text h.3 rest h.5, h.4) refl

pub unsigned_exact : (bits : ℕ) → IsExact (λ t n. IsUnsigned bits t n) (λ bytes. unsigned_at bits bytes)
unsigned_exact bits = record { found = unsigned_found bits; again = unsigned_again bits }

pub unsigned_below : (bits : ℕ) (text : List ℕ) (n : ℕ) → IsUnsigned bits text n → n < 2 ^ bits
unsigned_below bits [] n h = absurd h
unsigned_below bits (b ∷ text) n (inl h) = rw h.3 h.2
unsigned_below bits (b ∷ text) n (inr h) =
    let s = scaled bits h.3 h.2 (unsigned_below (bits - 7) text h.3 h.5) in
    omega (arith, s, h.4, h.1)

pub unsigned_short : (bits : ℕ) (text : List ℕ) (n : ℕ) → 1 ≤ bits → IsUnsigned bits text n → 7 * length text < bits + 7
unsigned_short bits [] n some h = absurd h
unsigned_short bits (b ∷ text) n some (inl h) = rw h.0 (omega arith)
unsigned_short bits (b ∷ text) n some (inr h) =
    let rest = unsigned_short (bits - 7) text h.3 (omega (arith, h.2)) h.5 in
    omega (arith, rest, h.2)

-- a spelling has a byte at least
pub unsigned_some : (bits : ℕ) (text : List ℕ) (n : ℕ) → IsUnsigned bits text n → 1 ≤ length text
unsigned_some bits [] n h = absurd h
unsigned_some bits (b ∷ text) n h = omega arith

pub one_unsigned_of_length : (bits : ℕ) (a b : List ℕ) (n : ℕ) → IsUnsigned bits a n → IsUnsigned bits b n → length a ≡ length b → a ≡ b
one_unsigned_of_length bits [] b n h k e = absurd h
one_unsigned_of_length bits (x ∷ a) [] n h k e = absurd k
one_unsigned_of_length bits (x ∷ a) (y ∷ b) n (inl h) (inl k) e =
    ap (λ (t : List ℕ). x ∷ t) h.0 ∙ ap (λ (m : ℕ). m ∷ []) (sym h.3 ∙ k.3) ∙ ap (λ (t : List ℕ). y ∷ t) (sym k.0)
one_unsigned_of_length bits (x ∷ a) (y ∷ b) n (inl h) (inr k) e =
    absurd (omega (arith, e, ap length h.0, unsigned_some (bits - 7) b k.3 k.5))
one_unsigned_of_length bits (x ∷ a) (y ∷ b) n (inr h) (inl k) e =
    absurd (omega (arith, e, ap length k.0, unsigned_some (bits - 7) a h.3 h.5))
one_unsigned_of_length bits (x ∷ a) (y ∷ b) n (inr h) (inr k) e =
    let high : k.3 ≡ h.3 = omega (arith, h.0, h.1, h.4, k.0, k.1, k.4) in
    let low : x ≡ y = omega (arith, h.0, h.1, h.4, k.0, k.1, k.4) in
    let rest = one_unsigned_of_length (bits - 7) a b h.3 h.5 (subst (λ (m : ℕ). IsUnsigned (bits - 7) b m) high k.5) (omega (arith, e)) in
    ap (λ (m : ℕ). m ∷ a) low ∙ ap (λ (t : List ℕ). y ∷ t) rest
