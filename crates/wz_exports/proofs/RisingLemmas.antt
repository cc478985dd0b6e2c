-- Rising numbers: each once, from the lowest on.
use Rattle.std.proofs.Common.{◌≡◌, ℕ, ◌+◌, ◌<◌, ◌≤◌, List, [], ◌∷◌, Bool, true, false, cond, refl, sym, ap, subst, ◌∙◌, arith, ◌==◌}
use Rattle.std.specs.Prelude.{◌||◌, nat_lt, ◌&&◌, filter, not, IsTrue}
use Rattle.std.specs.List.{All, AllPairs}
use Rattle.std.specs.List.Sorted.{IsStrictlyIncreasing}
use Rattle.std.proofs.lemmas.Bool.{eqb-true, eq-eqb, ltb-true, ltb-false}
use Rattle.std.proofs.lemmas.List.Elements.{All-head}
use Rattle.std.proofs.lemmas.List.Kept.{AllPairs-from_increasing}
use Rattle.wz_code.specs.References.{has_number}
use Rattle.wz_exports.specs.Undeclared.{number_inserted, rising}
use Rattle.wz_exports.proofs.KeptLemmas.{pairs-head, pairs-tail}

-- numbers that rise, from this one on
abbrev pub AtLeast : ℕ → List ℕ → Type 0
AtLeast low [] = Unit {0}
AtLeast low (n ∷ ns) = (low ≤ n) × AtLeast (n + 1) ns

at_least : (low : ℕ) (ns : List ℕ) → All (λ n. low ≤ n) ns → AllPairs (λ a b. a < b) ns → AtLeast low ns
at_least low [] above pairs = tt
at_least low (n ∷ ns) above pairs = (
  All-head (λ (n : ℕ). low ≤ n) n ns above,
  at_least (n + 1) ns (λ k d less. let h = pairs-head (λ (a b : ℕ). a < b) n ns pairs k d less in omega (arith, h)) (pairs-tail (λ (a b : ℕ). a < b) n ns pairs),
)

pub increasing : (ns : List ℕ) → IsStrictlyIncreasing ns → AtLeast 0 ns
increasing ns rises = at_least 0 ns (λ k d less. omega arith) (AllPairs-from_increasing ns rises)

same-self : (n : ℕ) → (n == n) ≡ true
same-self n = eq-eqb n n refl

other : (a b : ℕ) → a < b → (a == b) ≡ false
other a b less = by (a == b) refl where
  by : (t : Bool) → (a == b) ≡ t → (a == b) ≡ false
  by true e = let same = eqb-true a b e in absurd (omega (arith, same, less))
  by false e = e

-- a number below isn't among them
not_below : (f low : ℕ) (ns : List ℕ) → AtLeast low ns → f < low → has_number f ns ≡ false
not_below f low [] rises less = refl
not_below f low (n ∷ ns) rises less =
    ap (λ (b : Bool). b || has_number f ns) (other f n (omega (arith, less, rises.0))) ∙ not_below f (n + 1) ns rises.1 (omega (arith, less, rises.0))

lower : (a b : ℕ) (ms ns : List ℕ) → AtLeast (b + 1) ns → has_number a (a ∷ ms) ≡ has_number a (b ∷ ns) → a < b → ⊥
lower a b ms ns rises e less =
    let here : has_number a (a ∷ ms) ≡ true = ap (λ (t : Bool). t || has_number a ms) (same-self a) in
    let there : has_number a (b ∷ ns) ≡ false = ap (λ (t : Bool). t || has_number a ns) (other a b less) ∙ not_below a (b + 1) ns rises (omega (arith, less)) in
    let clash : true ≡ false = sym here ∙ e ∙ there in
    absurd cc

tail_at : (f x y : ℕ) (xs ys : List ℕ) → AtLeast (x + 1) xs → AtLeast (y + 1) ys → x ≡ y → ((f == y) || has_number f xs) ≡ ((f == y) || has_number f ys)
    → (t : Bool) → (f == y) ≡ t → has_number f xs ≡ has_number f ys
tail_at f x y xs ys one two e whole true p =
    let g = eqb-true f y p in
    not_below f (x + 1) xs one (omega (arith, g, e)) ∙ sym (not_below f (y + 1) ys two (omega (arith, g)))
tail_at f x y xs ys one two e whole false p = sym (ap (λ (t : Bool). t || has_number f xs) p) ∙ whole ∙ ap (λ (t : Bool). t || has_number f ys) p

-- rising numbers of one list and of another are the same list
pub one_list : (low : ℕ) (xs ys : List ℕ) → AtLeast low xs → AtLeast low ys → ((f : ℕ) → has_number f xs ≡ has_number f ys) → xs ≡ ys
one_list low [] [] one other same = refl
one_list low [] (y ∷ ys) one other same = let e : false ≡ true = same y ∙ ap (λ (b : Bool). b || has_number y ys) (same-self y) in absurd cc
one_list low (x ∷ xs) [] one other same = let e : true ≡ false = sym (ap (λ (b : Bool). b || has_number x xs) (same-self x)) ∙ same x in absurd cc
one_list low (x ∷ xs) (y ∷ ys) one two same =
    let same_head = heads in
    ap (λ (n : ℕ). n ∷ xs) same_head
    ∙ ap (λ (ns : List ℕ). y ∷ ns) (one_list (y + 1) xs ys (subst (λ (n : ℕ). AtLeast (n + 1) xs) same_head one.1) two.1 (tails same_head)) where
      heads : x ≡ y
      heads =
          let not_less : x < y → ⊥ = lower x y xs ys two.1 (same x) in
          let not_more : y < x → ⊥ = lower y x ys xs one.1 (sym (same y)) in
          omega (arith, not_less, not_more)

      tails : x ≡ y → (f : ℕ) → has_number f xs ≡ has_number f ys
      tails e f =
          let whole = ap (λ (n : ℕ). (f == n) || has_number f xs) (sym e) ∙ same f in
          tail_at f x y xs ys one.1 two.1 e whole (f == y) refl

or-swap : (a b c : Bool) → (a || (b || c)) ≡ (b || (a || c))
or-swap true true c = refl
or-swap true false c = refl
or-swap false true c = refl
or-swap false false c = refl

or-twice : (a b : Bool) → (a || (a || b)) ≡ (a || b)
or-twice true b = refl
or-twice false b = refl

between : (a b : ℕ) → nat_lt b a ≡ false → nat_lt a b ≡ false → a ≡ b
between a b p q = let h = ltb-false b a p in let k = ltb-false a b q in omega (arith, h, k)

pub has-inserted : (f : ℕ) (ns : List ℕ) (k : ℕ) → has_number f (number_inserted ns k) ≡ ((f == k) || has_number f ns)
has-inserted f [] k = refl
has-inserted f (n ∷ ns) k = by (nat_lt k n) (nat_lt n k) refl refl (has-inserted f ns k) where
  by : (s t : Bool) → nat_lt k n ≡ s → nat_lt n k ≡ t → has_number f (number_inserted ns k) ≡ ((f == k) || has_number f ns)
      → has_number f (cond s (k ∷ n ∷ ns) (cond t (n ∷ number_inserted ns k) (n ∷ ns))) ≡ ((f == k) || has_number f (n ∷ ns))
  by true t p q later = refl
  by false true p q later = ap (λ (b : Bool). (f == n) || b) later ∙ or-swap (f == n) (f == k) (has_number f ns)
  by false false p q later =
      let e : n ≡ k = between n k p q in
      sym (or-twice (f == n) (has_number f ns)) ∙ ap (λ (m : ℕ). (f == m) || ((f == n) || has_number f ns)) e

pub keeps-rising : (low : ℕ) (ns : List ℕ) (k : ℕ) → AtLeast low ns → low ≤ k → AtLeast low (number_inserted ns k)
keeps-rising low [] k rises more = (more, tt)
keeps-rising low (n ∷ ns) k rises more = by (nat_lt k n) (nat_lt n k) refl refl (keeps-rising (n + 1) ns k rises.1) where
  by : (s t : Bool) → nat_lt k n ≡ s → nat_lt n k ≡ t → (n + 1 ≤ k → AtLeast (n + 1) (number_inserted ns k))
      → AtLeast low (cond s (k ∷ n ∷ ns) (cond t (n ∷ number_inserted ns k) (n ∷ ns)))
  by true t p q later = let h = ltb-true k n p in (more, (omega (arith, h), rises.1))
  by false true p q later = let h = ltb-true n k q in (rises.0, later (omega (arith, h)))
  by false false p q later = rises

pub rises : (ns : List ℕ) → AtLeast 0 (rising ns)
rises [] = tt
rises (n ∷ ns) = keeps-rising 0 (rising ns) n (rises ns) (omega arith)

pub has-rising : (f : ℕ) (ns : List ℕ) → has_number f (rising ns) ≡ has_number f ns
has-rising f [] = refl
has-rising f (n ∷ ns) = has-inserted f (rising ns) n ∙ ap (λ (b : Bool). (f == n) || b) (has-rising f ns)

-- ---- what is left of a list

and-false : (b : Bool) → (b && false) ≡ false
and-false true = refl
and-false false = refl

pub among-filter : (p : ℕ → Bool) (f : ℕ) (ns : List ℕ) → has_number f (filter p ns) ≡ (has_number f ns && p f)
among-filter p f [] = refl
among-filter p f (n ∷ ns) = by (p n) (f == n) refl refl (among-filter p f ns) where
  by : (s t : Bool) → p n ≡ s → (f == n) ≡ t → has_number f (filter p ns) ≡ (has_number f ns && p f)
      → has_number f (cond s (n ∷ filter p ns) (filter p ns)) ≡ (((f == n) || has_number f ns) && p f)
  by true true s t later =
      let passes : p f ≡ true = ap p (eqb-true f n t) ∙ s in
      ap (λ (b : Bool). b || has_number f (filter p ns)) t ∙ sym (ap (λ (b : Bool). (b || has_number f ns) && p f) t ∙ passes)
  by true false s t later = ap (λ (b : Bool). b || has_number f (filter p ns)) t ∙ later ∙ sym (ap (λ (b : Bool). (b || has_number f ns) && p f) t)
  by false true s t later =
      let fails : p f ≡ false = ap p (eqb-true f n t) ∙ s in
      later ∙ ap (λ (b : Bool). has_number f ns && b) fails ∙ and-false (has_number f ns) ∙ sym (ap (λ (b : Bool). (b || has_number f ns) && p f) t ∙ fails)
  by false false s t later = later ∙ sym (ap (λ (b : Bool). (b || has_number f ns) && p f) t)

-- a number of a list is one of others, or is left of the list without these
pub either-among : (others ns : List ℕ) (f : ℕ) → IsTrue (has_number f ns) → IsTrue (has_number f others || has_number f (filter (λ n. not (has_number n others)) (rising ns)))
either-among others ns f there = by (has_number f others) refl where
  by : (b : Bool) → has_number f others ≡ b → IsTrue (b || has_number f (filter (λ n. not (has_number n others)) (rising ns)))
  by true e = refl
  by false e =
      among-filter (λ n. not (has_number n others)) f (rising ns)
      ∙ ap (λ (b : Bool). b && not (has_number f others)) (has-rising f ns ∙ there)
      ∙ ap (λ (b : Bool). not b) e
