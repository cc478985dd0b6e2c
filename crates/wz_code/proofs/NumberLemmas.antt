-- Numbers in lists, and lists of numbers that are sets to which others are added. Proofs of other crates may cite this file.
use Rattle.std.proofs.Common.{◌≡◌, ℕ, zero, suc, ◌+◌, ◌<◌, ◌≤◌, List, [], ◌∷◌, ◌++◌, length, take, get_or, map, filter, slice_get, Some, ◌⊎◌, inl, inr, Bool, true, false, IsTrue, ◌==◌, cond}
use Rattle.std.proofs.Common.{refl, sym, ap, subst, ◌∙◌, append-nil, All}
use Rattle.std.specs.Prelude.{◌||◌}
use Rattle.std.specs.List.{flat_map, list_any}
use Rattle.std.specs.Ordering.{nat_cmp}
use Rattle.std.specs.Cmp.{unsigned_tied, both_ways}
use Rattle.std.specs.BTreeMap.{is_at}
use Rattle.std.specs.BTreeSet.{BTreeSet, contains}
use Rattle.std.proofs.Math.Bool.{or_assoc}
use Rattle.std.proofs.lemmas.Bool.{eqb-true, eq-eqb, or_cases, or_left, or_right}
use Rattle.std.proofs.lemmas.List.{take_more, take_all}
use Rattle.std.proofs.lemmas.List.Concat.{flat_map-append}
use Rattle.std.proofs.lemmas.List.Elements.{All-nil, All-cons}
use Rattle.std.proofs.lemmas.List.Folds.{list_any-append, flat_map-map}
use Rattle.wz_code.specs.References.{has_number, AreIn, AddsFunctions}

-- a list has the number
abbrev pub Has : ℕ → List ℕ → Type 0
Has f xs = IsTrue (has_number f xs)

-- ---- lists that are put together

pub has-append : (f : ℕ) (xs ys : List ℕ) → has_number f (xs ++ ys) ≡ (has_number f xs || has_number f ys)
has-append f xs ys = list_any-append (λ other. f == other) xs ys

pub has-cases : (f : ℕ) (xs ys : List ℕ) → Has f (xs ++ ys) → Has f xs ⊎ Has f ys
has-cases f xs ys h = or_cases (has_number f xs) (has_number f ys) (sym (has-append f xs ys) ∙ h)

pub has-first : (f : ℕ) (xs ys : List ℕ) → Has f xs → Has f (xs ++ ys)
has-first f xs ys h = has-append f xs ys ∙ or_left (has_number f xs) (has_number f ys) h

pub has-second : (f : ℕ) (xs ys : List ℕ) → Has f ys → Has f (xs ++ ys)
has-second f xs ys h = has-append f xs ys ∙ or_right (has_number f xs) (has_number f ys) h

pub has-here : (f : ℕ) (xs : List ℕ) → Has f (f ∷ xs)
has-here f xs = or_left (f == f) (has_number f xs) (eq-eqb f f refl)

pub has-later : (f g : ℕ) (xs : List ℕ) → Has f xs → Has f (g ∷ xs)
has-later f g xs h = or_right (f == g) (has_number f xs) h

-- the number of a list of one
pub one-number : (f g : ℕ) → Has f (g ∷ []) → f ≡ g
one-number f g h = elim (or_cases (f == g) false h) [
  | inl same ↦ eqb-true f g same
  | inr none ↦ absurd cc
]

-- two lists, both of which are in a third
pub in-both : (xs ys zs : List ℕ) → AreIn xs zs → AreIn ys zs → AreIn (xs ++ ys) zs
in-both xs ys zs one other f h = elim (has-cases f xs ys h) [
  | inl here ↦ one f here
  | inr later ↦ other f later
]

-- the two parts of a list that is in another
pub in-first : (xs ys zs : List ℕ) → AreIn (xs ++ ys) zs → AreIn xs zs
in-first xs ys zs both f h = both f (has-first f xs ys h)

pub in-second : (xs ys zs : List ℕ) → AreIn (xs ++ ys) zs → AreIn ys zs
in-second xs ys zs both f h = both f (has-second f xs ys h)

pub all-from-has : (P : ℕ → Type 0) (xs : List ℕ) → ((f : ℕ) → Has f xs → P f) → All P xs
all-from-has P [] each = All-nil P
all-from-has P (x ∷ xs) each = All-cons P x xs (each x (has-here x xs)) (all-from-has P xs (λ f h. each f (has-later f x xs h)))

-- what a test leaves of a list
pub in-filtered : (test : ℕ → Bool) (xs : List ℕ) → AreIn (filter test xs) xs
in-filtered test [] f h = h
in-filtered test (x ∷ xs) f h = by (test x) h (in-filtered test xs f) where
  by : (b : Bool) → Has f (cond b (x ∷ filter test xs) (filter test xs)) → (Has f (filter test xs) → Has f xs) → Has f (x ∷ xs)
  by true h more = elim (or_cases (f == x) (has_number f (filter test xs)) h) [
    | inl here ↦ or_left (f == x) (has_number f xs) here
    | inr later ↦ has-later f x xs (more later)
  ]
  by false h more = has-later f x xs (more h)

-- ---- the numbers of several items

-- those of one of the items
pub in-flat : {X : Type 0} (F : X → List ℕ) (xs : List X) (i : ℕ) (x : X) → slice_get xs i ≡ Some x → AreIn (F x) (flat_map F xs)
in-flat F [] i x here = absurd cc
in-flat F (y ∷ xs) zero x here = λ f h. let same : y ≡ x = cc in has-first f (F y) (flat_map F xs) (subst (λ z. Has f (F z)) (sym same) h)
in-flat F (y ∷ xs) (suc i) x here = λ f h. has-second f (F y) (flat_map F xs) (in-flat F xs i x here f h)

-- and the other way: the item that has a number
pub flat-has : {X : Type 0} (F : X → List ℕ) (P : Type 0) (f : ℕ) (xs : List X) → ((i : ℕ) (x : X) → slice_get xs i ≡ Some x → Has f (F x) → P) → Has f (flat_map F xs) → P
flat-has F P f [] each h = absurd cc
flat-has F P f (x ∷ xs) each h = elim (has-cases f (F x) (flat_map F xs) h) [
  | inl here ↦ each 0 x refl here
  | inr later ↦ flat-has F P f xs (λ i y there. each (suc i) y there) later
]

-- ---- a set with more in it

equal-sides : (a b : ℕ) → (a == b) ≡ (b == a)
equal-sides a b = both_ways (a == b) (b == a) (λ h. eq-eqb b a (sym (eqb-true a b h))) (λ h. eq-eqb a b (sym (eqb-true b a h)))

pub contains-has : (q : ℕ) (keys : List ℕ) → list_any (is_at (nat_cmp q)) keys ≡ has_number q keys
contains-has q [] = refl
contains-has q (k ∷ keys) =
    ap (λ (b : Bool). b || list_any (is_at (nat_cmp q)) keys) (unsigned_tied q k) ∙ ap (λ (b : Bool). (q == k) || b) (contains-has q keys)

or-last : (b t : Bool) → cond t true b ≡ (b || (t || false))
or-last true true = refl
or-last true false = refl
or-last false true = refl
or-last false false = refl

-- a set with a function more
pub adds_one : (before now : BTreeSet ℕ) (key : ℕ) → ((q : ℕ) → contains nat_cmp now q ≡ cond (is_at (nat_cmp key) q) true (contains nat_cmp before q))
    → AddsFunctions before.keys now.keys (key ∷ [])
adds_one before now key updates f =
    sym (contains-has f now.keys)
    ∙ updates f
    ∙ ap (λ (t : Bool). cond t true (contains nat_cmp before f)) (unsigned_tied key f ∙ equal-sides key f)
    ∙ ap (λ (b : Bool). cond (f == key) true b) (contains-has f before.keys)
    ∙ or-last (has_number f before.keys) (f == key)

pub adds_both : (before middle now more others : List ℕ) → AddsFunctions before middle more → AddsFunctions middle now others → AddsFunctions before now (more ++ others)
adds_both before middle now more others first second f =
    second f
    ∙ ap (λ (b : Bool). b || has_number f others) (first f)
    ∙ or_assoc (has_number f before) (has_number f more) (has_number f others)
    ∙ ap (λ (b : Bool). has_number f before || b) (sym (has-append f more others))

flat-more : {X : Type 0} (F : X → List ℕ) (xs : List X) (i : ℕ) (d : X) → i < length xs → flat_map F (take (i + 1) xs) ≡ flat_map F (take i xs) ++ F (get_or xs i d)
flat-more {X = X} F xs i d less =
    ap (λ (ys : List X). flat_map F ys) (take_more xs i d less)
    ∙ flat_map-append F (take i xs) (get_or xs i d ∷ [])
    ∙ ap (λ (ns : List ℕ). flat_map F (take i xs) ++ ns) (append-nil (F (get_or xs i d)))

-- what the items up to the next one add
pub adds_next : {X : Type 0} (F : X → List ℕ) (xs : List X) (i : ℕ) (d : X) (before middle now : List ℕ) → i < length xs
    → AddsFunctions before middle (flat_map F (take i xs)) → AddsFunctions middle now (F (get_or xs i d)) → AddsFunctions before now (flat_map F (take (i + 1) xs))
adds_next F xs i d before middle now less first second =
    subst (λ (more : List ℕ). AddsFunctions before now more) (sym (flat-more F xs i d less))
    (adds_both before middle now (flat_map F (take i xs)) (F (get_or xs i d)) first second)

-- what all items add
pub adds_all : {X : Type 0} (F : X → List ℕ) (xs : List X) (i : ℕ) (before now : List ℕ) → length xs ≤ i → AddsFunctions before now (flat_map F (take i xs))
    → AddsFunctions before now (flat_map F xs)
adds_all {X = X} F xs i before now past adds =
    subst (λ (ys : List X). AddsFunctions before now (flat_map F ys)) (take_all i xs past) adds

-- all items, seen through a map
pub adds_mapped : {X Y : Type 0} (F : Y → List ℕ) (f : X → Y) (xs : List X) (i : ℕ) (before now : List ℕ) → length xs ≤ i
    → AddsFunctions before now (flat_map (λ x. F (f x)) (take i xs)) → AddsFunctions before now (flat_map F (map f xs))
adds_mapped F f xs i before now past adds =
    subst (λ (more : List ℕ). AddsFunctions before now more) (sym (flat_map-map F f xs)) (adds_all (λ x. F (f x)) xs i before now past adds)
