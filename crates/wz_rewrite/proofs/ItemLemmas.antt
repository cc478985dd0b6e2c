-- Items of lists: of all, and of each by its number.
use Rattle.std.proofs.Common.{◌≡◌, ◌≢◌, ℕ, zero, suc, ◌<◌, List, [], ◌∷◌, length, Option, Some, None, IsTrue, IsSomeAnd}
use Rattle.std.proofs.Common.{refl, sym, ap, subst, ◌∙◌, slice_get, All, take, get_or, get_or-take, length-take-le, arith}
use Rattle.std.specs.Prelude.{is_some}
use Rattle.std.specs.List.{AllPairs}
use Rattle.std.proofs.lemmas.List.Elements.{All-nil, All-cons, All-head, All-tail}
use Rattle.std.proofs.lemmas.Option.{slice_get_within, slice_get-get_or, get_or_from_slice_get}
use Rattle.wz_module.specs.Exports.{Export}

pub all-items : {X : Type 0} (P : X → Type 0) (xs : List X) → ((i : ℕ) → i < length xs → IsSomeAnd (slice_get xs i) P) → All P xs
all-items P [] each = All-nil P
all-items P (x ∷ xs) each = All-cons P x xs (each 0 (omega arith)) (all-items P xs (λ i less. each (suc i) (omega (arith, less))))

pub item-of : {X : Type 0} (P : X → Type 0) (xs : List X) (i : ℕ) → All P xs → i < length xs → IsSomeAnd (slice_get xs i) P
item-of P [] i all less = absurd (omega (arith, less))
item-of P (x ∷ xs) zero all less = All-head P x xs all
item-of P (x ∷ xs) (suc i) all less = item-of P xs i (All-tail P x xs all) (omega (arith, less))

pub some-more : {X : Type 0} (o : Option X) (P Q : X → Type 0) → ((x : X) → o ≡ Some x → P x → Q x) → IsSomeAnd o P → IsSomeAnd o Q
some-more None P Q more h = h
some-more (Some x) P Q more h = more x refl h

pub some-at : {X : Type 0} (o : Option X) (P : X → Type 0) (x : X) → o ≡ Some x → IsSomeAnd o P → P x
some-at None P x e h = absurd h
some-at (Some y) P x e h = subst P (let same : y ≡ x = cc in same) h

pub below-there : {X : Type 0} (xs : List X) (i : ℕ) → i < length xs → IsTrue (is_some (slice_get xs i))
below-there [] i less = absurd (omega (arith, less))
below-there (x ∷ xs) zero less = refl
below-there (x ∷ xs) (suc i) less = below-there xs i (omega (arith, less))

pub below-of-some : {X : Type 0} (xs : List X) (i : ℕ) (P : X → Type 0) → IsSomeAnd (slice_get xs i) P → i < length xs
below-of-some [] i P h = absurd h
below-of-some (x ∷ xs) zero P h = omega arith
below-of-some (x ∷ xs) (suc i) P h = let less = below-of-some xs i P h in omega (arith, less)

-- ---- names that differ

abbrev pub NamesDiffer : List Export → Type 0
NamesDiffer exports = AllPairs (λ x y. x.name ≢ y.name) exports

abbrev pub IsNewName : Export → List Export → Type 0
IsNewName e before = All (λ earlier. earlier.name ≡ e.name → ⊥) before

pub new-name : (xs : List Export) (i : ℕ) (e : Export) → slice_get xs i ≡ Some e → NamesDiffer xs → IsNewName e (take i xs)
new-name xs i e here differ k d less same =
    let inside = slice_get_within xs i e here in
    let size = length-take-le i xs (omega (arith, inside)) in
    let before : k < i = omega (arith, less, size) in
    differ k i d before inside
    (ap (λ (x : Export). x.name) (sym (get_or-take i xs k d before)) ∙ same ∙ ap (λ (x : Export). x.name) (sym (get_or_from_slice_get xs i e d here)))

pub names-differ : (xs : List Export) → ((i : ℕ) → i < length xs → IsSomeAnd (slice_get xs i) (λ e. IsNewName e (take i xs))) → NamesDiffer xs
names-differ xs each i j d below less same =
    let new = some-at (slice_get xs j) (λ e. IsNewName e (take j xs)) (get_or xs j d) (slice_get-get_or xs j d less) (each j less) in
    let size = length-take-le j xs (omega (arith, less)) in
    new i d (omega (arith, below, size)) (ap (λ (x : Export). x.name) (get_or-take j xs i d below) ∙ same)
