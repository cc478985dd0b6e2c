-- Lists, looked at from their beginning.
use Rattle.std.proofs.Common.{◌≡◌, ℕ, zero, suc, ◌+◌, ◌-◌, ◌<◌, ◌≤◌, List, [], ◌∷◌, ◌++◌, Option, Some, None, IsSomeAnd, map, take, get_or, length}
use Rattle.std.proofs.Common.{refl, sym, ap, subst, ◌∙◌, slice_get, All, arith}
use Rattle.std.proofs.Common.{append-nil}
use Rattle.std.specs.List.{flat_map}
use Rattle.std.proofs.lemmas.List.{take_more, take_all}
use Rattle.std.specs.Option.{option_map}
use Rattle.std.proofs.lemmas.Option.{slice_get_within, get_or_from_slice_get, slice_get-map, slice_get_past, slice_get_read}
use Rattle.std.proofs.lemmas.List.Concat.{flat_map-append}
use Rattle.std.proofs.lemmas.List.Elements.{All-push, All-head, All-tail}
use Rattle.std.proofs.Math.ListN.{get_or-map, length-map}

-- the items up to the next one, seen through a map
pub map_next : {X Y : Type 0} (f : X → Y) (xs : List X) (i : ℕ) (d : X) → i < length xs → take (i + 1) (map f xs) ≡ take i (map f xs) ++ f (get_or xs i d) ∷ []
map_next {Y = Y} f xs i d less =
    let inside : i < length (map f xs) = subst (λ (n : ℕ). i < n) (sym (length-map xs f)) less in
    take_more (map f xs) i (f d) inside ∙ ap (λ (y : Y). take i (map f xs) ++ y ∷ []) (get_or-map f xs i d)

-- what holds of the items so far and of the next one
pub all_next : {X Y : Type 0} (P : Y → Type 0) (f : X → Y) (xs : List X) (i : ℕ) (d : X) → i < length xs → All P (take i (map f xs)) → P (f (get_or xs i d))
    → All P (take (i + 1) (map f xs))
all_next {Y = Y} P f xs i d less before here =
    subst (λ (ys : List Y). All P ys) (sym (map_next f xs i d less)) (All-push P (take i (map f xs)) (f (get_or xs i d)) before here)

-- the item at a place
pub slice_get_map : {X Y : Type 0} (f : X → Y) (xs : List X) (i : ℕ) (d : X) → i < length xs → slice_get (map f xs) i ≡ Some (f (get_or xs i d))
slice_get_map f [] zero d less = absurd (omega (arith, less))
slice_get_map f [] (suc i) d less = absurd (omega (arith, less))
slice_get_map f (x ∷ xs) zero d less = refl
slice_get_map f (x ∷ xs) (suc i) d less = slice_get_map f xs i d (omega (arith, less))

-- the same, where a place is looked up
pub all_next_get : {X : Type 0} (P : X → Type 0) (xs : List X) (i : ℕ) (x : X) → slice_get xs i ≡ Some x → All P (take i xs) → P x → All P (take (i + 1) xs)
all_next_get {X = X} P xs i x here before is =
    let less = slice_get_within xs i x here in
    let Q : List X → Type 0 = λ ys. All P ys in
    subst Q (sym (take_more xs i x less)) (All-push P (take i xs) (get_or xs i x) before (subst P (sym (get_or_from_slice_get xs i x x here)) is))

-- when no item is left
pub all_done : {X Y : Type 0} (P : Y → Type 0) (f : X → Y) (xs : List X) (i : ℕ) → length xs ≤ i → All P (take i (map f xs)) → All P (map f xs)
all_done {Y = Y} P f xs i past all =
    let Q : List Y → Type 0 = λ ys. All P ys in
    subst Q (take_all i (map f xs) (subst (λ (n : ℕ). n ≤ i) (sym (length-map xs f)) past)) all

-- a place in the second of two lists
pub slice_get_behind : {X : Type 0} (xs ys : List X) (i : ℕ) → length xs ≤ i → slice_get (xs ++ ys) i ≡ slice_get ys (i - length xs)
slice_get_behind [] ys i past = ap (λ (n : ℕ). slice_get ys n) (omega arith)
slice_get_behind (x ∷ xs) ys zero past = absurd (omega (arith, past))
slice_get_behind (x ∷ xs) ys (suc i) past = slice_get_behind xs ys i (omega (arith, past)) ∙ ap (λ (n : ℕ). slice_get ys n) (omega arith)

pub slice_get_before : {X : Type 0} (xs ys : List X) (i : ℕ) (x : X) → slice_get xs i ≡ Some x → slice_get (xs ++ ys) i ≡ Some x
slice_get_before [] ys i x here = absurd cc
slice_get_before (y ∷ xs) ys zero x here = here
slice_get_before (y ∷ xs) ys (suc i) x here = slice_get_before xs ys i x here

-- what the items up to the next one give together
pub flat_next : {X Y Z : Type 0} (F : Y → List Z) (f : X → Y) (xs : List X) (i : ℕ) (d : X) → i < length xs
    → flat_map F (take (i + 1) (map f xs)) ≡ flat_map F (take i (map f xs)) ++ F (f (get_or xs i d))
flat_next {Y = Y} {Z = Z} F f xs i d less =
    ap (λ (ys : List Y). flat_map F ys) (map_next f xs i d less)
    ∙ flat_map-append F (take i (map f xs)) (f (get_or xs i d) ∷ [])
    ∙ ap (λ (zs : List Z). flat_map F (take i (map f xs)) ++ zs) (append-nil (F (f (get_or xs i d))))

pub map_twice : {X Y Z : Type 0} (g : Y → Z) (f : X → Y) (xs : List X) → map (λ x. g (f x)) xs ≡ map g (map f xs)
map_twice g f [] = refl
map_twice {Z = Z} g f (x ∷ xs) = ap (λ (zs : List Z). g (f x) ∷ zs) (map_twice g f xs)

-- the item of a list that is seen through a map
pub item_at : {X Y : Type 0} (f : X → Y) (xs : List X) (ys : List Y) (i : ℕ) (x : X) → map f xs ≡ ys → slice_get xs i ≡ Some x → slice_get ys i ≡ Some (f x)
item_at {X = X} {Y = Y} f xs ys i x same here =
    ap (λ (zs : List Y). slice_get zs i) (sym same) ∙ slice_get-map f xs i ∙ ap (λ (o : Option X). option_map f o) here

pub no_item_at : {X Y : Type 0} (f : X → Y) (xs : List X) (ys : List Y) (i : ℕ) → map f xs ≡ ys → slice_get xs i ≡ None → slice_get ys i ≡ None
no_item_at {X = X} {Y = Y} f xs ys i same here =
    ap (λ (zs : List Y). slice_get zs i) (sym same) ∙ slice_get-map f xs i ∙ ap (λ (o : Option X). option_map f o) here

pub past_items : {X Y : Type 0} (P : Y → Type 0) (f : X → Y) (xs : List X) (ys : List Y) (i : ℕ) → map f xs ≡ ys → length xs ≤ i → IsSomeAnd (slice_get ys i) P → ⊥
past_items {Y = Y} P f xs ys i same past h = subst (λ (o : Option Y). IsSomeAnd o P) (no_item_at f xs ys i same (slice_get_past xs i past)) h

-- where `get` found it
pub found_at : {X Y : Type 0} (f : X → Y) (xs : List X) (ys : List Y) (i : ℕ) (x : X) → map f xs ≡ ys → i < length xs → x ≡ get_or xs i x → slice_get ys i ≡ Some (f x)
found_at f xs ys i x same less is = item_at f xs ys i x same (slice_get_read xs (length xs) i x refl less is)

-- an item that it doesn't hold of
pub all_not_at : {X Y : Type 0} (P : Y → Type 0) (f : X → Y) (xs : List X) (i : ℕ) (d : X) → i < length xs → (P (f (get_or xs i d)) → ⊥) → All P (map f xs) → ⊥
all_not_at P f [] i d less not all = absurd (omega (arith, less))
all_not_at P f (x ∷ xs) zero d less not all = not (All-head P (f x) (map f xs) all)
all_not_at P f (x ∷ xs) (suc i) d less not all = all_not_at P f xs i d (omega (arith, less)) not (All-tail P (f x) (map f xs) all)

pub read_at : {X : Type 0} (xs ys : List X) (i : ℕ) (x : X) → xs ≡ ys → i < length xs → x ≡ get_or xs i x → slice_get ys i ≡ Some x
read_at {X = X} xs ys i x same less is = ap (λ (zs : List X). slice_get zs i) (sym same) ∙ slice_get_read xs (length xs) i x refl less is
