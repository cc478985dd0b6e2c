-- A list that is read item by item while another is made of it.
use Rattle.std.proofs.Common.{◌≡◌, ℕ, ◌+◌, ◌<◌, List, [], ◌∷◌, ◌++◌, length, slice_get, take, map, Option, Some, None, inl, inr, refl, sym, ap, ◌∙◌, arith, unwrap_or}
use Rattle.std.proofs.lemmas.List.{map_more}
use Rattle.std.proofs.lemmas.Option.{slice_get_cases}
use Rattle.std.specs.Option.{option_map}

pub some-inj : {X : Type 0} (x y : X) → Some x ≡ Some y → x ≡ y
some-inj {X = X} x y e = ap (λ (o : Option X). unwrap_or o x) e

module _ {X Y Z : Type 0} (f : X → Y) (g : Y → Z) (xs : List X) (i : ℕ) where
  -- the item that was read is added
  pub read_one : (y : Y) (before now : List Z) → before ≡ map (λ x. g (f x)) (take i xs) → Some y ≡ option_map f (slice_get xs i) → now ≡ before ++ g y ∷ []
      → now ≡ map (λ x. g (f x)) (take (i + 1) xs)
  read_one y before now made read more = elim (slice_get_cases xs i).1 [
    | inl here ↦
        let same = some-inj (f here.0) y (sym (read ∙ ap (λ (o : Option X). option_map f o) here.2)) in
        more
        ∙ ap (λ (zs : List Z). zs ++ g y ∷ []) made
        ∙ ap (λ (z : Z). map (λ x. g (f x)) (take i xs) ++ z ∷ []) (sym (ap g (ap f here.3 ∙ same)))
        ∙ sym (map_more (λ (x : X). g (f x)) xs i here.0 here.1)
    | inr past ↦ let none = read ∙ ap (λ (o : Option X). option_map f o) past.1 in absurd cc
  ]

-- there is an item within the list
pub read_none : {X Y A : Type 0} (f : X → Y) (xs : List X) (i : ℕ) → None ≡ option_map f (slice_get xs i) → i < length xs → A
read_none {X = X} f xs i none less = elim (slice_get_cases xs i).1 [
  | inl here ↦ let some = none ∙ ap (λ (o : Option X). option_map f o) here.2 in absurd cc
  | inr past ↦ absurd (omega (arith, less, past.0))
]

-- an item that is read as it is
pub read_plain : {X : Type 0} (o : Option X) → o ≡ option_map (λ x. x) o
read_plain None = refl
read_plain (Some x) = refl
