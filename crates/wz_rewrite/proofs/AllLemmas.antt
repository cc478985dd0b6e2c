-- What holds of each item of two lists, one behind the other.
use Rattle.std.proofs.Common.{List, ◌++◌, length, subst, refl}
use Rattle.std.specs.List.{All}
use Rattle.std.proofs.lemmas.List.{take_at, drop_at}
use Rattle.std.proofs.lemmas.List.Elements.{All-take, All-drop}

pub All-front : {X : Type 0} (P : X → Type 0) (xs ys : List X) → All P (xs ++ ys) → All P xs
All-front {X = X} P xs ys h = subst (λ (zs : List X). All P zs) (take_at xs ys (length xs) refl) (All-take P (length xs) (xs ++ ys) h)

pub All-behind : {X : Type 0} (P : X → Type 0) (xs ys : List X) → All P (xs ++ ys) → All P ys
All-behind {X = X} P xs ys h = subst (λ (zs : List X). All P zs) (drop_at xs ys (length xs) refl) (All-drop P (length xs) (xs ++ ys) h)
