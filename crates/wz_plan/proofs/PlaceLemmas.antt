-- The non-zero places of bytes that stand one behind the other.
use Rattle.std.proofs.Common.{ℕ, zero, suc, ◌+◌, ◌≤◌, ◌≡◌, List, [], ◌∷◌, ◌++◌, length, replicate, refl, ap, arith}
use Rattle.wz_plan.specs.declared.runs.Run.{Run}
use Rattle.wz_plan.specs.Ranges.{RisesFrom}
use Rattle.wz_plan.specs.Plan.{nonzero_places}

pub rises_lower : (apart low lower : ℕ) (xs : List Run) → lower ≤ low → RisesFrom apart low xs → RisesFrom apart lower xs
rises_lower apart low lower [] h rest = tt
rises_lower apart low lower (x ∷ xs) h rest = (omega arith, rest.1)

pub rises_places : (at : ℕ) (bytes : List ℕ) → RisesFrom 0 at (nonzero_places at bytes)
rises_places at [] = tt
rises_places at (zero ∷ bytes) = rises_lower 0 (at + 1) at (nonzero_places (at + 1) bytes) (omega arith) (rises_places (at + 1) bytes)
rises_places at (suc byte ∷ bytes) =
    (omega arith, rises_lower 0 (at + 1) (at + 1 + 0) (nonzero_places (at + 1) bytes) (omega arith) (rises_places (at + 1) bytes))

pub places-append : (at next : ℕ) (xs ys : List ℕ) → next ≡ at + length xs → nonzero_places at (xs ++ ys) ≡ nonzero_places at xs ++ nonzero_places next ys
places-append at next [] ys e = let same : at ≡ next = omega arith in ap (λ n. nonzero_places n ys) same
places-append at next (zero ∷ xs) ys e = places-append (at + 1) next xs ys (omega arith)
places-append at next (suc x ∷ xs) ys e =
    ap (λ (l : List Run). record { at = at; len = 1 } ∷ l) (places-append (at + 1) next xs ys (omega arith))

pub places-zeros : (at count : ℕ) → nonzero_places at (replicate count 0) ≡ []
places-zeros at zero = refl
places-zeros at (suc count) = places-zeros (at + 1) count
