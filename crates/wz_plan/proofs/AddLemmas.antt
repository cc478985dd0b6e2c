-- A range behind others, by places.
use Rattle.std.proofs.Common.{ℕ, zero, suc, ◌+◌, ◌-◌, ◌<◌, ◌≡◌, Bool, true, false, List, [], ◌∷◌, ◌++◌, length, get_or, set, Some, None, refl, ◌∙◌, ap, arith}
use Rattle.std.specs.List.{slice_get}
use Rattle.wz_plan.specs.declared.runs.Run.{Run}
use Rattle.wz_plan.specs.Ranges.{gap_between, hull}
use Rattle.wz_plan.specs.Collected.{last_gap, added}

pub last_gap-get : (xs : List Run) (range x : Run) → Some x ≡ slice_get xs (length xs - 1) → last_gap xs range ≡ Some (gap_between x range)
last_gap-get [] range x e = cc
last_gap-get (y ∷ []) range x e = let same : x ≡ y = cc in rw same
last_gap-get (y ∷ z ∷ zs) range x e =
    let one_less : suc (suc (length zs)) - 1 ≡ suc (suc (length zs) - 1) = omega arith in
    last_gap-get (z ∷ zs) range x (e ∙ ap (slice_get (y ∷ z ∷ zs)) one_less)

pub added-merged : (xs : List Run) (range d : Run) (i : ℕ) → length xs ≡ i + 1 → added (λ _. false) xs range ≡ set xs i (hull (get_or xs i d) range)
added-merged [] range d i e = absurd (omega arith)
added-merged (x ∷ []) range d zero e = refl
added-merged (x ∷ []) range d (suc i) e = absurd (omega arith)
added-merged (x ∷ y ∷ ys) range d zero e = absurd (omega arith)
added-merged (x ∷ y ∷ ys) range d (suc i) e = ap (λ l. x ∷ l) (added-merged (y ∷ ys) range d i (omega arith))

pub added-cut : (xs : List Run) (range : Run) → added (λ _. true) xs range ≡ xs ++ range ∷ []
added-cut [] range = refl
added-cut (x ∷ []) range = refl
added-cut (x ∷ y ∷ ys) range = ap (λ l. x ∷ l) (added-cut (y ∷ ys) range)

pub added-empty : (cut : Run → Bool) (xs : List Run) (range : Run) → length xs ≡ 0 → added cut xs range ≡ xs ++ range ∷ []
added-empty cut [] range e = refl
added-empty cut (x ∷ xs) range e = absurd (omega arith)

-- whether a range is merged depends on the one gap alone
pub added-by_gap : (cut : Run → Bool) (b : Bool) (xs : List Run) (range gap : Run)
    → last_gap xs range ≡ Some gap → cut gap ≡ b → added (λ _. b) xs range ≡ added cut xs range
added-by_gap cut b [] range gap e f = cc
added-by_gap cut b (x ∷ []) range gap e f =
    let same : gap_between x range ≡ gap = cc in
    rw (same, f)
added-by_gap cut b (x ∷ y ∷ ys) range gap e f = ap (λ l. x ∷ l) (added-by_gap cut b (y ∷ ys) range gap e f)

pub added-alone : (cut other : Run → Bool) (xs : List Run) (range : Run) → last_gap xs range ≡ None → added cut xs range ≡ added other xs range
added-alone cut other [] range e = refl
added-alone cut other (x ∷ []) range e = cc
added-alone cut other (x ∷ y ∷ ys) range e = ap (λ l. x ∷ l) (added-alone cut other (y ∷ ys) range e)

-- an element that a list was asked for
pub read_by_get : (xs : List Run) (i : ℕ) (x : Run) → Some x ≡ slice_get xs i → (i < length xs) × (x ≡ get_or xs i x)
read_by_get [] i x e = cc
read_by_get (y ∷ ys) zero x e = (omega arith, cc)
read_by_get (y ∷ ys) (suc i) x e = let read = read_by_get ys i x e in (omega arith, read.1)
