-- Types that are taken, or looked at, one by one from the last to the first.
use Rattle.std.proofs.Common.{◌≡◌, ◌≤◌, ◌<◌, ◌+◌, ◌-◌, ℕ, List, [], ◌∷◌, ◌++◌, Option, Some, None, Bool, true, false, reverse, length, take, get_or, refl, ap, sym, ◌∙◌, arith, if◌then◌else◌}
use Rattle.std.specs.Prelude.{is_some}
use Rattle.std.proofs.lemmas.List.{take_more, reverse-append}
use Rattle.wz_types.specs.declared.types.ValType.{ValType}
use Rattle.wz_types.specs.declared.types.ValType.TheVariants.{I32}
use Rattle.wz_types.specs.SameType.{same_type}
use Rattle.wz_valid_code.specs.Operands.{Operand, Operands, fits}
use Rattle.wz_valid_code.specs.Checking.{after_taking}

abbrev pub then_take : List ValType → Bool → Option Operands → Option Operands
then_take ts dead None = None
then_take ts dead (Some left) = after_taking ts left dead

after_taking-dead : (ts : List ValType) → after_taking ts [] true ≡ Some []
after_taking-dead [] = refl
after_taking-dead (t ∷ ts) = refl

head-by : (b : Bool) (ts : List ValType) (ks : Operands) (dead : Bool) → (if b then after_taking ts ks dead else None) ≡ then_take ts dead (if b then Some ks else None)
head-by true ts ks dead = refl
head-by false ts ks dead = refl

pub after_taking-head : (t : ValType) (ts : List ValType) (ks : Operands) (dead : Bool) → after_taking (t ∷ ts) ks dead ≡ then_take ts dead (after_taking (t ∷ []) ks dead)
after_taking-head t ts [] true = sym (after_taking-dead ts)
after_taking-head t ts [] false = refl
after_taking-head t ts (None ∷ ks) dead = refl
after_taking-head t ts (Some b ∷ ks) dead = head-by (same_type b t) ts ks dead

pub reverse-take : {X : Type 0} (ts : List X) (left : ℕ) (d : X) → 0 < left → left ≤ length ts → reverse (take left ts) ≡ get_or ts (left - 1) d ∷ reverse (take (left - 1) ts)
reverse-take ts left d some within =
    let more : take (left - 1 + 1) ts ≡ take (left - 1) ts ++ get_or ts (left - 1) d ∷ [] = take_more ts (left - 1) d (omega arith) in
    let same_left : left - 1 + 1 ≡ left = omega arith in
    ap (λ n. reverse (take n ts)) (sym same_left) ∙ ap reverse more ∙ reverse-append (take (left - 1) ts) (get_or ts (left - 1) d ∷ [])

-- one more type is taken, from the last to the first
pub take-turn : (ts : List ValType) (left : ℕ) (d : ValType) (ks new : Operands) (dead : Bool) → 0 < left → left ≤ length ts
    → after_taking (get_or ts (left - 1) d ∷ []) ks dead ≡ Some new → after_taking (reverse (take left ts)) ks dead ≡ after_taking (reverse (take (left - 1) ts)) new dead
take-turn ts left d ks new dead some within e =
    ap (λ x. after_taking x ks dead) (reverse-take ts left d some within)
    ∙ after_taking-head (get_or ts (left - 1) d) (reverse (take (left - 1) ts)) ks dead
    ∙ ap (then_take (reverse (take (left - 1) ts)) dead) e

pub take-stuck : (ts : List ValType) (left : ℕ) (d : ValType) (ks : Operands) (dead : Bool) → 0 < left → left ≤ length ts → after_taking (get_or ts (left - 1) d ∷ []) ks dead
    ≡ None → after_taking (reverse (take left ts)) ks dead ≡ None
take-stuck ts left d ks dead some within e =
    ap (λ x. after_taking x ks dead) (reverse-take ts left d some within)
    ∙ after_taking-head (get_or ts (left - 1) d) (reverse (take (left - 1) ts)) ks dead
    ∙ ap (then_take (reverse (take (left - 1) ts)) dead) e

-- types with an i32 on top
pub after_taking-on : (ts : List ValType) (ks : Operands) (dead : Bool) → after_taking (reverse (ts ++ I32 ∷ [])) ks dead
    ≡ then_take (reverse ts) dead (after_taking (I32 ∷ []) ks dead)
after_taking-on ts ks dead = ap (λ x. after_taking x ks dead) (reverse-append ts (I32 ∷ [])) ∙ after_taking-head I32 (reverse ts) ks dead

-- the same without taking: the operands are looked at from the last to the first
pub offer-empty : (ts : List ValType) (left : ℕ) (dead : Bool) → 0 < left → left ≤ length ts → is_some (after_taking (reverse (take left ts)) [] dead) ≡ dead
offer-empty ts left dead some within = ap (λ x. is_some (after_taking x [] dead)) (reverse-take ts left I32 some within) ∙ by dead
  where
    by : (dead : Bool) → is_some {T = Operands} (if dead then Some [] else None) ≡ dead
    by true = refl
    by false = refl

one-fit : (q : Operand) (t : ValType) (ts : List ValType) (ks : Operands) (dead : Bool) → fits q t ≡ true → after_taking (t ∷ ts) (q ∷ ks) dead ≡ after_taking ts ks dead
one-fit q t ts ks dead e = ap (λ b. if b then after_taking ts ks dead else None) e

one-unfit : (q : Operand) (t : ValType) (ts : List ValType) (ks : Operands) (dead : Bool) → fits q t ≡ false → after_taking (t ∷ ts) (q ∷ ks) dead ≡ None
one-unfit q t ts ks dead e = ap (λ b. if b then after_taking ts ks dead else None) e

pub offer-turn : (ts : List ValType) (left : ℕ) (ks : Operands) (below : ℕ) (dead : Bool) → 0 < left → left ≤ length ts → 0 < below → below ≤ length ks
    → (t : ValType) (q : Operand) → q ≡ get_or ks (below - 1) q → fits q (get_or ts (left - 1) t) ≡ true → after_taking (reverse (take left ts)) (reverse (take below ks)) dead
    ≡ after_taking (reverse (take (left - 1) ts)) (reverse (take (below - 1) ks)) dead
offer-turn ts left ks below dead some within more under t q is e =
    ap (λ x. after_taking x (reverse (take below ks)) dead) (reverse-take ts left t some within)
    ∙ ap (λ x. after_taking (get_or ts (left - 1) t ∷ reverse (take (left - 1) ts)) x dead)
    (reverse-take ks below q more under ∙ ap (λ y. y ∷ reverse (take (below - 1) ks)) (sym is))
    ∙ one-fit q (get_or ts (left - 1) t) (reverse (take (left - 1) ts)) (reverse (take (below - 1) ks)) dead e

pub offer-stuck : (ts : List ValType) (left : ℕ) (ks : Operands) (below : ℕ) (dead : Bool) → 0 < left → left ≤ length ts → 0 < below → below ≤ length ks
    → (t : ValType) (q : Operand) → q ≡ get_or ks (below - 1) q → fits q (get_or ts (left - 1) t) ≡ false → after_taking (reverse (take left ts)) (reverse (take below ks)) dead
    ≡ None
offer-stuck ts left ks below dead some within more under t q is e =
    ap (λ x. after_taking x (reverse (take below ks)) dead) (reverse-take ts left t some within)
    ∙ ap (λ x. after_taking (get_or ts (left - 1) t ∷ reverse (take (left - 1) ts)) x dead)
    (reverse-take ks below q more under ∙ ap (λ y. y ∷ reverse (take (below - 1) ks)) (sym is))
    ∙ one-unfit q (get_or ts (left - 1) t) (reverse (take (left - 1) ts)) (reverse (take (below - 1) ks)) dead e
