-- Ranges that are merged: one after another, in two steps, and at the end of a list.
use Rattle.std.proofs.Common.{ℕ, ◌+◌, ◌-◌, ◌≤◌, ◌≡◌, Bool, true, false, List, [], ◌∷◌, ◌++◌, if◌then◌else◌, append-nil, refl, sym, ◌∙◌, ap, subst, arith}
use Rattle.wz_plan.specs.declared.runs.Run.{Run}
use Rattle.wz_plan.specs.Ranges.{end_of, gap_between, hull, RisesFrom, with_first, with_gaps_merged}
use Rattle.wz_plan.specs.Collected.{added}

-- the end of a hull is that of its higher part
pub end-hull : (x y : Run) → x.at ≤ end_of y → end_of (hull x y) ≡ end_of y
end-hull x y h = omega arith

pub gap-hull : (x y z : Run) → x.at ≤ end_of y → gap_between (hull x y) z ≡ gap_between y z
gap-hull x y z h = let e = end-hull x y h in ap (λ n. let gap : Run = record { at = n; len = z.at - n } in gap) e

pub hull-hull : (x y z : Run) → y.at ≤ end_of z → hull x (hull y z) ≡ hull (hull x y) z
hull-hull x y z h = let e = end-hull y z h in ap (λ n. let range : Run = record { at = x.at; len = n - x.at } in range) e

-- ranges that rise go on doing so when some are merged, also in front of others
rises-with_first : (apart low : ℕ) (cut : Run → Bool) (x : Run) (ys zs : List Run)
    → low ≤ x.at → RisesFrom apart (end_of x + apart) (ys ++ zs) → RisesFrom apart low (with_first cut x ys ++ zs)
rises-with_first apart low cut x [] zs h rest = (h, rest)
rises-with_first apart low cut x (y ∷ ys) zs h rest =
    elim (cut (gap_between x y)) as (λ b. RisesFrom apart low ((if b then x ∷ y ∷ ys else hull x y ∷ ys) ++ zs)) [
      | true ↦ (h, rest)
      | false ↦ (h, subst (λ n. RisesFrom apart (n + apart) (ys ++ zs)) (sym (end-hull x y (omega arith))) rest.1)
    ]

pub rises-joined : (apart low : ℕ) (cut : Run → Bool) (xs zs : List Run)
    → RisesFrom apart low (xs ++ zs) → RisesFrom apart low (with_gaps_merged cut xs ++ zs)
rises-joined apart low cut [] zs h = h
rises-joined apart low cut (x ∷ xs) zs h =
    rises-with_first apart low cut x (with_gaps_merged cut xs) zs h.0 (rises-joined apart (end_of x + apart) cut xs zs h.1)

pub rises-joined_alone : (apart low : ℕ) (cut : Run → Bool) (xs : List Run) → RisesFrom apart low xs → RisesFrom apart low (with_gaps_merged cut xs)
rises-joined_alone apart low cut xs h =
    subst (RisesFrom apart low) (append-nil (with_gaps_merged cut xs))
    (rises-joined apart low cut xs [] (subst (RisesFrom apart low) (sym (append-nil xs)) h))

-- a test that passes less than another fails where the other does
not_more : (b c : Bool) → (b ≡ true → c ≡ true) → c ≡ false → b ≡ false
not_more true c implies e = sym (implies refl) ∙ e
not_more false c implies e = refl

-- a hull in front of others is what two merges make, where the gap in it isn't cut
hull-with_first : (cut : Run → Bool) (x y : Run) (zs : List Run)
    → cut (gap_between x y) ≡ false → x.at ≤ end_of y → RisesFrom 0 (end_of y + 0) zs
    → with_first cut (hull x y) zs ≡ with_first cut x (with_first cut y zs)
hull-with_first cut x y [] merge h rest = rw merge
hull-with_first cut x y (z ∷ zs) merge h rest = by_gap (cut (gap_between y z)) refl
  where
    by_gap : (b : Bool) → cut (gap_between y z) ≡ b → with_first cut (hull x y) (z ∷ zs) ≡ with_first cut x (with_first cut y (z ∷ zs))
    by_gap true e = rw (gap-hull x y z h, e, merge)
    by_gap false e = rw (gap-hull x y z h, e, merge, hull-hull x y z (omega arith))

-- a merge of fewer gaps in front of a merge of more of them adds nothing
joined-with_first : (more fewer : Run → Bool) (x : Run) (ys zs : List Run)
    → ((gap : Run) → more gap ≡ true → fewer gap ≡ true) → RisesFrom 0 (end_of x + 0) (ys ++ zs)
    → with_gaps_merged more (with_first fewer x ys ++ zs) ≡ with_first more x (with_gaps_merged more (ys ++ zs))
joined-with_first more fewer x [] zs implies rest = refl
joined-with_first more fewer x (y ∷ ys) zs implies rest = by_gap (fewer (gap_between x y)) refl
  where
    by_gap : (b : Bool) → fewer (gap_between x y) ≡ b
        → with_gaps_merged more (with_first fewer x (y ∷ ys) ++ zs) ≡ with_first more x (with_gaps_merged more (y ∷ ys ++ zs))
    by_gap true e = rw e
    by_gap false e = rw e
        (hull-with_first more x y (with_gaps_merged more (ys ++ zs))
        (not_more (more (gap_between x y)) (fewer (gap_between x y)) (implies (gap_between x y)) e) (omega arith)
        (rises-joined_alone 0 (end_of y + 0) more (ys ++ zs) rest.1))

-- a merge of fewer gaps, and then of more, is the merge of more
pub joined-joined : (more fewer : Run → Bool) (low : ℕ) (xs zs : List Run)
    → ((gap : Run) → more gap ≡ true → fewer gap ≡ true) → RisesFrom 0 low (xs ++ zs)
    → with_gaps_merged more (with_gaps_merged fewer xs ++ zs) ≡ with_gaps_merged more (xs ++ zs)
joined-joined more fewer low [] zs implies h = refl
joined-joined more fewer low (x ∷ xs) zs implies h =
    joined-with_first more fewer x (with_gaps_merged fewer xs) zs implies (rises-joined 0 (end_of x + 0) fewer xs zs h.1)
    ∙ ap (with_first more x) (joined-joined more fewer (end_of x + 0) xs zs implies h.1)

pub joined-joined_alone : (more fewer : Run → Bool) (low : ℕ) (xs : List Run)
    → ((gap : Run) → more gap ≡ true → fewer gap ≡ true) → RisesFrom 0 low xs → with_gaps_merged more (with_gaps_merged fewer xs) ≡ with_gaps_merged more xs
joined-joined_alone more fewer low xs implies h =
    ap (with_gaps_merged more) (sym (append-nil (with_gaps_merged fewer xs)))
    ∙ joined-joined more fewer low xs [] implies (subst (RisesFrom 0 low) (sym (append-nil xs)) h)
    ∙ ap (with_gaps_merged more) (append-nil xs)

-- the same of what stands behind others
pub joined-append_joined : (more fewer : Run → Bool) (low : ℕ) (xs zs : List Run)
    → ((gap : Run) → more gap ≡ true → fewer gap ≡ true) → RisesFrom 0 low zs
    → with_gaps_merged more (xs ++ with_gaps_merged fewer zs) ≡ with_gaps_merged more (xs ++ zs)
joined-append_joined more fewer low [] zs implies h = joined-joined_alone more fewer low zs implies h
joined-append_joined more fewer low (x ∷ xs) zs implies h = ap (with_first more x) (joined-append_joined more fewer low xs zs implies h)

-- a range in front of others, and one behind them
with_first-added : (cut : Run → Bool) (x : Run) (ys : List Run) (range : Run)
    → RisesFrom 0 (end_of x + 0) (ys ++ range ∷ []) → with_first cut x (added cut ys range) ≡ added cut (with_first cut x ys) range
with_first-added cut x [] range h = refl
with_first-added cut x (y ∷ []) range h = by_gaps (cut (gap_between y range)) (cut (gap_between x y)) refl refl
  where
    by_gaps : (b c : Bool) → cut (gap_between y range) ≡ b → cut (gap_between x y) ≡ c
        → with_first cut x (with_first cut y (range ∷ [])) ≡ added cut (with_first cut x (y ∷ [])) range
    by_gaps true true e f = rw (e, f, e)
    by_gaps true false e f = rw (e, f, gap-hull x y range (omega arith), e)
    by_gaps false true e f = rw (e, f, e)
    by_gaps false false e f = rw (e, f, gap-hull x y range (omega arith), e, hull-hull x y range (omega arith))
with_first-added cut x (y ∷ z ∷ zs) range h = by_gap (cut (gap_between x y)) refl
  where
    by_gap : (c : Bool) → cut (gap_between x y) ≡ c
        → with_first cut x (y ∷ added cut (z ∷ zs) range) ≡ added cut (with_first cut x (y ∷ z ∷ zs)) range
    by_gap true e = rw e
    by_gap false e = rw e

pub joined-push : (cut : Run → Bool) (low : ℕ) (xs : List Run) (range : Run)
    → RisesFrom 0 low (xs ++ range ∷ []) → with_gaps_merged cut (xs ++ range ∷ []) ≡ added cut (with_gaps_merged cut xs) range
joined-push cut low [] range h = refl
joined-push cut low (x ∷ xs) range h =
    ap (with_first cut x) (joined-push cut (end_of x + 0) xs range h.1)
    ∙ with_first-added cut x (with_gaps_merged cut xs) range (rises-joined 0 (end_of x + 0) cut xs (range ∷ []) h.1)
