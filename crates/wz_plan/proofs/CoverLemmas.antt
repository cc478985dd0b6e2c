-- What merged ranges hold, and where they begin and end.
use Rattle.std.proofs.Common.{ℕ, zero, suc, ◌+◌, ◌-◌, ◌≤◌, ◌≡◌, Bool, true, false, List, [], ◌∷◌, ◌++◌, length, get_or, if◌then◌else◌, refl, sym, ◌∙◌, ap, subst, inl, inr, ⊎_elim, append_assoc, zero-add, arith}
use Rattle.std.specs.Bool.{nat_lt}
use Rattle.std.specs.List.{All}
use Rattle.std.proofs.lemmas.Bool.{cases_lt}
use Rattle.std.proofs.lemmas.Bool.Decides.{nat_tests}
use Rattle.std.proofs.lemmas.List.{get_or_at, length_push}
use Rattle.std.proofs.lemmas.List.Elements.{All-nil, All-cons, All-head, All-tail}
use Rattle.wz_plan.specs.declared.runs.Run.{Run}
use Rattle.wz_plan.specs.Ranges.{end_of, gap_between, hull, RisesFrom, EndsBy, gaps, with_first, with_gaps_merged}
use Rattle.wz_plan.specs.Plan.{nonzero_places, runs_at, runs, is_cut, chosen, plan, IsInOne}
use Rattle.wz_plan.specs.Laws.{IsTight, PlanCovers, PlanRises, PlanIsWithin, PlanIsTight, IsNonzero, RunsCover, RunsRise, RunsAreNonzero}
use Rattle.wz_plan.proofs.JoinLemmas.{end-hull, rises-joined_alone, joined-joined_alone}
use Rattle.wz_plan.proofs.GapLemmas.{is_cut_long}
use Rattle.wz_plan.proofs.PlaceLemmas.{rises_places}
use Rattle.wz_plan.proofs.ScanLemmas.{ends_places, rises_cut, long_is_not_empty}

-- a fact of each range stays where it passes from two neighbours to their hull
all-with_first : (P : Run → Type 0) (cut : Run → Bool) (x : Run) (ys : List Run)
    → ((lower upper : Run) → cut (gap_between lower upper) ≡ false → end_of lower ≤ upper.at → P lower → P upper → P (hull lower upper))
    → RisesFrom 0 (end_of x + 0) ys → All P (x ∷ ys) → All P (with_first cut x ys)
all-with_first P cut x [] joins rises all = all
all-with_first P cut x (y ∷ ys) joins rises all = by_gap (cut (gap_between x y)) refl
  where
    by_gap : (b : Bool) → cut (gap_between x y) ≡ b → All P (with_first cut x (y ∷ ys))
    by_gap true e = rw e all
    by_gap false e = rw e
        (All-cons P (hull x y) ys
        (joins x y e (omega arith) (All-head P x (y ∷ ys) all) (All-head P y ys (All-tail P x (y ∷ ys) all)))
        (All-tail P y ys (All-tail P x (y ∷ ys) all)))

pub all-joined : (P : Run → Type 0) (cut : Run → Bool) (low : ℕ) (xs : List Run)
    → ((lower upper : Run) → cut (gap_between lower upper) ≡ false → end_of lower ≤ upper.at → P lower → P upper → P (hull lower upper))
    → RisesFrom 0 low xs → All P xs → All P (with_gaps_merged cut xs)
all-joined P cut low [] joins rises all = all
all-joined P cut low (x ∷ xs) joins rises all =
    all-with_first P cut x (with_gaps_merged cut xs) joins (rises-joined_alone 0 (end_of x + 0) cut xs rises.1)
    (All-cons P x (with_gaps_merged cut xs) (All-head P x xs all) (all-joined P cut (end_of x + 0) xs joins rises.1 (All-tail P x xs all)))

pub ends-joined : (high : ℕ) (cut : Run → Bool) (low : ℕ) (xs : List Run) → RisesFrom 0 low xs → EndsBy high xs → EndsBy high (with_gaps_merged cut xs)
ends-joined high cut low xs rises ends =
    all-joined (λ range. end_of range ≤ high) cut low xs
    (λ lower upper merge above first second. let size = end-hull lower upper (omega arith) in omega arith) rises ends

-- a place that ranges hold is held by what they are merged to
held-with_first : (high : ℕ) (cut : Run → Bool) (x : Run) (ys : List Run) (place : ℕ)
    → RisesFrom 0 (end_of x + 0) ys → EndsBy high ys → IsInOne high (x ∷ ys) place → IsInOne high (with_first cut x ys) place
held-with_first high cut x [] place rises ends held = held
held-with_first high cut x (y ∷ ys) place rises ends held =
    elim (cut (gap_between x y)) as (λ b. IsInOne high (if b then x ∷ y ∷ ys else hull x y ∷ ys) place) [
      | true ↦ held
      | false ↦
          let upper : end_of y ≤ high = All-head (λ range. end_of range ≤ high) y ys ends in
          let size = end-hull x y (omega arith) in
          ⊎_elim
          (λ first. let low = first.0.0 in let below = first.0.1 in inl ((low, omega arith), omega arith))
          (λ later. ⊎_elim
          (λ second. let low = second.0.0 in let below = second.0.1 in inl ((omega arith, omega arith), omega arith))
          (λ rest. inr rest) later)
          held
    ]

pub held-joined : (high : ℕ) (cut : Run → Bool) (low : ℕ) (xs : List Run) (place : ℕ)
    → RisesFrom 0 low xs → EndsBy high xs → IsInOne high xs place → IsInOne high (with_gaps_merged cut xs) place
held-joined high cut low [] place rises ends held = held
held-joined high cut low (x ∷ xs) place rises ends held =
    let behind = All-tail (λ range. end_of range ≤ high) x xs ends in
    held-with_first high cut x (with_gaps_merged cut xs) place (rises-joined_alone 0 (end_of x + 0) cut xs rises.1)
    (ends-joined high cut (end_of x + 0) xs rises.1 behind)
    (⊎_elim (λ here. inl here) (λ later. inr (held-joined high cut (end_of x + 0) xs place rises.1 behind later)) held)

-- each non-zero place is held
held_places : (high at : ℕ) (bytes : List ℕ) (place : ℕ) → at + length bytes ≤ high
    → (get_or bytes place 0 ≡ 0 → ⊥) → IsInOne high (nonzero_places at bytes) (at + place)
held_places high at [] place h nonzero = absurd (nonzero refl)
held_places high at (zero ∷ bytes) zero h nonzero = absurd (nonzero refl)
held_places high at (zero ∷ bytes) (suc place) h nonzero =
    let e : at + 1 + place ≡ at + suc place = omega arith in
    subst (IsInOne high (nonzero_places (at + 1) bytes)) e (held_places high (at + 1) bytes place (omega arith) nonzero)
held_places high at (suc byte ∷ bytes) zero h nonzero = inl ((omega arith, omega arith), omega arith)
held_places high at (suc byte ∷ bytes) (suc place) h nonzero =
    let e : at + 1 + place ≡ at + suc place = omega arith in
    inr (subst (IsInOne high (nonzero_places (at + 1) bytes)) e (held_places high (at + 1) bytes place (omega arith) nonzero))

-- each place's range is tight
tight_place : (front : List ℕ) (byte : ℕ) (rest : List ℕ) (at : ℕ) → length front ≡ at
    → IsTight (front ++ suc byte ∷ rest) record { at = at; len = 1 }
tight_place front byte rest at e =
    let there = get_or_at front (suc byte) rest 0 at e in
    let one_less : at + 1 - 1 ≡ at = omega arith in
    record {
      not_empty = omega arith;
      first = λ none. suc_isn't_zero byte (sym there ∙ none);
      last = λ none. suc_isn't_zero byte (sym there ∙ sym (ap (λ n. get_or (front ++ suc byte ∷ rest) n 0) one_less) ∙ none);
    }
  where
    suc_isn't_zero : (n : ℕ) → suc n ≡ 0 → ⊥
    suc_isn't_zero n e = omega arith

tight_places : (front bytes : List ℕ) (at : ℕ) → length front ≡ at → All (IsTight (front ++ bytes)) (nonzero_places at bytes)
tight_places front [] at e = All-nil (IsTight (front ++ []))
tight_places front (zero ∷ bytes) at e =
    subst (λ all. All (IsTight all) (nonzero_places (at + 1) bytes)) (append_assoc front (0 ∷ []) bytes)
    (tight_places (front ++ 0 ∷ []) bytes (at + 1) (omega (arith, length_push front 0)))
tight_places front (suc byte ∷ bytes) at e =
    All-cons (IsTight (front ++ suc byte ∷ bytes)) record { at = at; len = 1 } (nonzero_places (at + 1) bytes)
    (tight_place front byte bytes at e)
    (subst (λ all. All (IsTight all) (nonzero_places (at + 1) bytes)) (append_assoc front (suc byte ∷ []) bytes)
    (tight_places (front ++ suc byte ∷ []) bytes (at + 1) (omega (arith, length_push front (suc byte)))))

tight-hull : (bytes : List ℕ) (lower upper : Run) → end_of lower ≤ upper.at → IsTight bytes lower → IsTight bytes upper → IsTight bytes (hull lower upper)
tight-hull bytes lower upper above one two =
    let some = two.not_empty in
    let size = end-hull lower upper (omega arith) in
    record {
      not_empty = omega arith;
      first = one.first;
      last = λ none. two.last (sym (ap (λ n. get_or bytes (n - 1) 0) size) ∙ none);
    }

-- the plan is the non-zero places, merged at all gaps that aren't cut
plan-places : (bytes : List ℕ) (limit : ℕ) → plan bytes limit ≡ with_gaps_merged (is_cut limit (gaps (runs bytes))) (nonzero_places 0 bytes)
unfolding plan chosen runs runs_at
plan-places bytes limit =
    joined-joined_alone (is_cut limit (gaps (runs bytes))) (λ gap. nat_lt 0 gap.len) 0 (nonzero_places 0 bytes)
    (λ gap cut. long_is_not_empty gap (is_cut_long limit (gaps (runs bytes)) gap cut)) (rises_places 0 bytes)

ends_within : (bytes : List ℕ) → EndsBy (length bytes) (nonzero_places 0 bytes)
ends_within bytes = subst (λ n. EndsBy n (nonzero_places 0 bytes)) (zero-add (length bytes)) (ends_places 0 bytes)

pub plan_covers : PlanCovers
plan_covers bytes limit place nonzero =
    subst (λ ranges. IsInOne (length bytes) ranges place) (sym (plan-places bytes limit))
    (held-joined (length bytes) (is_cut limit (gaps (runs bytes))) 0 (nonzero_places 0 bytes) place (rises_places 0 bytes) (ends_within bytes)
    (subst (IsInOne (length bytes) (nonzero_places 0 bytes)) (zero-add place) (held_places (length bytes) 0 bytes place (omega arith) nonzero)))

pub runs_cover : RunsCover
unfolding runs runs_at
runs_cover bytes place nonzero =
    held-joined (length bytes) (λ gap. nat_lt 0 gap.len) 0 (nonzero_places 0 bytes) place (rises_places 0 bytes) (ends_within bytes)
    (subst (IsInOne (length bytes) (nonzero_places 0 bytes)) (zero-add place) (held_places (length bytes) 0 bytes place (omega arith) nonzero))

pub plan_rises : PlanRises
plan_rises bytes limit =
    subst (RisesFrom 9 0) (sym (plan-places bytes limit))
    (rises_cut 8 (is_cut limit (gaps (runs bytes))) 0 (nonzero_places 0 bytes) (is_cut_long limit (gaps (runs bytes))) (rises_places 0 bytes))

pub plan_is_within : PlanIsWithin
plan_is_within bytes limit =
    subst (EndsBy (length bytes)) (sym (plan-places bytes limit))
    (ends-joined (length bytes) (is_cut limit (gaps (runs bytes))) 0 (nonzero_places 0 bytes) (rises_places 0 bytes) (ends_within bytes))

pub plan_is_tight : PlanIsTight
plan_is_tight bytes limit =
    subst (All (IsTight bytes)) (sym (plan-places bytes limit))
    (all-joined (IsTight bytes) (is_cut limit (gaps (runs bytes))) 0 (nonzero_places 0 bytes)
    (λ lower upper merge above one two. tight-hull bytes lower upper above one two) (rises_places 0 bytes)
    (tight_places [] bytes 0 refl))

-- the runs consist of non-zero bytes alone, and zeros lie between them
nonzero_place : (bytes : List ℕ) (range : Run) → range.len ≡ 1 → (get_or bytes range.at 0 ≡ 0 → ⊥) → IsNonzero bytes range
nonzero_place bytes range one here = record {
  not_empty = omega arith;
  each = λ place low high none. let e : place ≡ range.at = omega arith in here (sym (ap (λ n. get_or bytes n 0) e) ∙ none);
}

nonzero_from_tight : (bytes : List ℕ) (at : ℕ) (xs : List Run) → All (λ range. range.len ≡ 1) xs → All (IsTight bytes) xs → All (IsNonzero bytes) xs
nonzero_from_tight bytes at xs ones tight = λ k d h. nonzero_place bytes (get_or xs k d) (ones k d h) (tight k d h).first

one_place : (at : ℕ) (bytes : List ℕ) → All (λ range. range.len ≡ 1) (nonzero_places at bytes)
one_place at [] = All-nil (λ range. range.len ≡ 1)
one_place at (zero ∷ bytes) = one_place (at + 1) bytes
one_place at (suc byte ∷ bytes) = All-cons (λ range. range.len ≡ 1) record { at = at; len = 1 } (nonzero_places (at + 1) bytes) refl (one_place (at + 1) bytes)

nonzero-hull : (bytes : List ℕ) (lower upper : Run) → nat_lt 0 (gap_between lower upper).len ≡ false
    → end_of lower ≤ upper.at → IsNonzero bytes lower → IsNonzero bytes upper → IsNonzero bytes (hull lower upper)
nonzero-hull bytes lower upper merge above one two =
    let some = two.not_empty in
    let size = end-hull lower upper (omega arith) in
    let touch : upper.at ≤ end_of lower = grind (arith, nat_tests) in
    record {
      not_empty = omega arith;
      each = λ place low high. ⊎_elim
          (λ below. one.each place low below)
          (λ over. two.each place (omega arith) (omega arith))
          (cases_lt place (end_of lower));
    }

pub runs_are_nonzero : RunsAreNonzero
unfolding runs runs_at
runs_are_nonzero bytes =
    all-joined (IsNonzero bytes) (λ gap. nat_lt 0 gap.len) 0 (nonzero_places 0 bytes) (nonzero-hull bytes) (rises_places 0 bytes)
    (nonzero_from_tight bytes 0 (nonzero_places 0 bytes) (one_place 0 bytes) (tight_places [] bytes 0 refl))

pub runs_rise : RunsRise
unfolding runs runs_at
runs_rise bytes = rises_cut 0 (λ gap. nat_lt 0 gap.len) 0 (nonzero_places 0 bytes) (λ gap long. long) (rises_places 0 bytes)
