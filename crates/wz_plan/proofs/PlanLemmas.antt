-- Scans in pieces, and the choice among what they find.
use Rattle.std.proofs.Common.{ℕ, ◌+◌, ◌-◌, ◌≤◌, ◌≡◌, true, List, ◌++◌, length, replicate, sym, ◌∙◌, ap, subst, arith, append-nil}
use Rattle.std.specs.Bool.{nat_lt}
use Rattle.std.proofs.lemmas.Bool.Decides.{nat_tests}
use Rattle.std.proofs.lemmas.List.{length-append, length-replicate}
use Rattle.wz_plan.specs.declared.runs.Run.{Run}
use Rattle.wz_plan.specs.Ranges.{RisesFrom}
use Rattle.wz_plan.specs.Plan.{nonzero_places, runs_at, runs, plan}
use Rattle.wz_plan.specs.Scanned.{merged, found_in, found_after, followed_at}
use Rattle.wz_plan.specs.Laws.{FindsMore, ZerosAddNothing, ChoiceIsPlan}
use Rattle.wz_plan.proofs.JoinLemmas.{joined-joined, joined-joined_alone, joined-append_joined, rises-joined_alone}
use Rattle.wz_plan.proofs.GapLemmas.{chosen-merged}
use Rattle.wz_plan.proofs.PlaceLemmas.{rises_places, places-append, places-zeros}

long_isn't_empty : (gap : Run) → nat_lt 8 gap.len ≡ true → nat_lt 0 gap.len ≡ true
long_isn't_empty gap e = grind (arith, nat_tests)

-- runs that are merged are non-zero places that are merged
pub merged-runs : (at : ℕ) (bytes : List ℕ) → merged (runs_at at bytes) ≡ merged (nonzero_places at bytes)
unfolding merged runs_at
merged-runs at bytes = joined-joined_alone (λ gap. nat_lt 8 gap.len) (λ gap. nat_lt 0 gap.len) at (nonzero_places at bytes) long_isn't_empty (rises_places at bytes)

pub merged-append_runs : (ranges : List Run) (at : ℕ) (bytes : List ℕ) → merged (ranges ++ runs_at at bytes) ≡ merged (ranges ++ nonzero_places at bytes)
unfolding merged runs_at
merged-append_runs ranges at bytes =
    joined-append_joined (λ gap. nat_lt 8 gap.len) (λ gap. nat_lt 0 gap.len) at ranges (nonzero_places at bytes) long_isn't_empty (rises_places at bytes)

pub merged-merged : (low : ℕ) (xs ys : List Run) → RisesFrom 0 low (xs ++ ys) → merged (merged xs ++ ys) ≡ merged (xs ++ ys)
unfolding merged
merged-merged low xs ys h = joined-joined (λ gap. nat_lt 8 gap.len) (λ gap. nat_lt 8 gap.len) low xs ys (λ gap e. e) h

pub rises_runs : (at : ℕ) (bytes : List ℕ) → RisesFrom 0 at (runs_at at bytes)
unfolding runs_at
rises_runs at bytes = rises-joined_alone 0 at (λ gap. nat_lt 0 gap.len) (nonzero_places at bytes) (rises_places at bytes)

-- the places of bytes with zeros between them
places-followed : (bytes : List ℕ) (at : ℕ) (more : List ℕ) → length bytes ≤ at
    → nonzero_places 0 (followed_at bytes at more) ≡ nonzero_places 0 bytes ++ nonzero_places at more
places-followed bytes at more h =
    let zeros : List ℕ = replicate (at - length bytes) 0 in
    places-append 0 at (bytes ++ zeros) more (omega (arith, length-append bytes zeros, length-replicate {A = ℕ}))
    ∙ ap (λ l. l ++ nonzero_places at more)
    (places-append 0 (length bytes) bytes zeros (omega arith)
    ∙ ap (λ l. nonzero_places 0 bytes ++ l) (places-zeros (length bytes) (at - length bytes))
    ∙ append-nil (nonzero_places 0 bytes))

pub finds_more : FindsMore
unfolding found_after found_in runs
finds_more bytes at more h =
    let places = places-followed bytes at more h in
    let rises : RisesFrom 0 0 (nonzero_places 0 bytes ++ nonzero_places at more) =
    subst (RisesFrom 0 0) places (rises_places 0 (followed_at bytes at more)) in
    let zeros : List ℕ = replicate (at - length bytes) 0 in
    let same : merged (merged (runs_at 0 bytes) ++ runs_at at more) ≡ merged (runs_at 0 (followed_at bytes at more)) =
    merged-append_runs (merged (runs_at 0 bytes)) at more
    ∙ ap (λ l. merged (l ++ nonzero_places at more)) (merged-runs 0 bytes)
    ∙ merged-merged 0 (nonzero_places 0 bytes) (nonzero_places at more) rises
    ∙ ap merged (sym places)
    ∙ sym (merged-runs 0 (followed_at bytes at more)) in
    let size : at + length more ≡ length (followed_at bytes at more) =
    omega (arith, length-append (bytes ++ zeros) more, length-append bytes zeros, length-replicate {A = ℕ}) in
    λ i. record { runs = same i; end = size i }

pub zeros_add_nothing : ZerosAddNothing
unfolding runs
zeros_add_nothing bytes count =
    merged-runs 0 (bytes ++ replicate count 0)
    ∙ ap merged
    (places-append 0 (length bytes) bytes (replicate count 0) (omega arith)
    ∙ ap (λ l. nonzero_places 0 bytes ++ l) (places-zeros (length bytes) count)
    ∙ append-nil (nonzero_places 0 bytes))
    ∙ sym (merged-runs 0 bytes)

pub choice_is_plan : ChoiceIsPlan
unfolding found_in plan runs
choice_is_plan bytes limit = chosen-merged 0 (runs_at 0 bytes) limit (rises_runs 0 bytes)
