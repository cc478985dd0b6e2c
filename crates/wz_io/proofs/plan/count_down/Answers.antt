use Rattle.std.proofs.Common.{◌≡◌, ℕ, ◌+◌, ◌<◌, List, ◌++◌, length, take, drop, set, get_or, ap, ◌∙◌, arith}
use Rattle.std.specs.Prelude.{map}
use Rattle.std.proofs.lemmas.List.{get_or_default}
use Rattle.std.proofs.lemmas.List.Edits.{map_over_more}
use Rattle.wz_io.specs.Plan.{failure_after_call}
use Rattle.wz_io.specs.declared.plan.CallKind.{CallKind}
use Rattle.wz_io.specs.declared.plan.Failure.{Failure}
use Rattle.wz_io.proofs.plan.count_down.Goals as goal

failures_after_more : (kind : CallKind) (plan now : List Failure) (i : ℕ) (next default : Failure) →
    i < length plan → i < length now → now ≡ map (failure_after_call kind) (take i plan) ++ drop i plan →
    next ≡ failure_after_call kind (get_or now i default) →
    set now i next ≡ map (failure_after_call kind) (take (i + 1) plan) ++ drop (i + 1) plan
failures_after_more kind plan now i next default within within_now so_far is =
    ap (λ (x : Failure). set now i x) is
    ∙ map_over_more (failure_after_call kind) plan now i (get_or now i default) within so_far
    (get_or_default now i default (get_or now i default) within_now)

pub loop-failure-preserved : goal.loop-failure-preserved
loop-failure-preserved c =
    failures_after_more _ _ _ _ _ _ c.loop-failure-test.true (omega arith) c.loop-failure.invariant c.count_failure.ensures
