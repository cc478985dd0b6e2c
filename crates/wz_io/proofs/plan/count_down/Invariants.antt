use Rattle.std.proofs.Common.{◌≡◌, ◌++◌, take, drop}
use Rattle.std.specs.Prelude.{map}
use Rattle.wz_io.specs.Plan.{failure_after_call}
use Rattle.wz_io.proofs.plan.count_down.Given as goal

abbrev pub invariant-loop-failure : goal.invariant-loop-failure
invariant-loop-failure l =
    l.plan ≡ map (failure_after_call l.kind) (take l.failure-index l.fn.plan) ++ drop l.failure-index l.fn.plan
