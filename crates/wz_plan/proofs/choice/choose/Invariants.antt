use Rattle.std.proofs.Common.{◌≡◌, take}
use Rattle.wz_plan.specs.Ranges.{with_gaps_merged}
use Rattle.wz_plan.specs.Collected.{cuts_gap}
use Rattle.wz_plan.proofs.choice.choose.Given as goal

abbrev pub invariant-loop-run : goal.invariant-loop-run
invariant-loop-run l = l.ranges.items ≡ with_gaps_merged (cuts_gap l.cuts) (take l.run-index l.runs)
