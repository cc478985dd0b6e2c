use Rattle.std.proofs.Common.{◌≡◌, ◌-◌, ◌++◌, drop}
use Rattle.wz_plan.specs.Ranges.{gaps}
use Rattle.wz_plan.proofs.choice.gaps_of.Given as goal

abbrev pub invariant-loop-i : goal.invariant-loop-i
invariant-loop-i l = l.found.items ++ gaps (drop (l.i - 1) l.runs) ≡ gaps l.runs
