use Rattle.std.proofs.Common.{◌≡◌, length}
use Rattle.wz_types.specs.SameType.{same_types}
use Rattle.wz_machine.proofs.indirect.same_types.Given as goal

abbrev pub invariant-loop-one : goal.invariant-loop-one
invariant-loop-one l = same_types l.one l.other ≡ same_types l.initial.one l.initial.other

abbrev pub decreases-loop-one : goal.decreases-loop-one
decreases-loop-one l = length l.one
