use Rattle.wz_machine.specs.TypedMachines.{HoldsTyped}
use Rattle.wz_top.proofs.tests.sessions.moves.observe.Given as goal

abbrev pub invariant-loop-number : goal.invariant-loop-number
invariant-loop-number g l = HoldsTyped l.machine
