use Rattle.wz_machine.specs.TypedMachines.{HoldsTyped}
use Rattle.wz_top.proofs.tests.sessions.moves.make_ticks.Given as goal

abbrev pub invariant-loop : goal.invariant-loop
invariant-loop l = HoldsTyped l.machine
