use Rattle.std.proofs.Common.{length}
use Rattle.wz_machine.specs.PlainSteps.{site}
use Rattle.wz_machine.proofs.StraightLemmas.{IsRunning}
use Rattle.wz_machine.proofs.straight.straight.Given as goal

abbrev pub invariant-loop-instr : goal.invariant-loop-instr
invariant-loop-instr g l =
    IsRunning l.body l.code l.rest l.limit l.started l.have l.now (length l.initial.own) (site l.initial.locals l.initial.own l.initial.store) (site l.locals l.own l.store)

abbrev pub decreases-loop-instr : goal.decreases-loop-instr
decreases-loop-instr g l = length l.rest
