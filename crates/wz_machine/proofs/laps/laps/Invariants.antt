use Rattle.std.proofs.Common.{length}
use Rattle.wz_machine.specs.Kept.{entry_of}
use Rattle.wz_machine.specs.PlainSteps.{site}
use Rattle.wz_machine.proofs.LapLemmas.{IsLap}
use Rattle.wz_machine.proofs.laps.laps.Given as goal

abbrev pub invariant-loop-first : goal.invariant-loop-first
invariant-loop-first g l =
    IsLap (entry_of l.top) l.limit l.left l.code l.have l.now (length l.own) (site l.initial.locals l.initial.own l.initial.store) (site l.locals l.own l.store)

abbrev pub decreases-loop-first : goal.decreases-loop-first
decreases-loop-first g l = l.left
