use Rattle.std.proofs.Common.{◌-◌, length}
use Rattle.wz_top.proofs.SayingLemmas.{HasSaid}
use Rattle.wz_top.proofs.pieces.put_all.Given as goal

abbrev pub invariant-loop-at : goal.invariant-loop-at
invariant-loop-at g l = HasSaid l.bytes l.at (g.E.Sink.said l.fn.messages) (g.E.Sink.said l.messages)

abbrev pub decreases-loop-at : goal.decreases-loop-at
decreases-loop-at g l = length l.bytes - l.at
