use Rattle.std.proofs.Common.{drop}
use Rattle.wz_machine.proofs.RoomLemmas.{PutSoFar}
use Rattle.wz_machine.proofs.room.put_locals.Given as goal

abbrev pub invariant-loop-run : goal.invariant-loop-run
invariant-loop-run l = PutSoFar l.have l.runs l.initial.values.items (drop l.run-index l.runs) l.now l.values.items
