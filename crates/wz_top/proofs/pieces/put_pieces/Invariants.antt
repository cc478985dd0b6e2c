use Rattle.std.proofs.Common.{take}
use Rattle.wz_top.specs.Pieces.{words_of_pieces}
use Rattle.wz_top.specs.Saying.{SaysAll}
use Rattle.wz_top.proofs.pieces.put_pieces.Given as goal

abbrev pub invariant-loop-piece : goal.invariant-loop-piece
invariant-loop-piece g l = SaysAll (words_of_pieces (take l.piece-index l.pieces)) (g.E.Sink.said l.fn.messages) (g.E.Sink.said l.messages)
