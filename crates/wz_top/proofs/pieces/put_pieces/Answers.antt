use Rattle.wz_top.proofs.SayingLemmas.{says_pieces, on_err}
use Rattle.wz_top.proofs.pieces.put_pieces.Goals as goal

pub returns-in_err-put_piece-clause-some : goal.returns-in_err-put_piece-clause-some
returns-in_err-put_piece-clause-some g c =
    on_err c.from_residual.result
    (says_pieces c.args.pieces.now c.loop-piece.piece-index _ (g.E.Sink.said c.args.messages.now) (g.E.Sink.said c.loop-piece.messages) (g.E.Sink.said c.put_piece.new.messages)
    c.loop-piece-test.true c.loop-piece.invariant c.in_err-put_piece.ensures.some)
