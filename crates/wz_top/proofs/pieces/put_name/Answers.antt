use Rattle.std.proofs.Common.{[], ◌∷◌, ◌++◌}
use Rattle.wz_top.proofs.SayingLemmas.{says_front, says_less, on_err, on_err_as}
use Rattle.wz_top.proofs.pieces.put_name.Goals as goal

pub returns-in_err-put_words-2-clause-some : goal.returns-in_err-put_words-2-clause-some
returns-in_err-put_words-2-clause-some g c =
    let name = c.args.name.now in
    let before = g.E.Sink.said c.args.messages.now in
    let opened = g.E.Sink.said c.put_words.new.messages in
    let now = g.E.Sink.said c.put_words-2.new.messages in
    on_err c.from_residual-in_err-put_words-2.result
    (says_front (34 ∷ []) (name ++ 34 ∷ []) before opened now c.in_ok-put_words.ensures.all (says_less name (34 ∷ []) opened now c.in_err-put_words-2.ensures.some))

pub returns-clause-some : goal.returns-clause-some
returns-clause-some g c =
    let name = c.args.name.now in
    let before = g.E.Sink.said c.args.messages.now in
    let opened = g.E.Sink.said c.put_words.new.messages in
    let named = g.E.Sink.said c.put_words-2.new.messages in
    let now = g.E.Sink.said c.put_words-3.new.messages in
    on_err_as c.put_words-3.result
    (λ some. says_front (34 ∷ []) (name ++ 34 ∷ []) before opened now c.in_ok-put_words.ensures.all (says_front name (34 ∷ []) opened named now c.in_ok-put_words-2.ensures.all some))
    c.put_words-3.ensures.some
