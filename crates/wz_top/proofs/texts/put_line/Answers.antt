use Rattle.std.proofs.Common.{[], ◌∷◌, ◌++◌}
use Rattle.std.specs.Prelude.{codes}
use Rattle.wz_top.specs.Texts.{outcome_words}
use Rattle.wz_top.proofs.SayingLemmas.{says_front, says_less, on_err, on_err_as}
use Rattle.wz_top.proofs.texts.put_line.Goals as goal

pub returns-in_err-put_words-clause-some : goal.returns-in_err-put_words-clause-some
returns-in_err-put_words-clause-some g c =
    on_err c.from_residual.result
    (says_less (codes "wizer: ") (outcome_words c.args.outcome.now ++ 10 ∷ []) (g.E.Sink.said c.args.messages.now) (g.E.Sink.said c.put_words.new.messages) c.in_err-put_words.ensures.some)

pub returns-in_err-put_outcome-clause-some : goal.returns-in_err-put_outcome-clause-some
returns-in_err-put_outcome-clause-some g c =
    let words = outcome_words c.args.outcome.now in
    let before = g.E.Sink.said c.args.messages.now in
    let named = g.E.Sink.said c.put_words.new.messages in
    let now = g.E.Sink.said c.put_outcome.new.messages in
    on_err c.from_residual-in_err-put_outcome.result
    (says_front (codes "wizer: ") (words ++ 10 ∷ []) before named now c.in_ok-put_words.ensures.all (says_less words (10 ∷ []) named now c.in_err-put_outcome.ensures.some))

pub returns-clause-some : goal.returns-clause-some
returns-clause-some g c =
    let words = outcome_words c.args.outcome.now in
    let before = g.E.Sink.said c.args.messages.now in
    let named = g.E.Sink.said c.put_words.new.messages in
    let told = g.E.Sink.said c.put_outcome.new.messages in
    let now = g.E.Sink.said c.put_words-2.new.messages in
    on_err_as c.put_words-2.result
    (λ some. says_front (codes "wizer: ") (words ++ 10 ∷ []) before named now c.in_ok-put_words.ensures.all (says_front words (10 ∷ []) named told now c.in_ok-put_outcome.ensures.all some))
    c.put_words-2.ensures.some
