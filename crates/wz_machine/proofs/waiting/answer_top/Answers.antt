use Rattle.std.proofs.Common.{reverse, refl}
use Rattle.std.proofs.lemmas.Result.{on_ok_weaker}
use Rattle.wz_machine.proofs.StandingLemmas.{answered_last}
use Rattle.wz_machine.proofs.waiting.answer_top.Goals as goal

pub returns-in-Some-clause-answered : goal.returns-in-Some-clause-answered
returns-in-Some-clause-answered c =
    let vec = c.args.standings.now in
    on_ok_weaker c.answer.result
    (answered_last vec.items vec.len c.in-Some.top.now c.answer.new.self (reverse c.args.values.now) vec.ok.0 (c.in-Some.ensures.variant.0 refl) c.in-Some.ensures.value c.requires)
    c.answer.ensures.answered
