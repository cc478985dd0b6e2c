use Rattle.std.proofs.Common.{ℕ, List, subst}
use Rattle.std.specs.Prelude.{Option, OnOk, OnErr, codes}
use Rattle.wz_code.specs.Numeric.{opcode_of}
use Rattle.wz_top.specs.Saying.{SaysAll, SaysFirst}
use Rattle.wz_top.specs.Texts.{opcode_words}
use Rattle.wz_top.proofs.SayingLemmas.{says_both, says_front, says_less, on_err, on_err_as, on_ok_as}
use Rattle.wz_top.proofs.texts.put_float.Goals as goal

abbrev front : List ℕ
front = codes "the initialisation uses the float operation "

pub returns-in_err-put_words-clause-some : goal.returns-in_err-put_words-clause-some
returns-in_err-put_words-clause-some g c =
    on_err c.from_residual.result
    (says_less front (opcode_words (opcode_of c.args.op)) (g.E.Sink.said c.args.messages.now) (g.E.Sink.said c.put_words.new.messages) c.in_err-put_words.ensures.some)

pub returns-clause-all : goal.returns-clause-all
returns-clause-all g c =
    let words = opcode_words (opcode_of c.args.op) in
    let before = g.E.Sink.said c.args.messages.now in
    let mid = g.E.Sink.said c.put_words.new.messages in
    let now = g.E.Sink.said c.put_opcode.new.messages in
    on_ok_as c.put_opcode.result (λ said. says_both front words before mid now c.in_ok-put_words.ensures.all said)
    (subst (λ (w : ℕ × Option ℕ). OnOk c.put_opcode.result (SaysAll (opcode_words w) mid now)) c.opcode-byte.ensures c.put_opcode.ensures.all)

pub returns-clause-some : goal.returns-clause-some
returns-clause-some g c =
    let words = opcode_words (opcode_of c.args.op) in
    let before = g.E.Sink.said c.args.messages.now in
    let mid = g.E.Sink.said c.put_words.new.messages in
    let now = g.E.Sink.said c.put_opcode.new.messages in
    on_err_as c.put_opcode.result (λ said. says_front front words before mid now c.in_ok-put_words.ensures.all said)
    (subst (λ (w : ℕ × Option ℕ). OnErr c.put_opcode.result (SaysFirst (opcode_words w) mid now)) c.opcode-byte.ensures c.put_opcode.ensures.some)
