use Rattle.std.proofs.Common.{ℕ, subst}
use Rattle.std.specs.Prelude.{OnOk, OnErr}
use Rattle.wz_top.specs.Saying.{SaysAll, SaysFirst}
use Rattle.wz_top.specs.Texts.{large_table_words}
use Rattle.wz_top.proofs.texts.put_large_table.Goals as goal

pub returns-clause-all : goal.returns-clause-all
returns-clause-all g c =
    subst (λ (n : ℕ). OnOk c.put_pieces.result (SaysAll (large_table_words n c.args.entries) (g.E.Sink.said c.args.messages.now) (g.E.Sink.said c.put_pieces.new.messages)))
    c.from.ensures c.put_pieces.ensures.all

pub returns-clause-some : goal.returns-clause-some
returns-clause-some g c =
    subst (λ (n : ℕ). OnErr c.put_pieces.result (SaysFirst (large_table_words n c.args.entries) (g.E.Sink.said c.args.messages.now) (g.E.Sink.said c.put_pieces.new.messages)))
    c.from.ensures c.put_pieces.ensures.some
