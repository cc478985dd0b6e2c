use Rattle.std.proofs.Common.{subst, sym}
use Rattle.std.specs.Prelude.{OnErr}
use Rattle.wz_words.specs.declared.settings.Usage.{Usage}
use Rattle.wz_top.specs.Saying.{SaysFirst}
use Rattle.wz_top.specs.Texts.{usage_words}
use Rattle.wz_top.proofs.texts.put_usage.Goals as goal

pub returns-in-RenamesTooLong-clause-some : goal.returns-in-RenamesTooLong-clause-some
returns-in-RenamesTooLong-clause-some g c =
    subst (λ (u : Usage). OnErr c.put_numbered-in-RenamesTooLong.result
    (SaysFirst (usage_words u) (g.E.Sink.said c.args.messages.now) (g.E.Sink.said c.put_numbered-in-RenamesTooLong.new.messages)))
    (sym c.in-RenamesTooLong.is) c.put_numbered-in-RenamesTooLong.ensures.some
