use Rattle.std.proofs.Common.{subst, sym}
use Rattle.std.specs.Prelude.{OnOk, OnErr}
use Rattle.wz_init.specs.declared.faults.InitFault.{InitFault}
use Rattle.wz_top.specs.Saying.{SaysAll, SaysFirst}
use Rattle.wz_top.specs.Texts.{init_words}
use Rattle.wz_top.proofs.texts.put_init.Goals as goal

pub returns-in-ElementOutOfBounds-clause-all : goal.returns-in-ElementOutOfBounds-clause-all
returns-in-ElementOutOfBounds-clause-all g c =
    subst (λ (f : InitFault). OnOk c.put_numbered.result (SaysAll (init_words f) (g.E.Sink.said c.args.messages.now) (g.E.Sink.said c.put_numbered.new.messages)))
    (sym c.in-ElementOutOfBounds.is) c.put_numbered.ensures.all

pub returns-in-ElementOutOfBounds-clause-some : goal.returns-in-ElementOutOfBounds-clause-some
returns-in-ElementOutOfBounds-clause-some g c =
    subst (λ (f : InitFault). OnErr c.put_numbered.result (SaysFirst (init_words f) (g.E.Sink.said c.args.messages.now) (g.E.Sink.said c.put_numbered.new.messages)))
    (sym c.in-ElementOutOfBounds.is) c.put_numbered.ensures.some

pub returns-in-DataOutOfBounds-clause-all : goal.returns-in-DataOutOfBounds-clause-all
returns-in-DataOutOfBounds-clause-all g c =
    subst (λ (f : InitFault). OnOk c.put_numbered-in-DataOutOfBounds.result (SaysAll (init_words f) (g.E.Sink.said c.args.messages.now) (g.E.Sink.said c.put_numbered-in-DataOutOfBounds.new.messages)))
    (sym c.in-DataOutOfBounds.is) c.put_numbered-in-DataOutOfBounds.ensures.all

pub returns-in-DataOutOfBounds-clause-some : goal.returns-in-DataOutOfBounds-clause-some
returns-in-DataOutOfBounds-clause-some g c =
    subst (λ (f : InitFault). OnErr c.put_numbered-in-DataOutOfBounds.result (SaysFirst (init_words f) (g.E.Sink.said c.args.messages.now) (g.E.Sink.said c.put_numbered-in-DataOutOfBounds.new.messages)))
    (sym c.in-DataOutOfBounds.is) c.put_numbered-in-DataOutOfBounds.ensures.some

pub returns-in-OutOfFuel-clause-all : goal.returns-in-OutOfFuel-clause-all
returns-in-OutOfFuel-clause-all g c =
    subst (λ (f : InitFault). OnOk c.put_words.result (SaysAll (init_words f) (g.E.Sink.said c.args.messages.now) (g.E.Sink.said c.put_words.new.messages)))
    (sym c.in-OutOfFuel.is) c.put_words.ensures.all

pub returns-in-OutOfFuel-clause-some : goal.returns-in-OutOfFuel-clause-some
returns-in-OutOfFuel-clause-some g c =
    subst (λ (f : InitFault). OnErr c.put_words.result (SaysFirst (init_words f) (g.E.Sink.said c.args.messages.now) (g.E.Sink.said c.put_words.new.messages)))
    (sym c.in-OutOfFuel.is) c.put_words.ensures.some

pub returns-in-ImportCalled-clause-all : goal.returns-in-ImportCalled-clause-all
returns-in-ImportCalled-clause-all g c =
    subst (λ (f : InitFault). OnOk c.put_numbered-in-ImportCalled.result (SaysAll (init_words f) (g.E.Sink.said c.args.messages.now) (g.E.Sink.said c.put_numbered-in-ImportCalled.new.messages)))
    (sym c.in-ImportCalled.is) c.put_numbered-in-ImportCalled.ensures.all

pub returns-in-ImportCalled-clause-some : goal.returns-in-ImportCalled-clause-some
returns-in-ImportCalled-clause-some g c =
    subst (λ (f : InitFault). OnErr c.put_numbered-in-ImportCalled.result (SaysFirst (init_words f) (g.E.Sink.said c.args.messages.now) (g.E.Sink.said c.put_numbered-in-ImportCalled.new.messages)))
    (sym c.in-ImportCalled.is) c.put_numbered-in-ImportCalled.ensures.some

pub returns-in-TableChanged-clause-all : goal.returns-in-TableChanged-clause-all
returns-in-TableChanged-clause-all g c =
    subst (λ (f : InitFault). OnOk c.put_words-in-TableChanged.result (SaysAll (init_words f) (g.E.Sink.said c.args.messages.now) (g.E.Sink.said c.put_words-in-TableChanged.new.messages)))
    (sym c.in-TableChanged.is) c.put_words-in-TableChanged.ensures.all

pub returns-in-TableChanged-clause-some : goal.returns-in-TableChanged-clause-some
returns-in-TableChanged-clause-some g c =
    subst (λ (f : InitFault). OnErr c.put_words-in-TableChanged.result (SaysFirst (init_words f) (g.E.Sink.said c.args.messages.now) (g.E.Sink.said c.put_words-in-TableChanged.new.messages)))
    (sym c.in-TableChanged.is) c.put_words-in-TableChanged.ensures.some

pub returns-in-TooManyFrames-clause-all : goal.returns-in-TooManyFrames-clause-all
returns-in-TooManyFrames-clause-all g c =
    subst (λ (f : InitFault). OnOk c.put_words-in-TooManyFrames.result (SaysAll (init_words f) (g.E.Sink.said c.args.messages.now) (g.E.Sink.said c.put_words-in-TooManyFrames.new.messages)))
    (sym c.in-TooManyFrames.is) c.put_words-in-TooManyFrames.ensures.all

pub returns-in-TooManyFrames-clause-some : goal.returns-in-TooManyFrames-clause-some
returns-in-TooManyFrames-clause-some g c =
    subst (λ (f : InitFault). OnErr c.put_words-in-TooManyFrames.result (SaysFirst (init_words f) (g.E.Sink.said c.args.messages.now) (g.E.Sink.said c.put_words-in-TooManyFrames.new.messages)))
    (sym c.in-TooManyFrames.is) c.put_words-in-TooManyFrames.ensures.some

pub returns-in-TooManyFrameLocals-clause-all : goal.returns-in-TooManyFrameLocals-clause-all
returns-in-TooManyFrameLocals-clause-all g c =
    subst (λ (f : InitFault). OnOk c.put_words-in-TooManyFrameLocals.result (SaysAll (init_words f) (g.E.Sink.said c.args.messages.now) (g.E.Sink.said c.put_words-in-TooManyFrameLocals.new.messages)))
    (sym c.in-TooManyFrameLocals.is) c.put_words-in-TooManyFrameLocals.ensures.all

pub returns-in-TooManyFrameLocals-clause-some : goal.returns-in-TooManyFrameLocals-clause-some
returns-in-TooManyFrameLocals-clause-some g c =
    subst (λ (f : InitFault). OnErr c.put_words-in-TooManyFrameLocals.result (SaysFirst (init_words f) (g.E.Sink.said c.args.messages.now) (g.E.Sink.said c.put_words-in-TooManyFrameLocals.new.messages)))
    (sym c.in-TooManyFrameLocals.is) c.put_words-in-TooManyFrameLocals.ensures.some

pub returns-in-NoMemory-clause-all : goal.returns-in-NoMemory-clause-all
returns-in-NoMemory-clause-all g c =
    subst (λ (f : InitFault). OnOk c.put_words-in-NoMemory.result (SaysAll (init_words f) (g.E.Sink.said c.args.messages.now) (g.E.Sink.said c.put_words-in-NoMemory.new.messages)))
    (sym c.in-NoMemory.is) c.put_words-in-NoMemory.ensures.all

pub returns-in-NoMemory-clause-some : goal.returns-in-NoMemory-clause-some
returns-in-NoMemory-clause-some g c =
    subst (λ (f : InitFault). OnErr c.put_words-in-NoMemory.result (SaysFirst (init_words f) (g.E.Sink.said c.args.messages.now) (g.E.Sink.said c.put_words-in-NoMemory.new.messages)))
    (sym c.in-NoMemory.is) c.put_words-in-NoMemory.ensures.some

pub returns-in-Trap-clause-all : goal.returns-in-Trap-clause-all
returns-in-Trap-clause-all g c =
    subst (λ (f : InitFault). OnOk c.put_trapped.result (SaysAll (init_words f) (g.E.Sink.said c.args.messages.now) (g.E.Sink.said c.put_trapped.new.messages)))
    (sym c.in-Trap.is) c.put_trapped.ensures.all

pub returns-in-Trap-clause-some : goal.returns-in-Trap-clause-some
returns-in-Trap-clause-some g c =
    subst (λ (f : InitFault). OnErr c.put_trapped.result (SaysFirst (init_words f) (g.E.Sink.said c.args.messages.now) (g.E.Sink.said c.put_trapped.new.messages)))
    (sym c.in-Trap.is) c.put_trapped.ensures.some

pub returns-in-FloatUsed-clause-all : goal.returns-in-FloatUsed-clause-all
returns-in-FloatUsed-clause-all g c =
    subst (λ (f : InitFault). OnOk c.put_float.result (SaysAll (init_words f) (g.E.Sink.said c.args.messages.now) (g.E.Sink.said c.put_float.new.messages)))
    (sym c.in-FloatUsed.is) c.put_float.ensures.all

pub returns-in-FloatUsed-clause-some : goal.returns-in-FloatUsed-clause-some
returns-in-FloatUsed-clause-some g c =
    subst (λ (f : InitFault). OnErr c.put_float.result (SaysFirst (init_words f) (g.E.Sink.said c.args.messages.now) (g.E.Sink.said c.put_float.new.messages)))
    (sym c.in-FloatUsed.is) c.put_float.ensures.some
