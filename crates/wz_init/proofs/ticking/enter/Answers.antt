use Rattle.wz_init.proofs.ticking.enter.Goals as goal

pub returns-in-Ok-clause-typed : goal.returns-in-Ok-clause-typed
returns-in-Ok-clause-typed g c = c.enter.ensures.typed c.requires.typed
