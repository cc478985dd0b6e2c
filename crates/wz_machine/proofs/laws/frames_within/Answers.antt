use Rattle.wz_machine.proofs.ContextLemmas.{frames_within, locals_within}
use Rattle.wz_machine.proofs.laws.frames_within.Goals as goal

pub returns-clause-frames : goal.returns-clause-frames
returns-clause-frames c = frames_within

pub returns-clause-locals : goal.returns-clause-locals
returns-clause-locals c = locals_within
