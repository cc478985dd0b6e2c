use Rattle.wz_machine.proofs.MoveLemmas.{observes_same}
use Rattle.wz_machine.proofs.ReadLemmas.{leaf_same, step_same}
use Rattle.wz_machine.proofs.laws.more_segments_are_not_seen.Goals as goal

pub returns-clause-leaf : goal.returns-clause-leaf
returns-clause-leaf c = leaf_same

pub returns-clause-step : goal.returns-clause-step
returns-clause-step c = step_same

pub returns-clause-session : goal.returns-clause-session
returns-clause-session c = observes_same
