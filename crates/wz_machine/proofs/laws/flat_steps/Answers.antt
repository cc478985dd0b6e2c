use Rattle.wz_machine.proofs.FlatLemmas.{plain_step, local_step, opening_step}
use Rattle.wz_machine.proofs.laws.flat_steps.Goals as goal

pub returns-clause-plain : goal.returns-clause-plain
returns-clause-plain c = plain_step

pub returns-clause-local : goal.returns-clause-local
returns-clause-local c = local_step

pub returns-clause-opening : goal.returns-clause-opening
returns-clause-opening c = opening_step
