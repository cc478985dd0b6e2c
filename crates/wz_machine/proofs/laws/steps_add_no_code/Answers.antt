use Rattle.wz_machine.proofs.LeafLemmas.{step_adds_none, step_names}
use Rattle.wz_machine.proofs.laws.steps_add_no_code.Goals as goal

pub returns-clause-code : goal.returns-clause-code
returns-clause-code c = step_adds_none

pub returns-clause-segments : goal.returns-clause-segments
returns-clause-segments c = step_names
