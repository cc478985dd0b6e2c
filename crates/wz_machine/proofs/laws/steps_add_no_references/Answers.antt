use Rattle.wz_machine.proofs.ReferenceLemmas.{step_adds_no_reference, change_adds_no_reference, entry_adds_no_reference, put_adds_no_reference, own_pass}
use Rattle.wz_machine.proofs.laws.steps_add_no_references.Goals as goal

pub returns-clause-steps : goal.returns-clause-steps
returns-clause-steps c = step_adds_no_reference

pub returns-clause-changes : goal.returns-clause-changes
returns-clause-changes c = change_adds_no_reference

pub returns-clause-entries : goal.returns-clause-entries
returns-clause-entries c = entry_adds_no_reference

pub returns-clause-answers : goal.returns-clause-answers
returns-clause-answers c = put_adds_no_reference

pub returns-clause-own : goal.returns-clause-own
returns-clause-own c = own_pass
