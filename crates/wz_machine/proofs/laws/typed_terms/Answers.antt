use Rattle.wz_machine.proofs.StuckLeaves.{step_keeps_typing}
use Rattle.wz_machine.proofs.StuckSessions.{entry_is_typed, content_never_sticks}
use Rattle.wz_machine.proofs.laws.typed_terms.Goals as goal

pub returns-clause-entries : goal.returns-clause-entries
returns-clause-entries c = entry_is_typed c.operands_are_served.ensures

pub returns-clause-steps : goal.returns-clause-steps
returns-clause-steps c = step_keeps_typing c.operands_are_served.ensures

pub returns-clause-contents : goal.returns-clause-contents
returns-clause-contents c = content_never_sticks c.operands_are_served.ensures
