use Rattle.wz_machine.proofs.ChangeLemmas.{change_keeps, change_reaches_state}
use Rattle.wz_machine.proofs.laws.steps_write.Goals as goal

pub returns-clause-kept : goal.returns-clause-kept
returns-clause-kept c = change_keeps

pub returns-clause-store : goal.returns-clause-store
returns-clause-store c = change_reaches_state
