use Rattle.wz_machine.proofs.StuckSessions.{move_keeps_typing, typed_is_not_stuck, never_stuck}
use Rattle.wz_machine.proofs.laws.never_stuck.Goals as goal

pub returns-clause-moves : goal.returns-clause-moves
returns-clause-moves c = move_keeps_typing c.operands_are_served.ensures

pub returns-clause-steps : goal.returns-clause-steps
returns-clause-steps c = typed_is_not_stuck c.operands_are_served.ensures

pub returns-clause-sessions : goal.returns-clause-sessions
returns-clause-sessions c = never_stuck c.operands_are_served.ensures
