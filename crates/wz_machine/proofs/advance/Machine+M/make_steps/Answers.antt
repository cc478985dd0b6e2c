use Rattle.wz_machine.proofs.AdvanceLemmas.{on_err}
use Rattle.wz_machine.proofs.advance.Machine+M.make_steps.Goals as goal

pub returns-in_err-entered-clause-refused : goal.returns-in_err-entered-clause-refused
returns-in_err-entered-clause-refused g c = on_err c.from_residual.result (rw (← c.self.view_is) c.in_err-entered.ensures.refused)
