use Rattle.std.proofs.Common.{◌∙◌, sym}
use Rattle.wz_machine.proofs.TickLemmas.{stack-goes, stack-gone}
use Rattle.wz_machine.proofs.tick.tick_top.Goals as goal

pub returns-then-is_over-clause-ticked : goal.returns-then-is_over-clause-ticked
returns-then-is_over-clause-ticked g c =
    stack-gone _ _ _ _ _ _ _ (rw c.in-Some.is at c.in_ok-tick.ensures.ticked) (sym c.is_over.ensures ∙ c.if-is_over.true) c.drop_top.ensures.stack

pub returns-clause-ticked : goal.returns-clause-ticked
returns-clause-ticked g c =
    stack-goes _ _ _ _ _ _ (rw c.in-Some.is at c.in_ok-tick.ensures.ticked) (sym c.is_over.ensures ∙ c.if-is_over.false)
