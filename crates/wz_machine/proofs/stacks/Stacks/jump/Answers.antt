use Rattle.std.proofs.Common.{refl, sym, subst, arith}
use Rattle.wz_machine.specs.Outcomes.{Answer}
use Rattle.wz_machine.specs.Turns.{Turned}
use Rattle.wz_machine.proofs.StepLemmas.{jump-lands, jump-stuck}
use Rattle.wz_machine.proofs.stacks.Stacks.jump.Goals as goal

pub returns-then-label-top : goal.returns-then-label-top
returns-then-label-top c = λ st reduct.
    (jump-stuck st c.args.self.now c.args.label c.args.have c.innermost-top.ensures.stacked (omega arith) reduct, refl)

pub returns : goal.returns
returns c = λ st reduct.
    subst (λ (a : Answer). Turned a c.args.self.now c.branch-self.result c.branch-self.new.self)
    (sym (jump-lands st c.args.self.now c.args.label c.args.have c.innermost-top.ensures.stacked (omega arith) reduct)) c.branch-self.ensures
