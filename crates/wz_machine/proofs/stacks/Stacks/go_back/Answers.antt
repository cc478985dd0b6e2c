use Rattle.std.proofs.Common.{◌∙◌, ℕ, ap, sym, subst}
use Rattle.wz_machine.specs.Outcomes.{Answer}
use Rattle.wz_machine.specs.Landing.{landing}
use Rattle.wz_machine.specs.Turns.{Turned, own_of}
use Rattle.wz_machine.proofs.StepLemmas.{back-lands}
use Rattle.wz_machine.proofs.stacks.Stacks.go_back.Goals as goal

pub returns : goal.returns
returns c = λ st reduct.
    subst (λ (a : Answer). Turned a c.args.self.now c.branch-self.result c.branch-self.new.self)
    (sym (back-lands st c.args.self.now c.args.have c.innermost-top.ensures.stacked reduct
    ∙ ap (λ (n : ℕ). landing n c.args.self.now.top c.args.self.now.outer c.args.self.now.values (own_of c.args.self.now c.args.have)) (sym c.innermost-top.ensures.depth)))
    c.branch-self.ensures
