use Rattle.std.proofs.Common.{ap, subst}
use Rattle.wz_machine.specs.Stacks.{StackParts, IsStacked}
use Rattle.wz_machine.specs.Opening.{stepped}
use Rattle.wz_machine.proofs.KeptLemmas.{kept-as, values-kept, within-kept}
use Rattle.wz_machine.proofs.CallLemmas.{stepped-stacked}
use Rattle.wz_machine.proofs.stacks.Stacks.step_over.Goals as goal

pub invariant_of-self : goal.invariant_of-self
invariant_of-self c =
    let stacked : IsStacked c.args.self.now = subst (λ (s : StackParts). IsStacked s) c.self.view_is c.self.invariant.stacked in
    kept-as (stepped c.args.self.now c.args.rest.now c.args.have) _ _ _ _
    (stepped-stacked _ _ _ c.requires.values c.requires.own stacked)
    (ap (λ (s : StackParts). record s.top { rest = c.args.rest.now }) c.self.view_is)
    (ap (λ (s : StackParts). s.outer) c.self.view_is)
    (values-kept c.self.inside _ _ c.self.view_is c.self.invariant.used c.requires.values)
    (within-kept c.self.inside _ _ c.self.view_is c.self.invariant.used c.requires.values)
