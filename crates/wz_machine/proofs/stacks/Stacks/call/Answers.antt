use Rattle.std.proofs.Common.{refl, sym, subst}
use Rattle.wz_machine.specs.State.{state_of}
use Rattle.wz_machine.specs.Stacks.{StackParts, IsStacked}
use Rattle.wz_machine.proofs.AskLemmas.{missing_called}
use Rattle.wz_machine.proofs.stacks.Stacks.call.Goals as goal

pub returns-in-None-clause-turned : goal.returns-in-None-clause-turned
returns-in-None-clause-turned g c =
    let stacked : IsStacked c.args.self.now = subst (λ (s : StackParts). IsStacked s) c.self.view_is c.self.invariant.stacked in
    (missing_called (state_of c.args.bodies.now c.args.store.now) c.args.self.now c.args.function c.args.rest.now stacked c.requires (sym c.in-None.ensures), refl)
