use Rattle.std.proofs.Common.{Option, Some, refl, ap, ◌∙◌, subst}
use Rattle.wz_types.specs.declared.value.Reference.{Reference}
use Rattle.wz_types.specs.declared.trap.TrapKind.TheVariants as trap
use Rattle.wz_machine.specs.State.{state_of}
use Rattle.wz_machine.specs.CallSteps.{entry_call}
use Rattle.wz_machine.specs.Stacks.{StackParts, IsStacked}
use Rattle.wz_machine.specs.Turns.{own_of}
use Rattle.wz_machine.proofs.IndirectLemmas.{outcome_traps}
use Rattle.wz_machine.proofs.stacks.Stacks.call_entry.Goals as goal

pub returns-in_default-clause-turned : goal.returns-in_default-clause-turned
returns-in_default-clause-turned g c =
    let stacked : IsStacked c.args.self.now = subst (λ (t : StackParts). IsStacked t) c.self.view_is c.self.invariant.stacked in
    λ st comes. (outcome_traps c.args.self.now c.args.rest.now _ trap.UndefinedElement stacked (ap (λ (entry : Option Reference). entry_call c.args.store.now.types (state_of c.args.bodies.now c.args.store.now).functions c.args.kind.now entry (own_of c.args.self.now c.args.have)) c.in_default.is) st comes, refl)

pub returns-in-Null-clause-turned : goal.returns-in-Null-clause-turned
returns-in-Null-clause-turned g c =
    let stacked : IsStacked c.args.self.now = subst (λ (t : StackParts). IsStacked t) c.self.view_is c.self.invariant.stacked in
    λ st comes. (
      outcome_traps c.args.self.now c.args.rest.now _ trap.UninitializedElement stacked
          (ap (λ (entry : Option Reference). entry_call c.args.store.now.types (state_of c.args.bodies.now c.args.store.now).functions c.args.kind.now entry (own_of c.args.self.now c.args.have)) (c.in-Some.is ∙ ap (λ (r : Reference). Some r) c.in-Null.is)) st comes,
      refl,
    )
