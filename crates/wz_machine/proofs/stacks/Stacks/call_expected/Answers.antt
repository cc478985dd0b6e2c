use Rattle.std.proofs.Common.{Option, Some, option_map, refl, ap, sym, ◌∙◌, subst}
use Rattle.wz_types.specs.declared.trap.TrapKind.TheVariants as trap
use Rattle.wz_machine.specs.CallSteps.{expected_call}
use Rattle.wz_machine.specs.Stacks.{StackParts, IsStacked}
use Rattle.wz_machine.specs.Turns.{own_of}
use Rattle.wz_machine.specs.Callees.{callable_in}
use Rattle.wz_machine.specs.declared.callee.Callee.{Callee}
use Rattle.wz_machine.proofs.IndirectLemmas.{outcome_stuck, outcome_traps, expected_other}
use Rattle.wz_machine.proofs.stacks.Stacks.call_expected.Goals as goal

pub returns-in_default-clause-turned : goal.returns-in_default-clause-turned
returns-in_default-clause-turned c =
    let stacked : IsStacked c.args.self.now = subst (λ (t : StackParts). IsStacked t) c.self.view_is c.self.invariant.stacked in
    λ st comes. (outcome_stuck c.args.self.now c.args.rest.now _ stacked (ap (λ (found : Option Callee). expected_call c.args.kind.now (option_map (λ (callee : Callee). callable_in callee) found) (own_of c.args.self.now c.args.have)) c.in_default.is) st comes, refl)

pub returns-then-not-same_function_type-clause-turned : goal.returns-then-not-same_function_type-clause-turned
returns-then-not-same_function_type-clause-turned c =
    let stacked : IsStacked c.args.self.now = subst (λ (t : StackParts). IsStacked t) c.self.view_is c.self.invariant.stacked in
    λ st comes. (
      outcome_traps c.args.self.now c.args.rest.now _ trap.IndirectType stacked
          (ap (λ (found : Option Callee). expected_call c.args.kind.now (option_map (λ (callee : Callee). callable_in callee) found) (own_of c.args.self.now c.args.have)) c.in-Some.is
          ∙ expected_other (callable_in c.in-Some.callee) c.args.kind.now (Some (callable_in c.in-Some.callee)) (own_of c.args.self.now c.args.have) refl
          (sym c.if-not-same_function_type.ensures)) st comes,
      refl,
    )
