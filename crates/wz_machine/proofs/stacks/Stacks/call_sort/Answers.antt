use Rattle.std.proofs.Common.{Option, refl, ap, sym, ◌∙◌, subst}
use Rattle.wz_types.specs.declared.value.Sort.{Sort}
use Rattle.wz_types.specs.declared.trap.TrapKind.TheVariants as trap
use Rattle.wz_types.specs.FunctionType.{FunctionType}
use Rattle.wz_machine.specs.CallSteps.{host_call, foreign_call, sort_call}
use Rattle.wz_machine.specs.Stacks.{StackParts, IsStacked}
use Rattle.wz_machine.specs.Turns.{own_of}
use Rattle.wz_machine.proofs.IndirectLemmas.{comes_as, outcome_stuck, outcome_traps, foreign_other, foreign_same}
use Rattle.wz_machine.proofs.stacks.Stacks.call_sort.Goals as goal

pub returns-in-Extern : goal.returns-in-Extern
returns-in-Extern c =
    let stacked : IsStacked c.args.self.now = subst (λ (t : StackParts). IsStacked t) c.self.view_is c.self.invariant.stacked in
    λ st comes. (outcome_stuck c.args.self.now c.args.rest.now _ stacked (ap (λ (sort : Sort). sort_call c.args.types.now c.args.kind.now c.args.id sort (own_of c.args.self.now c.args.have)) c.in-Extern.is) st comes, refl)

pub returns-in-OtherFunc : goal.returns-in-OtherFunc
returns-in-OtherFunc c =
    let stacked : IsStacked c.args.self.now = subst (λ (t : StackParts). IsStacked t) c.self.view_is c.self.invariant.stacked in
    λ st comes. (outcome_traps c.args.self.now c.args.rest.now _ trap.IndirectType stacked (ap (λ (sort : Sort). sort_call c.args.types.now c.args.kind.now c.args.id sort (own_of c.args.self.now c.args.have)) c.in-OtherFunc.is) st comes, refl)

pub returns-in-None : goal.returns-in-None
returns-in-None c =
    let stacked : IsStacked c.args.self.now = subst (λ (t : StackParts). IsStacked t) c.self.view_is c.self.invariant.stacked in
    let own = own_of c.args.self.now c.args.have in
    λ st comes. (
      outcome_stuck c.args.self.now c.args.rest.now _ stacked
          (ap (λ (sort : Sort). sort_call c.args.types.now c.args.kind.now c.args.id sort (own_of c.args.self.now c.args.have)) c.in-Func.is
          ∙ ap (λ (f : Option FunctionType). foreign_call c.args.kind.now c.args.id f own) (sym c.in-None.ensures)) st comes,
      refl,
    )

pub returns-then-not-same_function_type : goal.returns-then-not-same_function_type
returns-then-not-same_function_type c =
    let stacked : IsStacked c.args.self.now = subst (λ (t : StackParts). IsStacked t) c.self.view_is c.self.invariant.stacked in
    let own = own_of c.args.self.now c.args.have in
    λ st comes. (
      outcome_traps c.args.self.now c.args.rest.now _ trap.IndirectType stacked
          (ap (λ (sort : Sort). sort_call c.args.types.now c.args.kind.now c.args.id sort (own_of c.args.self.now c.args.have)) c.in-Func.is
          ∙ foreign_other c.in-Some.actual.now c.args.kind.now _ c.args.id own (sym c.in-Some.ensures) (sym c.if-not-same_function_type.ensures)) st comes,
      refl,
    )

pub returns-else-not-same_function_type : goal.returns-else-not-same_function_type
returns-else-not-same_function_type c =
    let own = own_of c.args.self.now c.args.have in
    λ st comes. c.call_host.ensures st
    (comes_as st c.args.self.now c.args.rest.now _ (host_call c.args.kind.now c.args.id own)
    (ap (λ (sort : Sort). sort_call c.args.types.now c.args.kind.now c.args.id sort (own_of c.args.self.now c.args.have)) c.in-Func.is
    ∙ foreign_same c.in-Some.actual.now c.args.kind.now _ c.args.id own (sym c.in-Some.ensures) (sym c.if-not-same_function_type.ensures)) comes)
