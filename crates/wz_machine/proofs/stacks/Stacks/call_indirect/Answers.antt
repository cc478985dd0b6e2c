use Rattle.std.proofs.Common.{◌≡◌, ◌-◌, ℕ, List, Some, None, length, reverse, slice_get, refl, ap, sym, ◌∙◌, subst}
use Rattle.wz_types.specs.declared.value.Value.{Value}
use Rattle.wz_types.specs.FunctionType.{FunctionType}
use Rattle.wz_machine.specs.State.{state_of}
use Rattle.wz_machine.specs.CallSteps.{entry_call}
use Rattle.wz_machine.specs.Step.{step}
use Rattle.wz_machine.specs.Stacks.{StackParts, stacks_term, IsStacked}
use Rattle.wz_machine.specs.Turns.{own_of}
use Rattle.wz_machine.specs.Asks.{own_stack, top_number, AskTurned, OutcomeTurned}
use Rattle.wz_machine.proofs.IndirectLemmas.{indirect_unnumbered, indirect_untyped, indirect_untabled, entry_comes}
use Rattle.std.proofs.lemmas.Result.{IfOk-weaker}
use Rattle.wz_machine.proofs.KeptLemmas.{used-kept}
use Rattle.wz_machine.proofs.stacks.Stacks.call_indirect.Goals as goal

pub returns-in_default-clause-turned : goal.returns-in_default-clause-turned
returns-in_default-clause-turned g c =
    let stacked : IsStacked c.args.self.now = subst (λ (t : StackParts). IsStacked t) c.self.view_is c.self.invariant.stacked in
    let none : top_number (own_stack c.args.self.now) ≡ None = ap (λ (xs : List Value). top_number (reverse xs)) (sym c.own.ensures) ∙ sym c.in_default.ensures in
    (indirect_unnumbered (state_of c.args.bodies.now c.args.store.now) c.args.self.now c.args.rest.now c.args.signature c.args.table stacked c.requires none, refl)

pub returns-in_default-type_at-clause-turned : goal.returns-in_default-type_at-clause-turned
returns-in_default-type_at-clause-turned g c =
    let stacked : IsStacked c.args.self.now = subst (λ (t : StackParts). IsStacked t) c.self.view_is c.self.invariant.stacked in
    let none : slice_get c.args.store.now.types c.args.signature ≡ None =
    ap (λ (types : List FunctionType). slice_get types c.args.signature) (sym c.types.ensures.value) ∙ sym c.in_default-type_at.ensures in
    (indirect_untyped (state_of c.args.bodies.now c.args.store.now) c.args.self.now c.args.rest.now c.args.signature c.args.table stacked c.requires none, refl)

pub returns-in_default-entry_at-clause-turned : goal.returns-in_default-entry_at-clause-turned
returns-in_default-entry_at-clause-turned g c =
    let stacked : IsStacked c.args.self.now = subst (λ (t : StackParts). IsStacked t) c.self.view_is c.self.invariant.stacked in (
      indirect_untabled (state_of c.args.bodies.now c.args.store.now) c.args.self.now c.args.rest.now c.args.signature c.args.table c.in-Some.at stacked c.requires
          (sym c.in_default-entry_at.ensures),
      refl,
    )

pub returns-clause-turned : goal.returns-clause-turned
returns-clause-turned g c =
    let s = c.args.self.now in
    let st = state_of c.args.bodies.now c.args.store.now in
    let have = c.saturating_sub-have.result in
    let number : top_number (own_stack s) ≡ Some c.in-Some.at = ap (λ (xs : List Value). top_number (reverse xs)) (sym c.own.ensures) ∙ sym c.in-Some.ensures in
    let typed : slice_get c.args.store.now.types c.args.signature ≡ Some c.in-Some-type_at.kind.now =
    ap (λ (types : List FunctionType). slice_get types c.args.signature) (sym c.types.ensures.value) ∙ sym c.in-Some-type_at.ensures in
    let len : length s.values ≡ c.self.inside.have = used-kept c.self.inside s c.self.view_is c.self.invariant.used in
    let few : have ≡ length s.values - 1 = c.saturating_sub-have.ensures ∙ ap (λ (n : ℕ). n - 1) (sym len) in
    let comes = entry_comes st s c.args.rest.now c.args.signature c.args.table c.in-Some.at have c.in-Some-type_at.kind.now c.in-Some-entry_at.entry
    c.requires number typed (sym c.in-Some-entry_at.ensures) few in
    IfOk-weaker c.call_entry.result
    (λ turn. OutcomeTurned s c.args.rest.now (entry_call st.types st.functions c.in-Some-type_at.kind.now c.in-Some-entry_at.entry (own_of s have)) turn c.call_entry.new.self)
    (λ turn. AskTurned (step st (stacks_term s)) s c.args.rest.now turn c.call_entry.new.self)
    (λ turn turned. turned st comes) c.call_entry.ensures.turned
