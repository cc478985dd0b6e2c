use Rattle.std.proofs.Common.{◌≡◌, List, Bool, Some, length, reverse, slice_get, refl, ap, sym, ◌∙◌, subst, arith}
use Rattle.wz_types.specs.declared.value.Value.{Value}
use Rattle.wz_store.specs.Changes.{Nothing}
use Rattle.wz_machine.specs.State.{state_of}
use Rattle.wz_machine.specs.Outcomes.{Next}
use Rattle.wz_machine.specs.Stacks.{StackParts, stacks_term, IsStacked}
use Rattle.wz_machine.specs.Growths.{memory_growable}
use Rattle.wz_machine.specs.Asks.{own_stack, top_number}
use Rattle.wz_machine.proofs.KeptLemmas.{used-kept}
use Rattle.std.proofs.Common.{true, false, None}
use Rattle.wz_machine.proofs.GrowAskLemmas.{memory_unnumbered, memory_missing, memory_fails, memory_asks}
use Rattle.wz_machine.proofs.stacks.Stacks.memory_grow.Goals as goal

pub returns-in_default : goal.returns-in_default
returns-in_default g c =
    let stacked : IsStacked c.args.self.now = subst (λ (t : StackParts). IsStacked t) c.self.view_is c.self.invariant.stacked in
    let none : top_number (own_stack c.args.self.now) ≡ None = ap (λ (xs : List Value). top_number (reverse xs)) (sym c.own.ensures) ∙ sym c.in_default.ensures in
    λ bodies. (memory_unnumbered (state_of bodies c.args.store.now) c.args.self.now c.args.rest.now c.args.memory stacked c.requires none, refl)

pub returns-in-None : goal.returns-in-None
returns-in-None g c =
    let stacked : IsStacked c.args.self.now = subst (λ (t : StackParts). IsStacked t) c.self.view_is c.self.invariant.stacked in
    let number : top_number (own_stack c.args.self.now) ≡ Some c.in-Some.by =
    ap (λ (xs : List Value). top_number (reverse xs)) (sym c.own.ensures) ∙ sym c.in-Some.ensures in
    λ bodies. (memory_missing (state_of bodies c.args.store.now) c.args.self.now c.args.rest.now c.args.memory c.in-Some.by stacked c.requires number (sym c.in-None.ensures), refl)

pub returns-in-Some-true : goal.returns-in-Some-true
returns-in-Some-true g c =
    let stacked : IsStacked c.args.self.now = subst (λ (t : StackParts). IsStacked t) c.self.view_is c.self.invariant.stacked in
    let number : top_number (own_stack c.args.self.now) ≡ Some c.in-Some.by =
    ap (λ (xs : List Value). top_number (reverse xs)) (sym c.own.ensures) ∙ sym c.in-Some.ensures in
    let may : memory_growable (slice_get c.args.store.now.memories c.args.memory) c.in-Some.by ≡ Some true = sym c.in-Some-true.ensures ∙ ap (λ (b : Bool). Some b) c.in-Some-true.field-0-test in
    let len : length c.args.self.now.values ≡ c.self.inside.have = used-kept c.self.inside c.args.self.now c.self.view_is c.self.invariant.used in
    λ bodies. record {
      asked = memory_asks (state_of bodies c.args.store.now) c.args.self.now c.args.rest.now c.args.memory c.in-Some.by c.self.inside.have stacked len c.requires number may;
      own = omega (arith, len, stacked.within);
      values = omega (arith, len);
      same = refl;
    }

pub returns-in-Some-false : goal.returns-in-Some-false
returns-in-Some-false g c =
    let stacked : IsStacked c.args.self.now = subst (λ (t : StackParts). IsStacked t) c.self.view_is c.self.invariant.stacked in
    let number : top_number (own_stack c.args.self.now) ≡ Some c.in-Some.by =
    ap (λ (xs : List Value). top_number (reverse xs)) (sym c.own.ensures) ∙ sym c.in-Some.ensures in
    let may : memory_growable (slice_get c.args.store.now.memories c.args.memory) c.in-Some.by ≡ Some false = sym c.in-Some-false.ensures ∙ ap (λ (b : Bool). Some b) c.in-Some-false.field-0-test in
    λ bodies. memory_fails (state_of bodies c.args.store.now) c.args.self.now c.args.rest.now c.args.memory c.in-Some.by stacked c.requires number may
    ∙ ap (λ (t : StackParts). Next Nothing (stacks_term t)) (sym c.fail_growth.ensures)
