use Rattle.std.proofs.Common.{◌∙◌, false, true, subst}
use Rattle.wz_machine.specs.State.{State, state_of}
use Rattle.wz_machine.specs.Stacks.{StackParts, stacks_term}
use Rattle.wz_machine.specs.Advance.{StepsOn, IsStepOn, IsOnward}
use Rattle.wz_machine.proofs.AdvanceLemmas.{within_on}
use Rattle.wz_machine.proofs.AtOnceLemmas.{steps_on}
use Rattle.wz_machine.proofs.stacks.Stacks.onward.Goals as goal

pub returns-then-ends-clause-stepped : goal.returns-then-ends-clause-stepped
returns-then-ends-clause-stepped g c =
    within_on c.args.self.now c.ends.new.self (state_of c.args.bodies.now c.args.store.now) c.if-ends.ensures

pub returns-then-at_once-clause-stepped : goal.returns-then-at_once-clause-stepped
returns-then-at_once-clause-stepped g c =
    let st : State = state_of c.args.bodies.now c.args.store.now in
    subst (λ (s : StackParts). IsOnward c.made.result st (stacks_term s) st (stacks_term c.at_once.new.self)) c.if-ends.ensures
    (c.made.ensures st st (stacks_term c.ends.new.self) c.frames-frames.ensures.count c.frame_locals-locals.ensures.count
    (steps_on st c.ends.new.self c.at_once.new.self c.if-at_once.ensures.made c.if-at_once.ensures.spares))

pub returns-then-branch-clause-stepped : goal.returns-then-branch-clause-stepped
returns-then-branch-clause-stepped g c =
    let st : State = state_of c.args.bodies.now c.args.store.now in
    let after : State = state_of c.args.bodies.now c.step_on.new.store in
    let now = stacks_term c.step_on.new.self in
    let made : IsStepOn true st (stacks_term c.at_once.new.self) after now = rw c.if-branch.true at c.in_ok-step_on.ensures.stepped in
    let on : StepsOn st (stacks_term c.ends.new.self) after now =
    subst (λ (s : StackParts). StepsOn st (stacks_term s) after now) c.if-at_once.ensures.made made in
    subst (λ (s : StackParts). IsOnward c.made-then-branch.result st (stacks_term s) after now) c.if-ends.ensures
    (c.made-then-branch.ensures st after (stacks_term c.ends.new.self) c.frames-frames.ensures.count c.frame_locals-locals.ensures.count on)

pub returns-clause-stepped : goal.returns-clause-stepped
returns-clause-stepped g c =
    let st : State = state_of c.args.bodies.now c.args.store.now in
    let after : State = state_of c.args.bodies.now c.step_on.new.store in
    let now = stacks_term c.step_on.new.self in
    let none : IsStepOn false st (stacks_term c.at_once.new.self) after now = rw c.if-branch.false at c.in_ok-step_on.ensures.stepped in
    subst (λ (s : StackParts). IsStepOn false st (stacks_term s) after now) (c.if-at_once.ensures.made ∙ c.if-ends.ensures) none
