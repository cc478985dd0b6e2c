use Rattle.std.proofs.Common.{◌∙◌, ap, sym, refl}
use Rattle.wz_machine.specs.Stacks.{StackParts, stacks_term}
use Rattle.wz_machine.specs.Outcomes.{Next}
use Rattle.wz_store.specs.Changes.{Nothing}
use Rattle.wz_machine.proofs.ControlLemmas.{br_if-reduct, br_if-passes, br_if-stuck}
use Rattle.wz_machine.proofs.stacks.Stacks.br_if.Goals as goal

pub returns-in_default : goal.returns-in_default
returns-in_default c = λ st.
    (br_if-stuck st c.args.self.now c.args.label c.args.rest.now c.requires c.in_default.ensures, refl)

pub returns-then-number-eq0 : goal.returns-then-number-eq0
returns-then-number-eq0 c = λ st.
    br_if-passes st c.args.self.now c.args.label c.in-Some.number c.args.rest.now c.used-have.result c.used-have.ensures.stacked c.requires c.used-have.ensures.count
    c.in-Some.ensures c.if-number-eq0.true
    ∙ ap (λ (t : StackParts). Next Nothing (stacks_term t)) (sym c.step_over.ensures)

pub returns : goal.returns
returns c = λ st.
    c.jump.ensures st (br_if-reduct st c.args.self.now c.args.label c.in-Some.number c.args.rest.now c.used-have.result c.requires c.used-have.ensures.count
    c.in-Some.ensures c.if-number-eq0.false)
