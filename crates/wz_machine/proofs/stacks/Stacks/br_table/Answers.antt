use Rattle.std.proofs.Common.{◌∙◌, ℕ, List, take, drop, slice_get, unwrap_or, ap, refl}
use Rattle.wz_machine.proofs.ControlLemmas.{br_table-reduct, br_table-stuck}
use Rattle.wz_machine.proofs.stacks.Stacks.br_table.Goals as goal

pub returns-in_default : goal.returns-in_default
returns-in_default c = λ st.
    (br_table-stuck st c.args.self.now c.args.first c.args.count c.args.last c.args.rest.now c.requires c.in_default.ensures, refl)

pub returns : goal.returns
returns c = λ st.
    c.jump.ensures st (br_table-reduct st c.args.self.now c.args.first c.args.count c.args.last c.in-Some.number c.listed-label.result c.args.rest.now c.used-have.result
    c.requires c.used-have.ensures.count c.in-Some.ensures
    (c.listed-label.ensures ∙ ap (λ (labels : List ℕ). unwrap_or (slice_get (take c.args.count (drop c.args.first labels)) c.in-Some.number) c.args.last) c.labels.ensures))
