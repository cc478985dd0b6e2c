use Rattle.std.proofs.Common.{◌∙◌, ap, sym}
use Rattle.wz_code.specs.declared.instr.Instr.{Instr}
use Rattle.wz_machine.specs.Straight.{changes_table}
use Rattle.wz_machine.proofs.AtOnceLemmas.{spares_made}
use Rattle.wz_machine.proofs.stacks.Stacks.at_once.Goals as goal

pub returns-in-If-clause-spares : goal.returns-in-If-clause-spares
returns-in-If-clause-spares g c =
    spares_made c.if_at_once.result c.args.self.now c.in-Some.instr c.in-Some.rest.now (sym c.innermost-top.ensures.rest ∙ c.in-Some.ensures)
    (ap (λ (i : Instr). changes_table i) c.in-If.is)

pub returns-in-Block-clause-spares : goal.returns-in-Block-clause-spares
returns-in-Block-clause-spares g c =
    spares_made c.block_at_once.result c.args.self.now c.in-Some.instr c.in-Some.rest.now (sym c.innermost-top.ensures.rest ∙ c.in-Some.ensures)
    (ap (λ (i : Instr). changes_table i) c.in-Block.is)

pub returns-in-Loop-clause-spares : goal.returns-in-Loop-clause-spares
returns-in-Loop-clause-spares g c =
    spares_made c.loop_at_once.result c.args.self.now c.in-Some.instr c.in-Some.rest.now (sym c.innermost-top.ensures.rest ∙ c.in-Some.ensures)
    (ap (λ (i : Instr). changes_table i) c.in-Loop.is)

pub returns-in-Br-clause-spares : goal.returns-in-Br-clause-spares
returns-in-Br-clause-spares g c =
    spares_made c.br_at_once.result c.args.self.now c.in-Some.instr c.in-Some.rest.now (sym c.innermost-top.ensures.rest ∙ c.in-Some.ensures)
    (ap (λ (i : Instr). changes_table i) c.in-Br.is)

pub returns-in-BrIf-clause-spares : goal.returns-in-BrIf-clause-spares
returns-in-BrIf-clause-spares g c =
    spares_made c.br_if_at_once.result c.args.self.now c.in-Some.instr c.in-Some.rest.now (sym c.innermost-top.ensures.rest ∙ c.in-Some.ensures)
    (ap (λ (i : Instr). changes_table i) c.in-BrIf.is)

pub returns-in-BrTable-clause-spares : goal.returns-in-BrTable-clause-spares
returns-in-BrTable-clause-spares g c =
    spares_made c.br_table_at_once.result c.args.self.now c.in-Some.instr c.in-Some.rest.now (sym c.innermost-top.ensures.rest ∙ c.in-Some.ensures)
    (ap (λ (i : Instr). changes_table i) c.in-BrTable.is)

pub returns-in-Return-clause-spares : goal.returns-in-Return-clause-spares
returns-in-Return-clause-spares g c =
    spares_made c.return_at_once.result c.args.self.now c.in-Some.instr c.in-Some.rest.now (sym c.innermost-top.ensures.rest ∙ c.in-Some.ensures)
    (ap (λ (i : Instr). changes_table i) c.in-Return.is)

pub returns-in-Call-clause-spares : goal.returns-in-Call-clause-spares
returns-in-Call-clause-spares g c =
    spares_made c.call_at_once.result c.args.self.now c.in-Some.instr c.in-Some.rest.now (sym c.innermost-top.ensures.rest ∙ c.in-Some.ensures)
    (ap (λ (i : Instr). changes_table i) c.in-Call.is)
