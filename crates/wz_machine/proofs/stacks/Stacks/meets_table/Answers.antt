use Rattle.std.proofs.Common.{sym, ◌∙◌}
use Rattle.wz_machine.proofs.AdvanceLemmas.{table_next, no_table_next}
use Rattle.wz_machine.proofs.stacks.Stacks.meets_table.Goals as goal

pub returns-in-Some : goal.returns-in-Some
returns-in-Some c =
    c.is_table_change.ensures ∙ table_next c.args.self.now c.in-Some.instr.now _ (sym c.innermost-top.ensures.rest ∙ c.in-Some.ensures.cases.0)

pub returns-in-None : goal.returns-in-None
returns-in-None c = no_table_next c.args.self.now c.innermost-top.result.rest.now c.innermost-top.ensures.rest c.in-None.ensures.cases
