use Rattle.std.proofs.Common.{arith, ◌+◌}
use Rattle.std.proofs.lemmas.List.{take_rest}
use Rattle.std.proofs.lemmas.Grind.{common_steps}
use Rattle.wz_plan.proofs.FirstRunLemmas.{first_run}
use Rattle.wz_plan.proofs.runs.next_run.Goals as goal

pub returns-clause-first : goal.returns-clause-first
returns-clause-first c = first_run c.args.bytes.now c.in_ok-get.field-0.now _ c.args.from c.in_ok-at.field-0 c.nonzero_len-len.result
    (grind (arith, common_steps, c.in_ok-get.ensures.lookup)) (take_rest c.args.bytes.now (c.args.from + c.in_ok-at.field-0))
    (omega (arith, c.in_ok-get.ensures.lookup)) c.in_ok-at.ensures.within c.in_ok-at.ensures.here c.in_ok-at.ensures.before
    c.nonzero_len-len.ensures.within c.nonzero_len-len.ensures.before c.nonzero_len-len.ensures.ends
