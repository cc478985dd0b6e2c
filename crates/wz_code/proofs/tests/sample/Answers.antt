use Rattle.std.proofs.Common.{rules}
use Rattle.wz_code.proofs.tests.sample.Goals as goal

pub finish-requires-clause-rule : goal.finish-requires-clause-rule
finish-requires-clause-rule c =
    rw (
      c.in_ok-add_instr-4.ensures.added,
      c.in_ok-add_instr-3.ensures.added,
      c.in_ok-body.ensures.number,
      c.in_ok-body.ensures.added,
      c.in_ok-add_instr-2.ensures.added,
      c.in_ok-first-2.ensures.number,
      c.in_ok-first-2.ensures.added,
      c.in_ok-add_instr.ensures.added,
      c.in_ok-first.ensures.number,
      c.in_ok-first.ensures.added,
      c.in_ok-add_locals.ensures.added,
      c.new-builder.ensures,
    )
    (search rules)
