use Rattle.std.proofs.Common.{arith}
use Rattle.wz_exports.proofs.NameLemmas.{given_step}
use Rattle.wz_exports.proofs.names.names_given.Goals as goal

pub loop-done-preserved : goal.loop-done-preserved
loop-done-preserved c =
    given_step c.args.renames.now c.loop-done.names c.insert.new.self c.loop-done.done c.index-renames-renames.result c.as_str.result.now (omega arith)
    c.index-renames-renames.is c.loop-done.invariant c.as_str.ensures.bytes c.in_ok-insert.ensures.updates.0
