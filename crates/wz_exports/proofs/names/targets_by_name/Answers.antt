use Rattle.std.proofs.Common.{arith}
use Rattle.wz_exports.proofs.NameLemmas.{targets_step}
use Rattle.wz_exports.proofs.names.targets_by_name.Goals as goal

pub loop-done-preserved : goal.loop-done-preserved
loop-done-preserved c = targets_step c.args.exports.now c.loop-done.targets c.insert.new.self c.loop-done.done _ (omega arith) c.loop-done.invariant c.in_ok-insert.ensures.updates
