use Rattle.std.proofs.Common.{arith}
use Rattle.wz_exports.proofs.NameLemmas.{new_names_step}
use Rattle.wz_exports.proofs.names.new_names.Goals as goal

pub loop-done-preserved : goal.loop-done-preserved
loop-done-preserved c =
    new_names_step c.args.renames.now c.loop-done.names c.insert.new.self c.loop-done.done c.index-renames-renames.result c.as_str-src.result.now c.as_str-dst.result (omega arith)
    c.index-renames-renames.is c.loop-done.invariant c.as_str-src.ensures.bytes c.as_str-dst.ensures.bytes c.in_ok-insert.ensures.updates
