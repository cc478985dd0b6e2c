use Rattle.std.proofs.Common.{◌-◌, length, drop}
use Rattle.wz_exports.specs.Answers.{HasNewNames}
use Rattle.wz_exports.proofs.names.new_names.Given as goal

abbrev pub invariant-loop-done : goal.invariant-loop-done
invariant-loop-done l = HasNewNames l.names (drop (length l.renames - l.done) l.renames)
