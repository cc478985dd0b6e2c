use Rattle.std.proofs.Common.{◌-◌, length, drop, map}
use Rattle.wz_module.specs.Views.{export_of}
use Rattle.wz_exports.specs.Answers.{HasTargets}
use Rattle.wz_exports.proofs.names.targets_by_name.Given as goal

abbrev pub invariant-loop-done : goal.invariant-loop-done
invariant-loop-done l = HasTargets l.targets (map export_of (drop (length l.exports - l.done) l.exports))
