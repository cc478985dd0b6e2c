use Rattle.std.proofs.Common.{◌≡◌, take, map}
use Rattle.wz_module.specs.Views.{export_of}
use Rattle.wz_words.specs.Settings.{settings_of}
use Rattle.wz_exports.specs.Kept.{kept_exports}
use Rattle.wz_exports.proofs.keeping.add_exports.Given as goal

abbrev pub invariant-loop-export : goal.invariant-loop-export
invariant-loop-export l = l.kept ≡ record l.fn.kept { entries = kept_exports (settings_of l.settings) (map export_of (take l.export-index l.exports)) }
