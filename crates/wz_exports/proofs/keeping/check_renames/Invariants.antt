use Rattle.std.proofs.Common.{◌≡◌, drop, map}
use Rattle.wz_module.specs.Views.{export_of}
use Rattle.wz_words.specs.Settings.{settings_of}
use Rattle.wz_exports.specs.Kept.{first_misnamed}
use Rattle.wz_exports.proofs.keeping.check_renames.Given as goal

abbrev pub invariant-loop-rename : goal.invariant-loop-rename
invariant-loop-rename l =
    first_misnamed (settings_of l.settings) (map export_of l.exports) (drop l.rename-index l.settings.renames.items)
    ≡ first_misnamed (settings_of l.settings) (map export_of l.exports) l.settings.renames.items
