use Rattle.std.proofs.Common.{ap}
use Rattle.wz_words.specs.Settings.{settings_of}
use Rattle.wz_exports.specs.Kept.{KeptExports}
use Rattle.wz_exports.proofs.KeptLemmas.{may_add}
use Rattle.wz_exports.proofs.keeping.add_exports.Goals as goal

pub add_export-requires : goal.add_export-requires
add_export-requires c =
    may_add (settings_of c.args.settings.now) c.args.exports.now c.loop-export.export-index _ c.kept_name-name.result c.loop-export.kept.entries c.loop-export-test.true
    c.requires.renames c.requires.names c.kept_name-name.ensures (ap (λ (k : KeptExports). k.entries) c.loop-export.invariant)
