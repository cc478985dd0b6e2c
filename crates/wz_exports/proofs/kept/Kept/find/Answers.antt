use Rattle.std.proofs.Common.{ap, ◌∙◌}
use Rattle.wz_exports.specs.Kept.{KeptExports}
use Rattle.wz_exports.specs.Names.{target_named}
use Rattle.wz_exports.proofs.NameLemmas.{found_by_name}
use Rattle.wz_exports.proofs.kept.Kept.find.Goals as goal

pub returns : goal.returns
returns c =
    c.copied.ensures
    ∙ c.get.ensures.value
    ∙ found_by_name c.args.name.now c.self.inside.exports.entries
    ∙ ap (λ (kept : KeptExports). target_named c.args.name.now kept.entries) c.self.view_is
