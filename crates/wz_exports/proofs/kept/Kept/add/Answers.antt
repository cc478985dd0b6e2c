use Rattle.std.proofs.Common.{ap}
use Rattle.wz_exports.specs.Kept.{KeptExports}
use Rattle.wz_exports.proofs.NameLemmas.{added_export}
use Rattle.wz_exports.proofs.kept.Kept.add.Goals as goal

pub returns : goal.returns
returns c =
    let entries = added_export c.self.inside.exports c.in_ok-name.name c.args.target c.args.name.now c.insert.new.self.entries c.args.self.now.entries
    c.in_ok-name.ensures.ok (ap (λ (kept : KeptExports). kept.entries) c.self.view_is) c.requires c.in_ok-insert.ensures.entries in
    let function = ap (λ (kept : KeptExports). kept.function) c.self.view_is in
    let reactor = ap (λ (kept : KeptExports). kept.reactor) c.self.view_is in
    λ i. record { entries = entries i; function = function i; reactor = reactor i }
