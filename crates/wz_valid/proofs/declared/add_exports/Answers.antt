use Rattle.std.proofs.Common.{arith}
use Rattle.wz_code.proofs.NumberLemmas.{adds_mapped}
use Rattle.wz_module.specs.Views.{export_of}
use Rattle.wz_module.specs.References.{exported_function}
use Rattle.wz_valid.proofs.declared.add_exports.Goals as goal

pub returns : goal.returns
returns c =
    adds_mapped (λ e. exported_function e.target) (λ e. export_of e) c.args.exports.now c.loop-export.export-index
    c.args.declared.now.keys c.loop-export.declared.keys (omega arith) c.loop-export.invariant
