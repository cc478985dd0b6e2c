use Rattle.std.proofs.Common.{take}
use Rattle.std.specs.List.{flat_map}
use Rattle.wz_code.specs.References.{AddsFunctions}
use Rattle.wz_module.specs.References.{exported_function}
use Rattle.wz_valid.proofs.declared.add_exports.Given as goal

abbrev pub invariant-loop-export : goal.invariant-loop-export
invariant-loop-export l = AddsFunctions l.initial.declared.keys l.declared.keys (flat_map (λ e. exported_function e.target) (take l.export-index l.exports))
