use Rattle.std.proofs.Common.{take}
use Rattle.std.specs.List.{flat_map}
use Rattle.wz_code.specs.References.{AddsFunctions}
use Rattle.wz_module.specs.References.{exported_function}
use Rattle.wz_exports.proofs.references.References.add_exports.Given as goal

abbrev pub invariant-loop-at : goal.invariant-loop-at
invariant-loop-at l = AddsFunctions l.initial.self.functions.keys l.self.functions.keys (flat_map (λ e. exported_function e.target) (take l.at l.kept.entries))
