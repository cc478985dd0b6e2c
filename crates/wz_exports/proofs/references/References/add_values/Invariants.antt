use Rattle.std.proofs.Common.{take}
use Rattle.std.specs.List.{flat_map}
use Rattle.wz_code.specs.References.{AddsFunctions}
use Rattle.wz_exports.specs.Undeclared.{value_refs}
use Rattle.wz_exports.proofs.references.References.add_values.Given as goal

abbrev pub invariant-loop-value : goal.invariant-loop-value
invariant-loop-value l = AddsFunctions l.initial.self.functions.keys l.self.functions.keys (flat_map value_refs (take l.value-index l.values))
