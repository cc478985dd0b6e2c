use Rattle.std.proofs.Common.{take}
use Rattle.std.specs.List.{flat_map}
use Rattle.wz_code.specs.References.{AddsFunctions, referred_by}
use Rattle.wz_module.proofs.references.add_referred_by_each.Given as goal

abbrev pub invariant-loop-instr : goal.invariant-loop-instr
invariant-loop-instr l = AddsFunctions l.initial.functions.keys l.functions.keys (flat_map referred_by (take l.instr-index l.code))
