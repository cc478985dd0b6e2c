use Rattle.std.proofs.Common.{take}
use Rattle.std.specs.List.{flat_map}
use Rattle.wz_code.specs.References.{AddsFunctions, referred_by}
use Rattle.wz_module.proofs.references.add_referred_in_body.Given as goal

abbrev pub invariant-loop-number : goal.invariant-loop-number
invariant-loop-number l = AddsFunctions l.initial.functions.keys l.functions.keys (flat_map (λ block. flat_map referred_by block) (take l.number l.body.blocks))
