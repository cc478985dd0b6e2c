use Rattle.std.proofs.Common.{take}
use Rattle.std.specs.List.{flat_map}
use Rattle.wz_code.specs.Trees.{tree_of}
use Rattle.wz_code.specs.References.{AddsFunctions, referred_in}
use Rattle.wz_module.proofs.references.add_referred_in_bodies.Given as goal

abbrev pub invariant-loop-body : goal.invariant-loop-body
invariant-loop-body l = AddsFunctions l.initial.functions.keys l.functions.keys (flat_map (λ body. referred_in (tree_of body 0)) (take l.body-index l.bodies))
