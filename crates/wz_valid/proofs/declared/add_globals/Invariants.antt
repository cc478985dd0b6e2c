use Rattle.std.proofs.Common.{take}
use Rattle.std.specs.List.{flat_map}
use Rattle.wz_code.specs.Trees.{tree_of}
use Rattle.wz_code.specs.References.{AddsFunctions, referred_in}
use Rattle.wz_valid.proofs.declared.add_globals.Given as goal

abbrev pub invariant-loop-global : goal.invariant-loop-global
invariant-loop-global l = AddsFunctions l.initial.declared.keys l.declared.keys (flat_map (λ g. referred_in (tree_of g.init 0)) (take l.global-index l.globals))
