use Rattle.std.proofs.Common.{take, ◌∷◌, []}
use Rattle.std.specs.List.{flat_map}
use Rattle.wz_code.specs.References.{AddsFunctions}
use Rattle.wz_module.proofs.references.add_functions.Given as goal

abbrev pub invariant-loop-function : goal.invariant-loop-function
invariant-loop-function l = AddsFunctions l.initial.functions.keys l.functions.keys (flat_map (λ n. n ∷ []) (take l.function-index l.indices))
