use Rattle.std.proofs.Common.{◌≡◌, take}
use Rattle.std.specs.List.{list_any}
use Rattle.wz_code.specs.Trees.{tree_of}
use Rattle.wz_decode.specs.CountRules.{code_names_data}
use Rattle.wz_decode.proofs.counts.any_names_data.Given as goal

abbrev pub invariant-loop-body : goal.invariant-loop-body
invariant-loop-body l = l.found ≡ list_any (λ body. code_names_data (tree_of body 0)) (take l.body-index l.bodies)
