use Rattle.std.proofs.Common.{◌∙◌, List, ap, arith}
use Rattle.std.specs.List.{list_any}
use Rattle.std.proofs.lemmas.List.{take_all}
use Rattle.wz_code.specs.BodyParts.{BodyParts}
use Rattle.wz_code.specs.Trees.{tree_of}
use Rattle.wz_decode.specs.CountRules.{code_names_data}
use Rattle.wz_decode.proofs.DataLemmas.{bodies_are_trees}
use Rattle.wz_decode.proofs.counts.any_names_data.Goals as goal

pub returns : goal.returns
returns c =
    let all = take_all c.loop-body.body-index c.args.bodies.now (omega (arith, c.loop-body-test.false)) in
    c.loop-body.invariant ∙ ap (λ (bodies : List BodyParts). list_any (λ body. code_names_data (tree_of body 0)) bodies) all ∙ bodies_are_trees c.args.bodies.now
