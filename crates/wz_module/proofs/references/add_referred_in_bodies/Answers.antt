use Rattle.std.proofs.Common.{arith}
use Rattle.wz_code.specs.Trees.{tree_of}
use Rattle.wz_code.specs.References.{referred_in}
use Rattle.wz_code.proofs.NumberLemmas.{adds_mapped}
use Rattle.wz_module.proofs.references.add_referred_in_bodies.Goals as goal

pub returns : goal.returns
returns c =
    adds_mapped (λ code. referred_in code) (λ body. tree_of body 0) c.args.bodies.now c.loop-body.body-index
    c.args.functions.now.keys c.loop-body.functions.keys (omega arith) c.loop-body.invariant
