use Rattle.std.proofs.Common.{arith}
use Rattle.wz_module.proofs.BlockLemmas.{adds_block, adds_body}
use Rattle.wz_module.proofs.references.add_referred_in_body.Goals as goal

pub loop-number-preserved : goal.loop-number-preserved
loop-number-preserved c =
    adds_block c.args.body.now.blocks c.loop-number.number c.args.functions.now.keys c.loop-number.functions.keys c.add_referred_in_block.new.functions.keys
    (omega (arith, c.block_count-number-end.ensures.count)) c.loop-number.invariant c.in_ok-add_referred_in_block.ensures

pub returns : goal.returns
returns c =
    adds_body c.args.body.now c.block_count-number-end.ensures.kept.rule c.loop-number.number c.args.functions.now.keys c.loop-number.functions.keys
    (omega (arith, c.block_count-number-end.ensures.count)) c.loop-number.invariant
