use Rattle.std.proofs.Common.{arith}
use Rattle.std.proofs.lemmas.Result.{err_from_is_err_and}
use Rattle.wz_code.proofs.WalkLemmas.{shows-block, stops-in}
use Rattle.wz_code.proofs.walk.walk_body.Goals as goal

pub returns-in_err-walk_block-clause-fault : goal.returns-in_err-walk_block-clause-fault
returns-in_err-walk_block-clause-fault g c =
    let p = err_from_is_err_and c.from_residual.result c.from_residual.ensures.1 in
    rw (p.1, p.2)
    (stops-in (g.V.Walk.after c.args.body.now) (g.V.Walk.refuses c.args.body.now) c.args.body.now.blocks c.loop-number.number
    (g.V.Walk.meaning c.args.visitor.now) (g.V.Walk.meaning c.loop-number.visitor) (g.V.Walk.meaning c.walk_block.new.visitor) c.in_err-walk_block.field-0.0
    (omega (arith, c.loop-number-test.true, c.block_count-number-end.ensures.count)) c.loop-number.invariant c.in_err-walk_block.ensures.fault)

pub loop-number-preserved : goal.loop-number-preserved
loop-number-preserved g c =
    shows-block (g.V.Walk.after c.args.body.now) c.args.body.now.blocks c.loop-number.number
    (g.V.Walk.meaning c.args.visitor.now) (g.V.Walk.meaning c.loop-number.visitor) (g.V.Walk.meaning c.walk_block.new.visitor)
    (omega (arith, c.loop-number-test.true, c.block_count-number-end.ensures.count)) c.loop-number.invariant c.in_ok-walk_block.ensures.all
