use Rattle.std.proofs.Common.{List, [], Option, sym, ap}
use Rattle.std.specs.Prelude.{unwrap_or}
use Rattle.std.proofs.lemmas.Result.{err_from_is_err_and}
use Rattle.wz_code.specs.declared.instr.Instr.{Instr}
use Rattle.wz_code.specs.declared.instr.Instr.TheVariants.{Unreachable}
use Rattle.wz_code.proofs.WalkLemmas.{shows-next, stops-at}
use Rattle.wz_code.proofs.walk.walk_block.Goals as goal

pub returns-in_err-see-clause-fault : goal.returns-in_err-see-clause-fault
returns-in_err-see-clause-fault g c =
    let p = err_from_is_err_and c.from_residual.result c.from_residual.ensures.1 in
    let is = sym (ap (λ (block : Option (List Instr)). unwrap_or block []) c.in-Some.ensures.value) in
    rw (p.1, p.2)
    (stops-at (g.V.Walk.after c.args.body.now) (g.V.Walk.refuses c.args.body.now) _ c.in-Some.block.now c.loop-instr.instr-index Unreachable
    (g.V.Walk.meaning c.args.visitor.now) (g.V.Walk.meaning c.loop-instr.visitor) (g.V.Walk.meaning c.see.new.self) c.in_err-see.field-0.0
    is c.loop-instr-test.true c.loop-instr.invariant c.in_err-see.ensures.kept c.in_err-see.ensures.cause)

pub loop-instr-preserved : goal.loop-instr-preserved
loop-instr-preserved g c =
    shows-next (g.V.Walk.after c.args.body.now) c.in-Some.block.now c.loop-instr.instr-index Unreachable
    (g.V.Walk.meaning c.args.visitor.now) (g.V.Walk.meaning c.loop-instr.visitor) (g.V.Walk.meaning c.see.new.self)
    c.loop-instr-test.true c.loop-instr.invariant c.in_ok-see.ensures.seen
