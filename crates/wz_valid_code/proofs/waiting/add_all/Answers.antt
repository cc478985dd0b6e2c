use Rattle.std.proofs.Common.{reverse, take, get_or, sym, subst, List}
use Rattle.std.proofs.lemmas.List.{take_more}
use Rattle.wz_code.specs.declared.instr.Instr.{Instr}
use Rattle.wz_code.specs.declared.instr.Instr.TheVariants.{Unreachable}
use Rattle.wz_valid_code.specs.Blocks.{inner_in}
use Rattle.wz_valid_code.specs.Waiting.{Grown}
use Rattle.wz_valid_code.proofs.WaitingLemmas.{grown-turn}
use Rattle.wz_valid_code.proofs.waiting.add_all.Goals as goal

pub loop-instr-preserved : goal.loop-instr-preserved
loop-instr-preserved c =
    let P : List Instr → Type 0 = λ done. Grown c.args.labels.now c.args.waiting.now.items c.add_of.new.waiting.items
    (inner_in c.args.scope.now (reverse c.args.labels.now) done) in
    subst P (sym (take_more c.args.code.now c.loop-instr.instr-index Unreachable c.loop-instr-test.true))
    (grown-turn c.args.scope.now c.args.labels.now c.args.waiting.now.items c.loop-instr.waiting.items c.add_of.new.waiting.items
    (take c.loop-instr.instr-index c.args.code.now) (get_or c.args.code.now c.loop-instr.instr-index Unreachable) c.loop-instr.invariant c.in_ok-add_of.ensures)
