use Rattle.std.proofs.Common.{reverse, Some, false, sym, subst}
use Rattle.wz_code.specs.declared.instr.Instr.{Instr}
use Rattle.wz_valid_code.specs.Context.{shape_type}
use Rattle.wz_valid_code.specs.Blocks.{inner_from, inner_of}
use Rattle.wz_valid_code.specs.Waiting.{Grown}
use Rattle.wz_valid_code.proofs.WaitingLemmas.{grown-append}
use Rattle.wz_valid_code.proofs.waiting.add_of.Goals as goal

pub returns-in_ok-add_block-in-If-2 : goal.returns-in_ok-add_block-in-If-2
returns-in_ok-add_block-in-If-2 c =
    let P : Instr → Type 0 = λ i. Grown c.args.labels.now c.args.waiting.now.items c.add_block-in-If-2.new.waiting.items
    (inner_of c.args.scope.now (reverse c.args.labels.now) i) in
    subst P (sym c.in-If.is)
    (grown-append c.args.labels.now c.args.waiting.now.items c.add_block-in-If.new.waiting.items c.add_block-in-If-2.new.waiting.items
    (inner_from (reverse c.args.labels.now) (shape_type c.args.scope.now.context c.in-If.shape) false (Some c.in-If.yes))
    (inner_from (reverse c.args.labels.now) (shape_type c.args.scope.now.context c.in-If.shape) false c.in-If.no)
    c.in_ok-add_block-in-If.ensures c.in_ok-add_block-in-If-2.ensures)
