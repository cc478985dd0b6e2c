use Rattle.std.proofs.Common.{◌∙◌, arith}
use Rattle.wz_paged.proofs.PageLemmas.{ready_more}
use Rattle.wz_paged.proofs.pages.make_for_write.Goals as goal

pub loop-done-preserved : goal.loop-done-preserved
loop-done-preserved c = record {
  within = omega arith;
  same = c.make_for_piece.ensures.same ∙ c.loop-done.invariant.same;
  ready = ready_more c.loop-done.pages c.make_for_piece.new.pages c.args.at c.loop-done.done _ _ c.args.bytes.now c.loop-done.invariant.ready
      c.make_for_piece.ensures.made c.in_ok-make_for_piece.ensures.ready (omega arith) (omega arith);
  made = λ i h. c.loop-done.invariant.made i (c.make_for_piece.ensures.made i h);
}
