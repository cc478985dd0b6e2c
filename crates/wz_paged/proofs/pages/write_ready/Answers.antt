use Rattle.std.proofs.Common.{◌+◌, ◌-◌, ◌∙◌, ap, refl, arith, take, drop}
use Rattle.wz_linear.specs.Bytes.{written}
use Rattle.wz_paged.specs.Pages.{memory_of}
use Rattle.wz_paged.proofs.PageLemmas.{written_more, written_none, ready_piece, length-memory_of}
use Rattle.wz_paged.proofs.pages.write_ready.Goals as goal

pub loop-done-init : goal.loop-done-init
loop-done-init c = record { within = omega arith; written = written_none (memory_of c.args.pages.now) c.args.at; kept = λ i. refl }

pub write_piece-requires-clause-ready : goal.write_piece-requires-clause-ready
write_piece-requires-clause-ready c =
    ready_piece c.args.pages.now c.loop-done.pages c.args.at c.loop-done.done (c.loop-done.done + c.count_in_page-count.result - c.loop-done.done) c.args.bytes.now
    c.requires.ready c.loop-done.invariant.kept (omega arith)

pub loop-done-preserved : goal.loop-done-preserved
loop-done-preserved c = record {
  within = omega arith;
  written =
      c.write_piece.ensures.written
      ∙ ap (λ m. written m (c.args.at + c.loop-done.done) (take (c.loop-done.done + c.count_in_page-count.result - c.loop-done.done) (drop c.loop-done.done c.args.bytes.now)))
      c.loop-done.invariant.written
      ∙ written_more (memory_of c.args.pages.now) c.args.bytes.now c.args.at c.loop-done.done _ _ (omega (arith, length-memory_of c.args.pages.now)) (omega arith) (omega arith);
  kept = λ i. c.write_piece.ensures.kept i ∙ c.loop-done.invariant.kept i;
}
