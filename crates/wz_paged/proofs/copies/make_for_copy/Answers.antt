use Rattle.std.proofs.Common.{◌≡◌, ◌+◌, ◌∙◌, ap, subst, arith, take, drop}
use Rattle.std.proofs.lemmas.List.{take_all}
use Rattle.wz_linear.specs.Bytes.{part}
use Rattle.wz_linear.proofs.WriteLemmas.{length-part}
use Rattle.wz_paged.specs.Pages.{memory_of, IsReady}
use Rattle.wz_paged.proofs.PageLemmas.{length-memory_of, ready_more, part_piece}
use Rattle.wz_paged.proofs.copies.make_for_copy.Goals as goal

pub loop-done-preserved : goal.loop-done-preserved
loop-done-preserved c =
    let size = length-memory_of c.args.pages.now in
    let long = length-part (memory_of c.args.pages.now) c.args.from c.args.len (omega arith) in
    let same : part (memory_of c.loop-done.pages) (c.args.from + c.loop-done.done) c.count_in_page-count.result ≡ take c.count_in_page-count.result
    (drop c.loop-done.done (part (memory_of c.args.pages.now) c.args.from c.args.len)) =
    ap (λ m. part m (c.args.from + c.loop-done.done) c.count_in_page-count.result) c.loop-done.invariant.same
    ∙ part_piece (memory_of c.args.pages.now) c.args.from c.args.len c.loop-done.done c.count_in_page-count.result (omega arith) in
    record {
      within = omega arith;
      same = c.make_for_piece.ensures.same ∙ c.loop-done.invariant.same;
      ready = ready_more c.loop-done.pages c.make_for_piece.new.pages c.args.to c.loop-done.done c.count_in_page-count.result _
          (part (memory_of c.args.pages.now) c.args.from c.args.len) c.loop-done.invariant.ready c.make_for_piece.ensures.made
          (subst (λ bytes. IsReady c.make_for_piece.new.pages (c.args.to + c.loop-done.done) bytes) same c.in_ok-make_for_piece.ensures.ready) (omega arith) (omega arith);
    }

pub returns-clause-ready : goal.returns-clause-ready
returns-clause-ready c =
    let size = length-memory_of c.args.pages.now in
    let long = length-part (memory_of c.args.pages.now) c.args.from c.args.len (omega arith) in
    subst (λ bytes. IsReady c.loop-done.pages c.args.to bytes) (take_all c.loop-done.done (part (memory_of c.args.pages.now) c.args.from c.args.len) (omega arith))
    c.loop-done.invariant.ready
