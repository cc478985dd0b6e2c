use Rattle.std.proofs.Common.{ℕ, List, ◌++◌, Bool, ap, ◌∙◌}
use Rattle.wz_encode.specs.Elements.{is_dropped, segment_text}
use Rattle.wz_encode.proofs.WriterLemmas.{front_kept_in_loop, one_segment_more}
use Rattle.wz_encode.proofs.elements.append_segments.Goals as goal

pub returns-in_err-append_segment-clause-err : goal.returns-in_err-append_segment-clause-err
returns-in_err-append_segment-clause-err c =
    front_kept_in_loop c.from_residual.result c.args.out.now.items _ c.loop-number.out.items c.append_segment.new.out.items
    c.loop-number.invariant c.in_err-append_segment.ensures.err

pub loop-number-preserved : goal.loop-number-preserved
loop-number-preserved c =
    let out = c.loop-number.out.items in
    one_segment_more c.args.dropped.now c.args.payload.now c.args.out.now.items out c.append_segment.new.out.items c.args.spans.now c.loop-number.number _
    c.loop-number-test.true c.loop-number.invariant
    (c.in_ok-append_segment.ensures.ok
    ∙ ap (λ (b : Bool). out ++ segment_text b c.covered_by-segment.result.now) c.is_dropped.ensures
    ∙ ap (λ (t : List ℕ). out ++ segment_text (is_dropped c.args.dropped.now c.loop-number.number) t) c.covered_by-segment.ensures)
