use Rattle.std.proofs.Common.{arith}
use Rattle.std.proofs.lemmas.List.{length-append}
use Rattle.wz_bytes.proofs.VectorLaws.{read_push}
use Rattle.wz_decode_sections.specs.Spans.{SpanRead}
use Rattle.wz_decode_sections.proofs.SpanLemmas.{rest_within}
use Rattle.wz_decode_sections.proofs.spans.take_spans.Goals as goal

pub loop-preserved : goal.loop-preserved
loop-preserved c =
    let p = c.in_ok-push.ensures.items in
    let i = c.loop.invariant in
    let r = c.in_ok-span.ensures.ok in
    record {
      many = rw (p, length-append _ _, i.many) (omega arith);
      left = omega (arith, i.left, rest_within _ _ _ r.segment);
      read = rw p (read_push (λ b s r. SpanRead c.args.total b s r) _ _ _ c.loop.spans.items _ i.read r);
    }
