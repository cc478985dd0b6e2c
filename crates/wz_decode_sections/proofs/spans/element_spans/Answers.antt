use Rattle.std.proofs.Common.{◌≡◌, length}
use Rattle.wz_bytes.specs.declared.vectors.ItemFault.TheVariants as item
use Rattle.wz_decode_sections.proofs.ReaderLemmas.{item_was_bad}
use Rattle.wz_decode_sections.proofs.SpanLemmas.{spans_found, no_segments}
use Rattle.wz_decode_sections.proofs.spans.element_spans.Goals as goal

pub returns-in-Ok-clause-found : goal.returns-in-Ok-clause-found
returns-in-Ok-clause-found c = spans_found c.args.payload.now c.in-Ok.spans.items c.in-Ok.ensures.ok

pub returns-in-Err-clause-bad : goal.returns-in-Err-clause-bad
returns-in-Err-clause-bad c = λ bad.
    let was : c.in-Err.fault ≡ item.Bad = item_was_bad c.in-Err.fault (cc (bad, c.from.ensures)) in
    no_segments (length c.args.payload.now) c.args.payload.now (c.in-Err.ensures.bad (cc was))
