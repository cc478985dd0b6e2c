use Rattle.std.proofs.Common.{◌≡◌, ◌≤◌, length}
use Rattle.wz_bytes.specs.Vectors.{ItemsRead}
use Rattle.wz_decode_sections.specs.Spans.{SpanRead}
use Rattle.wz_decode_sections.proofs.spans.take_spans.Given as goal

abbrev pub invariant-loop : goal.invariant-loop
invariant-loop l = record {
  many : length l.spans.items ≡ l.counter;
  left : length l.cursor.left ≤ l.total;
  read : ItemsRead (λ b s r. SpanRead l.total b s r) l.initial.cursor.left l.spans.items l.cursor.left;
}
