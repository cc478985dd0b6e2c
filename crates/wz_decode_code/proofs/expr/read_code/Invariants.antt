use Rattle.std.proofs.Common.{◌≡◌, ◌≤◌, ◌+◌, length, reverse}
use Rattle.wz_code.specs.BodyParts.{item_count}
use Rattle.wz_code.specs.Trees.{tree_of}
use Rattle.wz_decode_code.specs.Reading.{reads, expression_at}
use Rattle.wz_decode_code.specs.Opened.{IsReading, arounds}
use Rattle.wz_decode_code.proofs.expr.read_code.Given as goal

abbrev pub invariant-symbols : goal.invariant-symbols
invariant-symbols l = record {
  reading : IsReading l.builder l.here (reverse l.opens.items);
  room : item_count l.builder + length l.cursor.left ≤ item_count l.initial.builder + length l.initial.cursor.left;
  so_far : reads l.cursor.left (tree_of l.builder l.here) (arounds l.builder (reverse l.opens.items)) ≡ expression_at l.initial.cursor.left;
  locals : l.builder.locals ≡ l.initial.builder.locals;
}

abbrev pub decreases-symbols : goal.decreases-symbols
decreases-symbols l = length l.cursor.left
