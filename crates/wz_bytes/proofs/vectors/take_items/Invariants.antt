use Rattle.std.proofs.Common.{◌≡◌, ◌≤◌, length}
use Rattle.wz_bytes.specs.Vectors.{ItemsRead}
use Rattle.wz_bytes.proofs.vectors.take_items.Given as goal

abbrev pub invariant-loop : goal.invariant-loop
invariant-loop g l = record {
  many : length l.items.items ≡ l.counter;
  left : length l.cursor.left ≤ length l.initial.cursor.left;
  read : ItemsRead g.R.Item.reads l.initial.cursor.left l.items.items l.cursor.left;
}
