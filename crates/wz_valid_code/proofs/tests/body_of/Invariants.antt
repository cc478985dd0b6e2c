use Rattle.std.proofs.Common.{◌≡◌, ◌+◌, ◌≤◌, length}
use Rattle.wz_code.specs.BodyParts.{item_count}
use Rattle.wz_code.specs.BlockRule.{IsBuilding}
use Rattle.wz_valid_code.proofs.tests.body_of.Given as goal

abbrev pub invariant-loop-item : goal.invariant-loop-item
invariant-loop-item l = record {
  building : IsBuilding l.builder l.held.items;
  labels : length l.builder.labels ≡ 2;
  types : length l.builder.types ≡ 2;
  counted : item_count l.builder ≤ l.item-index + 6;
}
