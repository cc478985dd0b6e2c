use Rattle.std.proofs.Common.{◌≡◌, map, take}
use Rattle.wz_snapshot.specs.Recorded.{has_no_items}
use Rattle.wz_snapshot.proofs.parts.empty_data.Given as goal

abbrev pub invariant-loop-at : goal.invariant-loop-at
invariant-loop-at g l = l.empty.items ≡ map has_no_items (take l.at l.store.datas)
