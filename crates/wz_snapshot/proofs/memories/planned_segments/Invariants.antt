use Rattle.std.proofs.Common.{◌≡◌, ◌++◌, length, drop}
use Rattle.wz_snapshot.specs.Recorded.{memory_limit, chosen_from, chosen_segments}
use Rattle.wz_snapshot.proofs.memories.planned_segments.Given as goal

abbrev pub invariant-loop-number : goal.invariant-loop-number
invariant-loop-number g l =
    l.segments.items ++ chosen_from (memory_limit (length l.store.memories)) l.number (drop l.number l.store.memories) ≡ chosen_segments l.store.memories
