use Rattle.std.proofs.Common.{◌≡◌, ◌++◌, map, take}
use Rattle.wz_snapshot.specs.Recorded.{chosen_segment}
use Rattle.wz_snapshot.proofs.memories.add_ranges.Given as goal

abbrev pub invariant-loop-range : goal.invariant-loop-range
invariant-loop-range l = l.segments.items ≡ l.initial.segments.items ++ map (chosen_segment l.memory) (take l.range-index l.ranges)
