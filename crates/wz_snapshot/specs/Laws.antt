-- What holds of the data segments that are chosen for memories. This is the tool's own.
use Rattle.std.specs.Prelude.{◌+◌, ◌<◌, ◌≤◌, List, length, slice_get, IsSomeAnd}
use Rattle.std.specs.List.{All}
use Rattle.wz_store.specs.State.{Memory}
use Rattle.wz_snapshot.specs.declared.segment.ChosenSegment.{ChosenSegment}
use Rattle.wz_snapshot.specs.Recorded.{segments_limit, chosen_segments}

-- at most 10,000 are chosen
abbrev pub ChosenAreFew : Type 0
ChosenAreFew = (memories : List Memory) → length memories ≤ 100 → length (chosen_segments memories) ≤ segments_limit

-- the memory is there, and the range isn't empty and ends within it
abbrev pub IsRangeOf : List Memory → ChosenSegment → Type 0
IsRangeOf memories segment = IsSomeAnd (slice_get memories segment.memory) (λ memory. (0 < segment.len) × (segment.at + segment.len ≤ length memory.bytes))

abbrev pub ChosenAreRanges : Type 0
ChosenAreRanges = (memories : List Memory) → All (λ segment. IsRangeOf memories segment) (chosen_segments memories)
