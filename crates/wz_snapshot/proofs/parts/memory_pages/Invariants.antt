use Rattle.std.proofs.Common.{◌≡◌, map, take}
use Rattle.wz_store.specs.State.{pages_of}
use Rattle.wz_snapshot.proofs.parts.memory_pages.Given as goal

abbrev pub invariant-loop-at : goal.invariant-loop-at
invariant-loop-at g l = l.pages.items ≡ map pages_of (take l.at l.store.memories)
