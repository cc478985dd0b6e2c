use Rattle.std.proofs.Common.{◌≡◌, map, drop}
use Rattle.wz_store.specs.Made.{new_memory}
use Rattle.wz_init.specs.Plain.{memories_behind}
use Rattle.wz_init.proofs.allocation.add_memories.Given as goal

abbrev pub invariant-loop-memory : goal.invariant-loop-memory
invariant-loop-memory g l = memories_behind l.store (map new_memory (drop l.memory-index l.memories)) ≡ memories_behind l.initial.store (map new_memory l.memories)
