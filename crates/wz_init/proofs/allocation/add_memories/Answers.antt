use Rattle.std.proofs.Common.{ap, ◌-◌, ◌^◌}
use Rattle.wz_store.specs.Made.{new_memory}
use Rattle.wz_store.specs.Made.{StoreState}
use Rattle.wz_init.proofs.BehindLemmas.{room_for_each}
use Rattle.wz_init.proofs.allocation.add_memories.Goals as goal

pub add_memory-requires-clause-room : goal.add_memory-requires-clause-room
add_memory-requires-clause-room g c =
    room_for_each new_memory c.args.memories.now c.loop-memory.memory-index c.loop-memory.store.memories c.args.store.now.memories (2 ^ 32 - 1)
    (ap (λ (s : StoreState). s.memories) c.loop-memory.invariant) c.requires.room
