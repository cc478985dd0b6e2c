use Rattle.std.proofs.Common.{◌≡◌, ◌++◌, length, take}
use Rattle.std.specs.List.{flat_map}
use Rattle.wz_bytes.specs.Shortest.{shortest_unsigned}
use Rattle.wz_encode.specs.Limits.{memory_type_text}
use Rattle.wz_encode.proofs.memories.append_memories.Given as goal

abbrev pub invariant-loop-memory : goal.invariant-loop-memory
invariant-loop-memory l = l.out.items ≡ l.fn.out.items ++ (shortest_unsigned (length l.memories) ++ flat_map memory_type_text (take l.memory-index l.memories))
