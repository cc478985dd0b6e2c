use Rattle.std.proofs.Common.{ℕ, ◌++◌, length, ap, ◌∙◌, arith}
use Rattle.wz_snapshot.specs.Recorded.{memory_limit, chosen_in, chosen_segments}
use Rattle.wz_snapshot.proofs.ListLemmas.{read_none}
use Rattle.wz_snapshot.proofs.MemoryLemmas.{has_few_pages, next_ranges}
use Rattle.wz_snapshot.proofs.memories.planned_segments.Goals as goal
use Rattle.wz_snapshot.proofs.memories.planned_segments.Goals.{in-Some+in_ok-add_memory, in_default}

pub add_memory-requires-clause-small : goal.add_memory-requires-clause-small
add_memory-requires-clause-small g c =
    has_few_pages c.args.store.now.memories c.loop-number.number (g.M.Linear.contents c.in-Some.memory.now) c.in-Some.ensures c.requires.small

pub loop-number-preserved : goal.loop-number-preserved
loop-number-preserved g c =
    let memories = c.args.store.now.memories in
    let i = c.loop-number.number in
    elim c.match-memory.branch [
      | in-Some+in_ok-add_memory w ↦
          let bytes = g.M.Linear.contents w.in-Some.memory.now in
          let done = c.loop-number.segments.items in
          next_ranges (memory_limit (length memories)) i memories bytes done c.match-memory.segments.items (chosen_segments memories) c.loop-number.invariant w.in-Some.ensures
          (rw w.segments-is (w.in_ok-add_memory.ensures ∙ ap (λ (count : ℕ). done ++ chosen_in (memory_limit count) i bytes) c.memory_count-count.ensures))
      | in_default w ↦ read_none (λ memory. memory.bytes) memories i w.in_default.ensures (omega arith)
    ]
