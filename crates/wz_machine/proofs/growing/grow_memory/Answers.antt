use Rattle.wz_bulk.proofs.MemoryLemmas.{bytes_kept, bytes_left}
use Rattle.wz_machine.proofs.GrowLemmas.{contents_grown}
use Rattle.wz_machine.proofs.growing.grow_memory.Goals as goal

pub returns-then-not-memory_may_grow-clause-kept : goal.returns-then-not-memory_may_grow-clause-kept
returns-then-not-memory_may_grow-clause-kept g c =
    bytes_kept c.args.store.now c.args.index (g.M.Linear.contents c.in-Some-memory_mut.memory.now) c.in-Some-memory_mut.ensures.value

pub returns-in_err-grow-clause-refused : goal.returns-in_err-grow-clause-refused
returns-in_err-grow-clause-refused g c =
    bytes_left c.from_residual.result c.args.store.now c.args.index (g.M.Linear.contents c.in-Some-memory_mut.memory.now) (g.M.Linear.contents c.grow.new.self)
    c.in-Some-memory_mut.ensures.value c.in_err-grow.ensures.refused

pub returns-clause-grown : goal.returns-clause-grown
returns-clause-grown g c =
    contents_grown c.args.store.now c.args.index c.args.by (g.M.Linear.contents c.in-Some-memory_mut.memory.now) (g.M.Linear.contents c.grow.new.self)
    c.in-Some-memory_mut.ensures.value c.in_ok-grow.ensures.grown
