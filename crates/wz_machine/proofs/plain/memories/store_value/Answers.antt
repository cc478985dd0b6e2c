use Rattle.std.proofs.Common.{sym, ◌∙◌}
use Rattle.wz_bulk.proofs.MemoryLemmas.{bytes_left}
use Rattle.wz_machine.proofs.PlainLemmas.{store_replies}
use Rattle.wz_machine.proofs.plain.memories.store_value.Goals as goal

pub returns-in_err-done-in-Some-memory_mut-clause-refused : goal.returns-in_err-done-in-Some-memory_mut-clause-refused
returns-in_err-done-in-Some-memory_mut-clause-refused g c =
    bytes_left c.from_residual.result c.args.store.now c.args.memory (g.M.Linear.contents c.in-Some-memory_mut.bytes.now) (g.M.Linear.contents c.store.new.self)
    c.in-Some-memory_mut.ensures.value c.in_err-done-in-Some-memory_mut.ensures.refused

pub returns-in_ok-done-in-Some-memory_mut-clause-reply : goal.returns-in_ok-done-in-Some-memory_mut-clause-reply
returns-in_ok-done-in-Some-memory_mut-clause-reply g c =
    rw (← c.access-shape.ensures)
    (store_replies c.gone_or_trapped.result c.in_ok-done-in-Some-memory_mut.done c.access-shape.result c.args.offset c.args.memory c.in-Some-number_on.base
    c.place_of.result c.in-Some-bits_of.bits c.args.have c.in-Some.value c.args.own.now c.args.store.now (g.M.Linear.contents c.in-Some-memory_mut.bytes.now)
    (g.M.Linear.contents c.store.new.self) c.place_of.ensures c.in-Some.ensures c.in-Some-number_on.ensures (sym c.bits_of.ensures ∙ c.in-Some-bits_of.is)
    c.in-Some-memory_mut.ensures.value c.in_ok-done-in-Some-memory_mut.ensures.within c.in_ok-done-in-Some-memory_mut.ensures.stored
    c.in_ok-done-in-Some-memory_mut.ensures.outside c.gone_or_trapped.ensures)
