use Rattle.std.proofs.Common.{◌∙◌, ◌↔◌, ℕ, List, IsTrue, length, ap, sym, subst, slice_get}
use Rattle.wz_linear.specs.Bytes.{IsWithin}
use Rattle.wz_bulk.specs.Effects.{state_after}
use Rattle.wz_bulk.specs.MemoryEffects.{bytes_effect}
use Rattle.wz_bulk.proofs.MemoryLemmas.{bytes_done, bytes_left, copy_effect_is}
use Rattle.wz_bulk.proofs.memories.copy_between.Goals as goal

pub returns-in_err-done-in-Some-memory_mut-clause-refused : goal.returns-in_err-done-in-Some-memory_mut-clause-refused
returns-in_err-done-in-Some-memory_mut-clause-refused g c =
    bytes_left c.from_residual-in_err-done-in-Some-memory_mut.result c.args.store.now c.args.to_memory (g.M.Linear.contents c.in-Some-memory_mut.bytes.now) (g.M.Linear.contents c.write_slice.new.self)
    c.in-Some-memory_mut.ensures.value c.in_err-done-in-Some-memory_mut.ensures.refused

pub returns-in-Some-memory_mut-clause-store : goal.returns-in-Some-memory_mut-clause-store
returns-in-Some-memory_mut-clause-store g c =
    let old = g.M.Linear.contents c.in-Some-memory_mut.bytes.now in
    let done = c.in_ok-done-in-Some-memory_mut.done in
    let piece = c.deref.result.now in
    let effect = copy_effect_is (slice_get c.args.store.now.memories c.args.to_memory) (slice_get c.args.store.now.memories c.args.from_memory) c.args.to_memory c.args.to c.args.from c.args.len old
        (g.M.Linear.contents c.in-Some-memory.source.now) done c.in-Some-memory_mut.ensures.value c.in-Some-memory.ensures (sym c.has_range-2.ensures ∙ c.if-not-has_range-2.false)
        (subst (λ (n : ℕ). IsTrue done ↔ IsWithin old c.args.to n) (ap (λ (bytes : List ℕ). length bytes) c.deref.ensures.value ∙ c.in_ok-buffer.ensures.size) c.in_ok-done-in-Some-memory_mut.ensures.within)
        ∙ ap (λ (bytes : List ℕ). bytes_effect c.args.to_memory c.args.to bytes done) (sym (c.deref.ensures.value ∙ c.in_ok-buffer.ensures.value)) in
    bytes_done c.args.store.now c.args.to_memory c.args.to piece old (g.M.Linear.contents c.write_slice.new.self) done c.in-Some-memory_mut.ensures.value
    c.in_ok-done-in-Some-memory_mut.ensures.copied c.in_ok-done-in-Some-memory_mut.ensures.outside
    ∙ ap (λ e. state_after e c.args.store.now) (sym effect)
