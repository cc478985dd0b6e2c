use Rattle.wz_encode.proofs.WriterLemmas.{front_kept_in_loop}
use Rattle.wz_encode.proofs.memories.append_memories.Goals as goal

pub returns-in_err-append_memory_type-clause-err : goal.returns-in_err-append_memory_type-clause-err
returns-in_err-append_memory_type-clause-err c =
    front_kept_in_loop c.from_residual-in_err-append_memory_type.result c.args.out.now.items _ c.loop-memory.out.items c.append_memory_type.new.out.items
    c.loop-memory.invariant c.in_err-append_memory_type.ensures.err
