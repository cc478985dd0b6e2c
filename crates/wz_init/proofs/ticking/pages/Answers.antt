use Rattle.std.proofs.Common.{◌≡◌, ◌+◌, ◌<◌, length, take, sym, arith}
use Rattle.wz_store.specs.State.{pages_together}
use Rattle.wz_init.proofs.TickingLemmas.{pages_more, memory_there}
use Rattle.wz_init.proofs.ticking.pages.Goals as goal
use Rattle.wz_init.proofs.ticking.pages.Goals.{in-Some, in-None}

pub loop-index-preserved : goal.loop-index-preserved
loop-index-preserved g c =
    let ms = c.args.store.now.memories in
    let i = c.loop-index.index in
    elim c.match-memory_type.branch [
      | in-Some w ↦ record {
        so_far =
            let more : pages_together (take (i + 1) ms) ≡ pages_together (take i ms) + w.in-Some.kind.limits.min =
            pages_more ms i w.in-Some.kind (sym w.in-Some.ensures) in
            omega (arith, w.pages-is, w.from-pages.ensures, c.loop-index.invariant.so_far, more);
        few = omega arith;
      }
      | in-None w ↦
          let less : i < length ms = omega arith in
          absurd (memory_there ms i (sym w.in-None.ensures) less)
    ]
