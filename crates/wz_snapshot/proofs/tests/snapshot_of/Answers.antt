use Rattle.std.proofs.Common.{arith}
use Rattle.wz_snapshot.proofs.MemoryLemmas.{one_memory}
use Rattle.wz_snapshot.proofs.tests.snapshot_of.Goals as goal

pub snapshot-requires-clause-small : goal.snapshot-requires-clause-small
snapshot-requires-clause-small g c =
    one_memory c.args.reached.now.store.memories c.in_ok-pages.pages.items c.index.result.now c.in_ok-pages.ensures
    (omega (arith, c.len.ensures, c.in_ok-pages.pages.ok.0)) c.index.ensures (omega arith)
