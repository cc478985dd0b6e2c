use Rattle.std.proofs.Common.{sym, subst}
use Rattle.wz_plan.specs.Scanned.{Found}
use Rattle.wz_snapshot.specs.Scanning.{IsScannedTo}
use Rattle.wz_snapshot.proofs.ScanLemmas.{starts, small_memory}
use Rattle.wz_snapshot.proofs.memories.scan_memory.Goals as goal

pub loop-page-init : goal.loop-page-init
loop-page-init g c =
    let memory = g.M.Linear.contents c.args.memory.now in
    record {
      scanned = subst (λ (f : Found). IsScannedTo memory 0 f) (sym c.new-scan.ensures) (starts memory);
      size = c.in_ok-buffer.ensures.len;
    }

pub scan_page-requires-clause-small : goal.scan_page-requires-clause-small
scan_page-requires-clause-small g c =
    small_memory (g.M.Linear.contents c.args.memory.now) c.size_pages-page-end.result c.size_pages-page-end.ensures.whole c.requires
