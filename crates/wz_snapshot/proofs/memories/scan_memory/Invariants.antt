use Rattle.std.proofs.Common.{◌≡◌, ◌*◌, vec_len}
use Rattle.wz_snapshot.specs.Scanning.{IsScannedTo}
use Rattle.wz_snapshot.proofs.memories.scan_memory.Given as goal

abbrev pub invariant-loop-page : goal.invariant-loop-page
invariant-loop-page g l = record { scanned : IsScannedTo (g.M.Linear.contents l.memory) (l.page * 65536) l.scan; size : vec_len l.buffer ≡ 65536 }
