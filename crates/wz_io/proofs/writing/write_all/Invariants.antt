use Rattle.std.proofs.Common.{length, ◌-◌}
use Rattle.wz_io.proofs.WritingLemmas.{HasCome}
use Rattle.wz_io.proofs.writing.write_all.Given as goal

abbrev pub invariant-loop-at : goal.invariant-loop-at
invariant-loop-at g l = HasCome l.bytes l.at (g.F.Files.world l.fn.files) (g.F.Files.world l.files)

abbrev pub decreases-loop-at : goal.decreases-loop-at
decreases-loop-at g l = length l.bytes - l.at
