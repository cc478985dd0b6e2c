use Rattle.std.proofs.Common.{◌+◌, ◌-◌, vec_len}
use Rattle.wz_io.proofs.ReadingLemmas.{HasRead}
use Rattle.wz_io.proofs.reading.read_all.Given as goal

abbrev pub invariant-loop-count : goal.invariant-loop-count
invariant-loop-count g l = HasRead l.limit (g.F.Files.world l.initial.files) (g.F.Files.world l.files) l.all.items

abbrev pub decreases-loop-count : goal.decreases-loop-count
decreases-loop-count g l = l.limit + 1 - vec_len l.all
