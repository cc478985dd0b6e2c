use Rattle.std.proofs.Common.{length}
use Rattle.wz_bytes.proofs.unsigned.+front.Given as goal

abbrev pub decreases-front : goal.decreases-front
decreases-front l = length l.bytes.now
