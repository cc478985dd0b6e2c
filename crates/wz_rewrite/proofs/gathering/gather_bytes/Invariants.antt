use Rattle.std.proofs.Common.{◌-◌, ◌<◌, ◌≤◌, ◌++◌, length, take}
use Rattle.wz_rewrite.specs.Gathering.{Gathers}
use Rattle.wz_rewrite.proofs.gathering.gather_bytes.Given as goal

abbrev pub invariant-loop-done : goal.invariant-loop-done
invariant-loop-done g l = record {
  room : l.waiting < length l.buffer;
  within : l.done ≤ length l.bytes;
  gathered : Gathers (take l.fn.filled l.fn.buffer ++ take l.done l.bytes) (take l.waiting l.buffer) (g.F.Files.world l.fn.files) (g.F.Files.world l.files);
}

abbrev pub decreases-loop-done : goal.decreases-loop-done
decreases-loop-done g l = length l.bytes - l.done
