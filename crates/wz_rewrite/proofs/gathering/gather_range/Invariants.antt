use Rattle.std.proofs.Common.{◌-◌, ◌≡◌, ◌<◌, ◌≤◌, ◌++◌, length, take}
use Rattle.wz_linear.specs.Bytes.{part}
use Rattle.wz_rewrite.specs.Gathering.{Gathers}
use Rattle.wz_rewrite.proofs.gathering.gather_range.Given as goal

abbrev pub invariant-loop-done : goal.invariant-loop-done
invariant-loop-done g l = record {
  room : l.waiting < length l.buffer;
  size : l.size ≡ l.len;
  within : l.done ≤ l.size;
  gathered : Gathers (take l.fn.filled l.fn.buffer ++ take l.done (part (g.M.Linear.contents l.memory) l.at l.len)) (take l.waiting l.buffer)
      (g.F.Files.world l.fn.files) (g.F.Files.world l.files);
}

abbrev pub decreases-loop-done : goal.decreases-loop-done
decreases-loop-done g l = l.size - l.done
