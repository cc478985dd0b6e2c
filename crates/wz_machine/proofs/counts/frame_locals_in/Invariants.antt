use Rattle.std.proofs.Common.{◌≡◌, ◌≤◌, ◌*◌, ◌^◌, take}
use Rattle.wz_machine.specs.Frames.{locals_in_all}
use Rattle.wz_machine.specs.Standings.{stack_of}
use Rattle.wz_machine.proofs.counts.frame_locals_in.Given as goal

abbrev pub invariant-loop-standing : goal.invariant-loop-standing
invariant-loop-standing l = record {
  counted : l.count ≡ locals_in_all (stack_of (take l.standing-index l.standings));
  few : l.count ≤ l.standing-index * 2 ^ 32;
}
