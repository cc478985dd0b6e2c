use Rattle.std.proofs.Common.{◌≡◌, ◌+◌, ◌-◌, ◌*◌, ◌^◌, ◌<◌, ◌≤◌, ◌++◌, take, length}
use Rattle.wz_bytes.specs.Shortest.{unsigned_groups, shortest_unsigned}
use Rattle.wz_bytes.proofs.unsigned.groups_of.Given as goal

abbrev pub invariant-loop-rest : goal.invariant-loop-rest
invariant-loop-rest l = record {
  size : length l.groups ≡ 10;
  few : l.count ≤ 9;
  below : l.rest < 2 ^ (64 - 7 * l.count);
  so_far : take l.count l.groups ++ unsigned_groups (9 - l.count) l.rest ≡ shortest_unsigned l.value;
}

abbrev pub decreases-loop-rest : goal.decreases-loop-rest
decreases-loop-rest l = l.rest + 1 - 128
