use Rattle.std.proofs.Common.{◌≡◌, ◌-◌, ◌*◌, ◌^◌, ◌<◌, ◌≤◌, ◌++◌, take, length}
use Rattle.wz_bytes.specs.Shortest.{signed_groups, shortest_signed}
use Rattle.wz_bytes.proofs.ShortestLemmas.{size_of}
use Rattle.wz_bytes.proofs.signed.groups_of.Given as goal

abbrev pub invariant-loop-groups : goal.invariant-loop-groups
invariant-loop-groups l = record {
  size : length l.groups ≡ 10;
  few : l.count ≤ 9;
  below : size_of l.rest < 2 ^ (63 - 7 * l.count);
  so_far : take l.count l.groups ++ signed_groups (9 - l.count) l.rest ≡ shortest_signed l.value;
}

abbrev pub decreases-loop-groups : goal.decreases-loop-groups
decreases-loop-groups l = size_of l.rest
