use Rattle.std.proofs.Common.{◌≡◌, ◌≤◌, ◌*◌, take}
use Rattle.std.specs.List.{sum_by}
use Rattle.wz_valid.proofs.profile_rules.own_pages.Given as goal

abbrev pub invariant-loop-memory : goal.invariant-loop-memory
invariant-loop-memory l = (l.pages ≡ sum_by (λ memory. memory.limits.min) (take l.memory-index l.memories)) × (l.pages ≤ l.memory-index * 4294967295)
