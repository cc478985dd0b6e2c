use Rattle.std.proofs.Common.{◌≡◌, ◌≤◌, ◌*◌, take}
use Rattle.std.specs.List.{sum_by}
use Rattle.wz_valid.proofs.profile_rules.runs_length.Given as goal

abbrev pub invariant-loop-run : goal.invariant-loop-run
invariant-loop-run l = (l.count ≡ sum_by (λ run. run.0) (take l.run-index l.runs)) × (l.count ≤ l.run-index * 4294967295)
