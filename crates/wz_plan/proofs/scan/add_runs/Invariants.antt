use Rattle.std.proofs.Common.{◌≡◌, ◌+◌, ◌-◌, ◌≤◌, ◌++◌, length, take}
use Rattle.wz_plan.specs.Ranges.{EndsBy}
use Rattle.wz_plan.specs.Plan.{nonzero_places}
use Rattle.wz_plan.specs.Scanned.{merged}
use Rattle.wz_plan.specs.Collected.{KeepsFront}
use Rattle.wz_plan.proofs.scan.add_runs.Given as goal

abbrev pub invariant-loop-found : goal.invariant-loop-found
invariant-loop-found l = record {
  in_bytes : l.from ≤ length l.bytes;
  merged : l.runs.items ≡ merged (l.initial.runs.items ++ nonzero_places l.at (take l.from l.bytes));
  ends : EndsBy (l.at + l.from) l.runs.items;
  front : KeepsFront l.initial.runs.items l.runs.items;
}

abbrev pub decreases-loop-found : goal.decreases-loop-found
decreases-loop-found l = length l.bytes - l.from
