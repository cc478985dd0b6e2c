use Rattle.std.proofs.Common.{List, ap}
use Rattle.wz_plan.specs.declared.runs.Run.{Run}
use Rattle.wz_plan.specs.Plan.{runs, runs_at}
use Rattle.wz_plan.specs.Scanned.{Found, found_in, merged}
use Rattle.wz_plan.proofs.scan.Scan.new.Goals as goal

pub returns : goal.returns
unfolding found_in merged runs runs_at
returns c = ap (λ (ranges : List Run). let found : Found = record { runs = ranges; end = 0 } in found) c.new.ensures.items
