use Rattle.wz_plan.proofs.LeastLemmas.{plan_is_least}
use Rattle.wz_plan.proofs.laws.cost_of_plan.Goals as goal

pub returns : goal.returns
returns c = record { least = plan_is_least }
