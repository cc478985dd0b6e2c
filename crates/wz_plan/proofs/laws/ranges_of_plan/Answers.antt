use Rattle.wz_plan.proofs.CoverLemmas.{plan_covers, plan_rises, plan_is_within, plan_is_tight}
use Rattle.wz_plan.proofs.FewLemmas.{plan_is_few}
use Rattle.wz_plan.proofs.laws.ranges_of_plan.Goals as goal

pub returns-clause-covers : goal.returns-clause-covers
returns-clause-covers c = plan_covers

pub returns-clause-rises : goal.returns-clause-rises
returns-clause-rises c = plan_rises

pub returns-clause-within : goal.returns-clause-within
returns-clause-within c = plan_is_within

pub returns-clause-tight : goal.returns-clause-tight
returns-clause-tight c = plan_is_tight

pub returns-clause-few : goal.returns-clause-few
returns-clause-few c = plan_is_few
