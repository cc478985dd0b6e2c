use Rattle.wz_plan.proofs.PlanLemmas.{finds_more, zeros_add_nothing, choice_is_plan}
use Rattle.wz_plan.proofs.laws.plan_by_scan.Goals as goal

pub returns-clause-more : goal.returns-clause-more
returns-clause-more c = finds_more

pub returns-clause-choice : goal.returns-clause-choice
returns-clause-choice c = choice_is_plan

pub returns-clause-zeros : goal.returns-clause-zeros
returns-clause-zeros c = zeros_add_nothing
