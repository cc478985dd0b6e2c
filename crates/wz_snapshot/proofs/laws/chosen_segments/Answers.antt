use Rattle.wz_snapshot.proofs.LawLemmas.{few, ranges}
use Rattle.wz_snapshot.proofs.laws.chosen_segments.Goals as goal

pub returns-clause-few : goal.returns-clause-few
returns-clause-few c = few c.ranges_of_plan.ensures.few

pub returns-clause-ranges : goal.returns-clause-ranges
returns-clause-ranges c = ranges c.ranges_of_plan.ensures.within c.ranges_of_plan.ensures.tight
