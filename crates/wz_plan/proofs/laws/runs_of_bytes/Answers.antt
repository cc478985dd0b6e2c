use Rattle.wz_plan.proofs.CoverLemmas.{runs_are_nonzero, runs_rise, runs_cover}
use Rattle.wz_plan.proofs.laws.runs_of_bytes.Goals as goal

pub returns-clause-nonzero : goal.returns-clause-nonzero
returns-clause-nonzero c = runs_are_nonzero

pub returns-clause-rise : goal.returns-clause-rise
returns-clause-rise c = runs_rise

pub returns-clause-cover : goal.returns-clause-cover
returns-clause-cover c = runs_cover
