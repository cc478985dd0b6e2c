use Rattle.wz_init.proofs.LawLemmas.{state_by_bodies}
use Rattle.wz_init.proofs.laws.states_by_bodies.Goals as goal

pub returns : goal.returns
returns c = state_by_bodies
