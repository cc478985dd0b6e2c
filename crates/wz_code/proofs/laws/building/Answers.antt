use Rattle.wz_code.proofs.LawLemmas.{starts_building, held_is_there}
use Rattle.wz_code.proofs.laws.building.Goals as goal

pub returns-clause-starts : goal.returns-clause-starts
returns-clause-starts c = starts_building

pub returns-clause-held : goal.returns-clause-held
returns-clause-held c = held_is_there
