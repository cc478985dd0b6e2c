use Rattle.wz_valid.proofs.LawLemmas.{types_are_there, bodies_are_typed, declared_are_there}
use Rattle.wz_valid.proofs.laws.valid_functions.Goals as goal

pub returns-clause-types : goal.returns-clause-types
returns-clause-types c = types_are_there

pub returns-clause-bodies : goal.returns-clause-bodies
returns-clause-bodies c = bodies_are_typed

pub returns-clause-declared : goal.returns-clause-declared
returns-clause-declared c = declared_are_there
