use Rattle.wz_machine.proofs.FlatLemmas.{leaving_term, looping_term}
use Rattle.wz_machine.proofs.laws.flat_terms.Goals as goal

pub returns-clause-leaving : goal.returns-clause-leaving
returns-clause-leaving c = leaving_term

pub returns-clause-looping : goal.returns-clause-looping
returns-clause-looping c = looping_term
