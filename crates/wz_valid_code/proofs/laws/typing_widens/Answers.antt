use Rattle.wz_valid_code.proofs.WideningLemmas.{typing_widens, constant_widens}
use Rattle.wz_valid_code.proofs.laws.typing_widens.Goals as goal

pub returns-clause-typing : goal.returns-clause-typing
returns-clause-typing c = typing_widens

pub returns-clause-constant : goal.returns-clause-constant
returns-clause-constant c = constant_widens
