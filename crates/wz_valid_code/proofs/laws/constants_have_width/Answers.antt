use Rattle.wz_valid_code.proofs.WidthLemmas.{typed_has_width, constant_has_width}
use Rattle.wz_valid_code.proofs.laws.constants_have_width.Goals as goal

pub returns-clause-typed : goal.returns-clause-typed
returns-clause-typed c = typed_has_width

pub returns-clause-constant : goal.returns-clause-constant
returns-clause-constant c = constant_has_width
