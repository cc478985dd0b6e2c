use Rattle.wz_decode_code.proofs.CodeLaws.{expression_exact}
use Rattle.wz_decode_code.proofs.EntryLaws.{entry_exact}
use Rattle.wz_decode_code.proofs.TypeLaws.{type_exact, kind_exact}
use Rattle.wz_decode_code.proofs.laws.reading_is_exact.Goals as goal

pub returns-clause-expression : goal.returns-clause-expression
returns-clause-expression c = expression_exact

pub returns-clause-entry : goal.returns-clause-entry
returns-clause-entry c = entry_exact

pub returns-clause-type_ : goal.returns-clause-type_
returns-clause-type_ c = type_exact

pub returns-clause-kind : goal.returns-clause-kind
returns-clause-kind c = kind_exact
