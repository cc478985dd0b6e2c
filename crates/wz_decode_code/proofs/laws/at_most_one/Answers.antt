use Rattle.wz_bytes.proofs.ReadingLemmas.{one_front}
use Rattle.wz_decode_code.specs.Code.{IsExpression}
use Rattle.wz_decode_code.specs.Reading.{expression_at}
use Rattle.wz_decode_code.proofs.CodeLaws.{expression_exact}
use Rattle.wz_decode_code.proofs.EntryLaws.{one_entry}
use Rattle.wz_decode_code.proofs.laws.at_most_one.Goals as goal

pub returns-clause-expression : goal.returns-clause-expression
returns-clause-expression c = one_front IsExpression (λ b. expression_at b) expression_exact

pub returns-clause-entry : goal.returns-clause-entry
returns-clause-entry c = one_entry
