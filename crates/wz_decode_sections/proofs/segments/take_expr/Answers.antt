use Rattle.wz_bytes.proofs.VectorLaws.{no_longer}
use Rattle.wz_decode_code.specs.Code.{IsExpression}
use Rattle.wz_decode_code.specs.Reading.{expression_at}
use Rattle.wz_decode_code.proofs.CodeLaws.{expression_exact}
use Rattle.wz_decode_sections.proofs.segments.take_expr.Goals as goal

pub returns-in-Ok-clause-left : goal.returns-in-Ok-clause-left
returns-in-Ok-clause-left c = no_longer IsExpression (λ b. expression_at b) expression_exact _ _ _ c.in-Ok.ensures.exact
