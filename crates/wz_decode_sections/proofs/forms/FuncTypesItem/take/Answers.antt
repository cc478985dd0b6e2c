use Rattle.wz_bytes.proofs.VectorLaws.{no_longer, on_ok}
use Rattle.wz_decode_sections.specs.FunctionTypes.{IsFuncType, func_type_at}
use Rattle.wz_decode_sections.proofs.TypeFormLaws.{func_type_exact}
use Rattle.wz_decode_sections.proofs.forms.FuncTypesItem.take.Goals as goal

pub returns-clause-left : goal.returns-clause-left
returns-clause-left c = on_ok _ _ c.take_func_type.result (λ x h. no_longer (λ t x. IsFuncType t x) (λ b. func_type_at b) func_type_exact _ _ _ h) c.take_func_type.ensures.ok
