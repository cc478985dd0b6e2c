use Rattle.wz_bytes.proofs.VectorLaws.{no_longer}
use Rattle.wz_decode_code.specs.Types.{IsValType, type_at}
use Rattle.wz_decode_code.proofs.TypeLaws.{type_exact}
use Rattle.wz_decode_sections.proofs.types.ValTypesItem.take.Goals as goal

pub returns-in-Some-clause-left : goal.returns-in-Some-clause-left
returns-in-Some-clause-left c = no_longer (λ t x. IsValType t x) (λ b. type_at b) type_exact _ _ _ c.in-Some.ensures.exact.0
