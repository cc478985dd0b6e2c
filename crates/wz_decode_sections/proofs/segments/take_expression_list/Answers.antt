use Rattle.std.proofs.Common.{arith}
use Rattle.wz_bytes.proofs.VectorLaws.{no_longer}
use Rattle.wz_decode_code.specs.Types.{IsRefKind, kind_at}
use Rattle.wz_decode_code.proofs.TypeLaws.{kind_exact}
use Rattle.wz_decode_sections.proofs.segments.take_expression_list.Goals as goal

pub take_expressions-requires : goal.take_expressions-requires
take_expressions-requires c = omega (arith, c.requires, no_longer (λ t x. IsRefKind t x) (λ b. kind_at b) kind_exact _ _ _ c.in-Some.ensures.exact.0)
