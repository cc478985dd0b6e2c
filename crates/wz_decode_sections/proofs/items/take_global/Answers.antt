use Rattle.std.proofs.Common.{arith, sym}
use Rattle.wz_bytes.proofs.VectorLaws.{no_longer}
use Rattle.wz_decode_sections.specs.GlobalTypes.{IsGlobalType, global_type_at}
use Rattle.wz_decode_sections.proofs.TypeFormLaws.{global_type_exact}
use Rattle.wz_decode_sections.proofs.items.take_global.Goals as goal

pub read_expr-requires : goal.read_expr-requires
read_expr-requires c = omega (arith, c.requires, no_longer (λ t x. IsGlobalType t x) (λ b. global_type_at b) global_type_exact _ _ _ (sym c.in-Some.ensures))
