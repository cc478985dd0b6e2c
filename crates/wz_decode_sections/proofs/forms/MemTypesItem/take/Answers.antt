use Rattle.std.proofs.Common.{sym}
use Rattle.wz_bytes.proofs.VectorLaws.{no_longer}
use Rattle.wz_decode_sections.specs.Limits.{IsMemType, mem_type_at}
use Rattle.wz_decode_sections.proofs.TypeFormLaws.{mem_type_exact}
use Rattle.wz_decode_sections.proofs.forms.MemTypesItem.take.Goals as goal

pub returns-in-Some-clause-left : goal.returns-in-Some-clause-left
returns-in-Some-clause-left c = no_longer (λ t x. IsMemType t x) (λ b. mem_type_at b) mem_type_exact _ _ _ (sym c.in-Some.ensures)
