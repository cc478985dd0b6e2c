use Rattle.std.proofs.Common.{sym}
use Rattle.wz_bytes.proofs.VectorLaws.{no_longer}
use Rattle.wz_decode_sections.specs.Limits.{IsTableType, table_type_at}
use Rattle.wz_decode_sections.proofs.TypeFormLaws.{table_type_exact}
use Rattle.wz_decode_sections.proofs.forms.TableTypesItem.take.Goals as goal

pub returns-in-Some-clause-left : goal.returns-in-Some-clause-left
returns-in-Some-clause-left c = no_longer (λ t x. IsTableType t x) (λ b. table_type_at b) table_type_exact _ _ _ (sym c.in-Some.ensures)
