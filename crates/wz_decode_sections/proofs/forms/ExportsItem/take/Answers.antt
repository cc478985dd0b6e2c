use Rattle.std.proofs.Common.{sym}
use Rattle.wz_bytes.proofs.VectorLaws.{no_longer}
use Rattle.wz_decode_sections.specs.ExportSection.{IsExport, export_at}
use Rattle.wz_decode_sections.proofs.ItemLaws.{export_exact}
use Rattle.wz_decode_sections.proofs.forms.ExportsItem.take.Goals as goal

pub returns-in-Some-clause-left : goal.returns-in-Some-clause-left
returns-in-Some-clause-left c = no_longer (λ t x. IsExport t x) (λ b. export_at b) export_exact _ _ _ (sym c.in-Some.ensures)
