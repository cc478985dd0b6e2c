use Rattle.std.proofs.Common.{sym}
use Rattle.wz_bytes.proofs.VectorLaws.{no_longer}
use Rattle.wz_decode_sections.specs.ImportSection.{IsImport, import_at}
use Rattle.wz_decode_sections.proofs.ItemLaws.{import_exact}
use Rattle.wz_decode_sections.proofs.forms.ImportsItem.take.Goals as goal

pub returns-in-Some-clause-left : goal.returns-in-Some-clause-left
returns-in-Some-clause-left c = no_longer (λ t x. IsImport t x) (λ b. import_at b) import_exact _ _ _ (sym c.in-Some.ensures)
