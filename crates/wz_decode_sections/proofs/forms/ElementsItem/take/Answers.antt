use Rattle.wz_bytes.proofs.VectorLaws.{no_longer, on_ok}
use Rattle.wz_decode_sections.specs.ElementSection.{IsElem, elem_at}
use Rattle.wz_decode_sections.proofs.SegmentLaws.{elem_exact}
use Rattle.wz_decode_sections.proofs.forms.ElementsItem.take.Goals as goal

pub returns-clause-left : goal.returns-clause-left
returns-clause-left c = on_ok _ _ c.take_elem.result (λ x h. no_longer (λ t x. IsElem t x) (λ b. elem_at b) elem_exact _ _ _ h) c.take_elem.ensures.ok
