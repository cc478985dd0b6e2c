use Rattle.wz_bytes.proofs.VectorLaws.{no_longer, on_ok}
use Rattle.wz_decode_sections.specs.DataSection.{IsData, data_at}
use Rattle.wz_decode_sections.proofs.SegmentLaws.{data_exact}
use Rattle.wz_decode_sections.proofs.forms.DataSegmentsItem.take.Goals as goal

pub returns-clause-left : goal.returns-clause-left
returns-clause-left c = on_ok _ _ c.take_data.result (λ x h. no_longer (λ t x. IsData t x) (λ b. data_at b) data_exact _ _ _ h) c.take_data.ensures.ok
