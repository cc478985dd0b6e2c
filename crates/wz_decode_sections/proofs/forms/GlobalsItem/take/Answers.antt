use Rattle.wz_bytes.proofs.VectorLaws.{no_longer, on_ok}
use Rattle.wz_decode_sections.specs.GlobalSection.{IsGlobalDef, global_def_at}
use Rattle.wz_decode_sections.proofs.ItemLaws.{global_def_exact}
use Rattle.wz_decode_sections.proofs.forms.GlobalsItem.take.Goals as goal

pub returns-clause-left : goal.returns-clause-left
returns-clause-left c = on_ok _ _ c.take_global.result (λ x h. no_longer (λ t x. IsGlobalDef t x) (λ b. global_def_at b) global_def_exact _ _ _ h) c.take_global.ensures.ok
