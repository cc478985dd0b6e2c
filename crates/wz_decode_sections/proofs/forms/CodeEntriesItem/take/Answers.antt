use Rattle.wz_bytes.proofs.VectorLaws.{no_longer, on_ok}
use Rattle.wz_decode_sections.specs.CodeSection.{IsCodeEntry, code_entry_at}
use Rattle.wz_decode_sections.proofs.ItemLaws.{code_entry_exact}
use Rattle.wz_decode_sections.proofs.forms.CodeEntriesItem.take.Goals as goal

pub returns-clause-left : goal.returns-clause-left
returns-clause-left c = on_ok _ _ c.take_code_entry.result (λ x h. no_longer (λ t x. IsCodeEntry t x) (λ b. code_entry_at b) code_entry_exact _ _ _ h) c.take_code_entry.ensures.ok
