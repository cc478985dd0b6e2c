use Rattle.std.proofs.Common.{sym}
use Rattle.wz_bytes.proofs.ReadingLemmas.{none_given}
use Rattle.wz_bytes.proofs.FormLaws.{all_found, all_again}
use Rattle.wz_decode_code.specs.Instructions.{IsU32}
use Rattle.wz_decode_code.specs.InstrReading.{u32_at}
use Rattle.wz_decode_sections.proofs.TypeFormLaws.{u32_exact}
use Rattle.wz_decode_sections.proofs.sections.read_start.Goals as goal

pub returns-in-Some-clause-found : goal.returns-in-Some-clause-found
returns-in-Some-clause-found c = all_found (λ t n. IsU32 t n) (λ b. u32_at b) u32_exact c.args.payload.now _ (sym c.in-Some.ensures)

pub returns-in-None-clause-bad : goal.returns-in-None-clause-bad
returns-in-None-clause-bad c = λ _ n h. none_given n _ (sym c.in-None.ensures) (all_again (λ t n. IsU32 t n) (λ b. u32_at b) u32_exact c.args.payload.now n h)
