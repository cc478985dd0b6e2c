use Rattle.wz_bytes.specs.Unsigned.{IsUnsigned, unsigned_at}
use Rattle.wz_bytes.proofs.ReadingLemmas.{passed, not_passed}
use Rattle.wz_bytes.proofs.UnsignedLaws.{unsigned_exact}
use Rattle.wz_bytes.proofs.cursor.Cursor.number.Goals as goal

pub returns-in_err-value-clause-none : goal.returns-in_err-value-clause-none
returns-in_err-value-clause-none c = λ _. not_passed (λ t n. IsUnsigned 32 t n) (λ b. unsigned_at 32 b) (unsigned_exact 32) _ _ c.self.view_is c.in_err-value.ensures.exact

pub returns-clause-found : goal.returns-clause-found
returns-clause-found c = passed (λ t n. IsUnsigned 32 t n) (λ b. unsigned_at 32 b) (unsigned_exact 32) _ _ c.self.view_is c.in_ok-value.value _ c.in_ok-value.ensures.exact
