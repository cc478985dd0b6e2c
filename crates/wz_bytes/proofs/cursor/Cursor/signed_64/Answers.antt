use Rattle.std.proofs.Common.{SFits, w64, rules}
use Rattle.std.proofs.lemmas.Int.{to_z-of_z}
use Rattle.wz_bytes.specs.Signed.{IsSigned, signed_at}
use Rattle.wz_bytes.proofs.ReadingLemmas.{passed, not_passed}
use Rattle.wz_bytes.proofs.SignedLaws.{signed_exact}
use Rattle.wz_bytes.proofs.cursor.Cursor.signed_64.Goals as goal

pub returns-in_err-value-clause-none : goal.returns-in_err-value-clause-none
returns-in_err-value-clause-none c = λ _. not_passed (λ t z. IsSigned 64 t z) (λ b. signed_at 64 b) (signed_exact 64) _ _ c.self.view_is c.in_err-value.ensures.exact

pub returns-clause-found : goal.returns-clause-found
returns-clause-found c =
    let fits : SFits w64 c.in_ok-value.value = search rules in
    let same = to_z-of_z w64 c.in_ok-value.value fits in
    rw same (passed (λ t z. IsSigned 64 t z) (λ b. signed_at 64 b) (signed_exact 64) _ _ c.self.view_is c.in_ok-value.value _ c.in_ok-value.ensures.exact)
