use Rattle.wz_bytes.specs.Unsigned.{IsUnsigned, unsigned_at}
use Rattle.wz_bytes.specs.Signed.{IsSigned, signed_at}
use Rattle.wz_bytes.specs.Name.{IsName, name_at}
use Rattle.wz_bytes.proofs.UnsignedLaws.{unsigned_exact}
use Rattle.wz_bytes.proofs.SignedLaws.{signed_exact}
use Rattle.wz_bytes.proofs.NameLaws.{name_exact}
use Rattle.wz_bytes.proofs.ReadingLemmas.{one_front}
use Rattle.wz_bytes.proofs.laws.at_most_one.Goals as goal

pub returns-clause-unsigned : goal.returns-clause-unsigned
returns-clause-unsigned c = λ bits. one_front (λ t n. IsUnsigned bits t n) (λ b. unsigned_at bits b) (unsigned_exact bits)

pub returns-clause-signed : goal.returns-clause-signed
returns-clause-signed c = λ bits. one_front (λ t z. IsSigned bits t z) (λ b. signed_at bits b) (signed_exact bits)

pub returns-clause-name : goal.returns-clause-name
returns-clause-name c = one_front IsName (λ b. name_at b) name_exact
