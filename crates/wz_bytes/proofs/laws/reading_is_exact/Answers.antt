use Rattle.wz_bytes.proofs.UnsignedLaws.{unsigned_exact}
use Rattle.wz_bytes.proofs.SignedLaws.{signed_exact}
use Rattle.wz_bytes.proofs.NameLaws.{name_exact}
use Rattle.wz_bytes.proofs.laws.reading_is_exact.Goals as goal

pub returns-clause-unsigned : goal.returns-clause-unsigned
returns-clause-unsigned c = unsigned_exact

pub returns-clause-signed : goal.returns-clause-signed
returns-clause-signed c = signed_exact

pub returns-clause-name : goal.returns-clause-name
returns-clause-name c = name_exact
