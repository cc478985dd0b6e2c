use Rattle.wz_bytes.proofs.UnsignedLaws.{unsigned_below, unsigned_short}
use Rattle.wz_bytes.proofs.SignedLaws.{signed_within, signed_short}
use Rattle.wz_bytes.proofs.laws.spelling_is_bounded.Goals as goal

pub returns-clause-unsigned : goal.returns-clause-unsigned
returns-clause-unsigned c = unsigned_below

pub returns-clause-signed : goal.returns-clause-signed
returns-clause-signed c = signed_within

pub returns-clause-unsigned_length : goal.returns-clause-unsigned_length
returns-clause-unsigned_length c = unsigned_short

pub returns-clause-signed_length : goal.returns-clause-signed_length
returns-clause-signed_length c = signed_short
