use Rattle.wz_bytes.proofs.ShortestLaws.{unsigned_shortest, signed_shortest}
use Rattle.wz_bytes.proofs.NameLaws.{name_spelled}
use Rattle.wz_bytes.proofs.UnsignedLaws.{one_unsigned_of_length}
use Rattle.wz_bytes.proofs.SignedLaws.{one_signed_of_length}
use Rattle.wz_bytes.proofs.laws.written_is_shortest.Goals as goal

pub returns-clause-unsigned : goal.returns-clause-unsigned
returns-clause-unsigned c = unsigned_shortest

pub returns-clause-signed : goal.returns-clause-signed
returns-clause-signed c = signed_shortest

pub returns-clause-name : goal.returns-clause-name
returns-clause-name c = name_spelled

pub returns-clause-only_unsigned : goal.returns-clause-only_unsigned
returns-clause-only_unsigned c = one_unsigned_of_length

pub returns-clause-only_signed : goal.returns-clause-only_signed
returns-clause-only_signed c = one_signed_of_length
