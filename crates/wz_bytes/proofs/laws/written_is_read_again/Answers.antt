use Rattle.wz_bytes.proofs.UnsignedLaws.{unsigned_exact}
use Rattle.wz_bytes.proofs.SignedLaws.{signed_exact}
use Rattle.wz_bytes.proofs.NameLaws.{name_exact}
use Rattle.wz_bytes.specs.Shortest.{shortest_unsigned, shortest_signed}
use Rattle.wz_bytes.proofs.ShortestLaws.{unsigned_shortest, signed_shortest}
use Rattle.wz_bytes.proofs.NameLaws.{name_spelled}
use Rattle.std.proofs.Common.{◌++◌, length}
use Rattle.wz_bytes.proofs.laws.written_is_read_again.Goals as goal

pub returns-clause-unsigned : goal.returns-clause-unsigned
returns-clause-unsigned c = λ bits n rest fits small. (unsigned_exact bits).again (shortest_unsigned n) n rest (unsigned_shortest bits n fits small).spelled

pub returns-clause-signed : goal.returns-clause-signed
returns-clause-signed c = λ bits z rest fits small. (signed_exact bits).again (shortest_signed z) z rest (signed_shortest bits z fits small).spelled

pub returns-clause-name : goal.returns-clause-name
returns-clause-name c = λ name rest utf8 few. name_exact.again (shortest_unsigned (length name) ++ name) name rest (name_spelled name utf8 few)
