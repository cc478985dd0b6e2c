use Rattle.wz_code.proofs.AccessLemmas.{access_at-is}
use Rattle.wz_code.proofs.accesses.access_from_opcode.Goals as goal

pub returns-clause-value : goal.returns-clause-value
returns-clause-value c = access_at-is c.find_row.result c.args.byte c.find_row.ensures.found c.find_row.ensures.none
