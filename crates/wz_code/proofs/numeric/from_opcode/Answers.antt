use Rattle.wz_code.proofs.NumericLemmas.{op_at-is}
use Rattle.wz_code.proofs.numeric.from_opcode.Goals as goal

pub returns-clause-value : goal.returns-clause-value
returns-clause-value c = op_at-is c.find_row.result c.args.byte c.args.second c.find_row.ensures.found c.find_row.ensures.none
