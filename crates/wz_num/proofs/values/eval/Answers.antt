use Rattle.wz_num.specs.Number.{number, meaning_of}
use Rattle.wz_num.proofs.StuckLemmas.{too_many}
use Rattle.wz_num.proofs.values.eval.Goals as goal

pub returns-in_default-2 : goal.returns-in_default-2
unfolding number
returns-in_default-2 c = too_many (meaning_of c.args.op) c.args.operands.now c.in_default.len_at_least
