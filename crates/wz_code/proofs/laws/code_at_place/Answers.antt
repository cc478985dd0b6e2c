use Rattle.wz_code.proofs.LawLemmas.{code_at_start, code_at_instr, code_at_end}
use Rattle.wz_code.proofs.laws.code_at_place.Goals as goal

pub returns-clause-start : goal.returns-clause-start
returns-clause-start c = code_at_start

pub returns-clause-instr : goal.returns-clause-instr
returns-clause-instr c = code_at_instr

pub returns-clause-end : goal.returns-clause-end
returns-clause-end c = code_at_end
