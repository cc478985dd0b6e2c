use Rattle.wz_code.proofs.LawLemmas.{joined_end, joined_assoc}
use Rattle.wz_code.proofs.laws.code_is_joined.Goals as goal

pub returns-clause-end : goal.returns-clause-end
returns-clause-end c = joined_end

pub returns-clause-assoc : goal.returns-clause-assoc
returns-clause-assoc c = joined_assoc
