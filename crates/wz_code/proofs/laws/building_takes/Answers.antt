use Rattle.wz_code.proofs.LawLemmas.{taking_instr, taking_block, taking_label, taking_type, taking_pools}
use Rattle.wz_code.proofs.laws.building_takes.Goals as goal

pub returns-clause-instr : goal.returns-clause-instr
returns-clause-instr c = taking_instr

pub returns-clause-block : goal.returns-clause-block
returns-clause-block c = taking_block

pub returns-clause-label : goal.returns-clause-label
returns-clause-label c = taking_label

pub returns-clause-type_ : goal.returns-clause-type_
returns-clause-type_ c = taking_type

pub returns-clause-pools : goal.returns-clause-pools
returns-clause-pools c = taking_pools
