use Rattle.wz_code.proofs.LawLemmas.{counts_instr, counts_block, counts_label, counts_type, counts_locals, short_by_count}
use Rattle.wz_code.proofs.laws.items_are_counted.Goals as goal

pub returns-clause-instr : goal.returns-clause-instr
returns-clause-instr c = counts_instr

pub returns-clause-block : goal.returns-clause-block
returns-clause-block c = counts_block

pub returns-clause-label : goal.returns-clause-label
returns-clause-label c = counts_label

pub returns-clause-type_ : goal.returns-clause-type_
returns-clause-type_ c = counts_type

pub returns-clause-locals : goal.returns-clause-locals
returns-clause-locals c = counts_locals

pub returns-clause-short : goal.returns-clause-short
returns-clause-short c = short_by_count
