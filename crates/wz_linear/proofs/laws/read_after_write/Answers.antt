use Rattle.wz_linear.proofs.WriteLemmas.{length-written, length-part, reads_what_was_written, reads_all_written, reads_what_stood_apart}
use Rattle.wz_linear.proofs.laws.read_after_write.Goals as goal

pub returns-clause-size : goal.returns-clause-size
returns-clause-size c = length-written

pub returns-clause-full : goal.returns-clause-full
returns-clause-full c = length-part

pub returns-clause-inside : goal.returns-clause-inside
returns-clause-inside c = reads_what_was_written

pub returns-clause-all : goal.returns-clause-all
returns-clause-all c = reads_all_written

pub returns-clause-apart : goal.returns-clause-apart
returns-clause-apart c = reads_what_stood_apart
