use Rattle.wz_linear.proofs.WriteLemmas.{holds_what_was_written, holds_what_stood_apart}
use Rattle.wz_linear.proofs.laws.byte_after_write.Goals as goal

pub returns-clause-inside : goal.returns-clause-inside
returns-clause-inside c = holds_what_was_written

pub returns-clause-apart : goal.returns-clause-apart
returns-clause-apart c = holds_what_stood_apart
