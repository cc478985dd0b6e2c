use Rattle.wz_linear.proofs.WriteLemmas.{writes_join, writes_replace, writes_swap, write_of_same}
use Rattle.wz_linear.proofs.laws.write_after_write.Goals as goal

pub returns-clause-join : goal.returns-clause-join
returns-clause-join c = writes_join

pub returns-clause-replace : goal.returns-clause-replace
returns-clause-replace c = writes_replace

pub returns-clause-swap : goal.returns-clause-swap
returns-clause-swap c = writes_swap

pub returns-clause-same : goal.returns-clause-same
returns-clause-same c = write_of_same
