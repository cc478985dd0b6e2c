use Rattle.wz_linear.proofs.NumberLemmas.{number_of_zeros}
use Rattle.wz_linear.proofs.WriteLemmas.{growth_keeps_ranges, range_of_equal_bytes}
use Rattle.wz_linear.proofs.laws.read_after_growth.Goals as goal

pub returns-clause-kept : goal.returns-clause-kept
returns-clause-kept c = growth_keeps_ranges

pub returns-clause-equal : goal.returns-clause-equal
returns-clause-equal c = range_of_equal_bytes

pub returns-clause-zero : goal.returns-clause-zero
returns-clause-zero c = number_of_zeros
