use Rattle.wz_num.proofs.WordLemmas.{signs_are_exact, quotients_are_exact, bits_are_exact, leading_zeros_are_exact, trailing_zeros_are_exact, ones_are_exact}
use Rattle.wz_num.proofs.laws.words_are_exact.Goals as goal

pub returns-clause-signs : goal.returns-clause-signs
returns-clause-signs c = signs_are_exact

pub returns-clause-quotients : goal.returns-clause-quotients
returns-clause-quotients c = quotients_are_exact

pub returns-clause-bits : goal.returns-clause-bits
returns-clause-bits c = bits_are_exact

pub returns-clause-leading_zeros : goal.returns-clause-leading_zeros
returns-clause-leading_zeros c = leading_zeros_are_exact

pub returns-clause-trailing_zeros : goal.returns-clause-trailing_zeros
returns-clause-trailing_zeros c = trailing_zeros_are_exact

pub returns-clause-ones : goal.returns-clause-ones
returns-clause-ones c = ones_are_exact
