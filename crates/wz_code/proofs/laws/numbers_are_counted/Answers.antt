use Rattle.wz_code.proofs.LawLemmas.{times-append, times-here, not-times}
use Rattle.wz_code.proofs.laws.numbers_are_counted.Goals as goal

pub returns-clause-append : goal.returns-clause-append
returns-clause-append c = times-append

pub returns-clause-here : goal.returns-clause-here
returns-clause-here c = times-here

pub returns-clause-none : goal.returns-clause-none
returns-clause-none c = not-times
