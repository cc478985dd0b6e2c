use Rattle.wz_valid.proofs.LawLemmas.{start_takes_nothing, exports_are_there, globals_are_ok, elements_are_ok, datas_are_ok}
use Rattle.wz_valid.proofs.laws.valid_items.Goals as goal

pub returns-clause-start : goal.returns-clause-start
returns-clause-start c = start_takes_nothing

pub returns-clause-exports : goal.returns-clause-exports
returns-clause-exports c = exports_are_there

pub returns-clause-globals : goal.returns-clause-globals
returns-clause-globals c = globals_are_ok

pub returns-clause-elements : goal.returns-clause-elements
returns-clause-elements c = elements_are_ok

pub returns-clause-datas : goal.returns-clause-datas
returns-clause-datas c = datas_are_ok
