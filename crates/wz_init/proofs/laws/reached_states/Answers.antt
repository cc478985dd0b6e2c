use Rattle.wz_init.proofs.LawLemmas.{fresh_is_reached, run_is_reached}
use Rattle.wz_init.proofs.laws.reached_states.Goals as goal

pub returns-clause-fresh : goal.returns-clause-fresh
returns-clause-fresh c = fresh_is_reached c.valid_items.ensures.globals c.valid_items.ensures.elements

pub returns-clause-run : goal.returns-clause-run
returns-clause-run c = run_is_reached c.valid_items.ensures.globals c.valid_items.ensures.elements
