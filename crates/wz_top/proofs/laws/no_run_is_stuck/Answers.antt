use Rattle.wz_top.proofs.StuckLaws.{no_run_is_stuck}
use Rattle.wz_top.proofs.laws.no_run_is_stuck.Goals as goal

pub returns : goal.returns
returns c = no_run_is_stuck c.states_are_typed.ensures.stuck
