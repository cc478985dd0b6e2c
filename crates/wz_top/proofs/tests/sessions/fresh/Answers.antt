use Rattle.wz_module.specs.Meaning.{module_of}
use Rattle.wz_init.specs.States.{state_in}
use Rattle.wz_top.proofs.HeadlineLaws.{data_bytes}
use Rattle.wz_top.proofs.tests.sessions.fresh.Goals as goal

pub returns-in-Ok : goal.returns-in-Ok
returns-in-Ok c =
    let m = module_of c.args.accepted.now in
    let input = c.requires.1 in
    c.states_are_typed.ensures.fresh m (state_in m c.in-Ok.store) input.valid input.inside (data_bytes c.requires.0 m input.spelled) c.in-Ok.ensures.fresh
