use Rattle.wz_init.proofs.laws.sessions_are_never_stuck.Goals as goal

pub returns-clause-fresh : goal.returns-clause-fresh
returns-clause-fresh c m s exports moves valid profile datas e =
    c.never_stuck.ensures.sessions s exports moves (c.states_are_typed.ensures.fresh m s valid profile datas e)

pub returns-clause-reached : goal.returns-clause-reached
returns-clause-reached c m order s ticks exports moves valid profile datas runnable e =
    c.never_stuck.ensures.sessions s exports moves (c.states_are_typed.ensures.run m order s ticks valid profile datas runnable e)
