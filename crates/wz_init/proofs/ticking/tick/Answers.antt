use Rattle.wz_machine.specs.Machines.{machine_state, machine_stack}
use Rattle.wz_init.proofs.TickingLemmas.{ticked, seen}
use Rattle.wz_init.proofs.ticking.tick.Goals as goal

pub returns-clause-ticked : goal.returns-clause-ticked
returns-clause-ticked g c =
    let old = c.args.machine.now in
    let new = c.tick.new.self in
    ticked c.steps_write.ensures.store old new c.in_ok-tick.tick c.turned.result c.requires.alone c.in_ok-tick.ensures.event c.in_ok-tick.ensures.reply
    c.turned.ensures

pub turned-requires : goal.turned-requires
turned-requires g c =
    let old = c.args.machine.now in
    seen c.never_stuck.ensures.steps (machine_state old) (machine_stack old) c.in_ok-tick.tick c.requires.typed c.requires.alone c.in_ok-tick.ensures.event
