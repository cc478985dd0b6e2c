use Rattle.wz_machine.specs.Machines.{machine_state, machine_stack}
use Rattle.wz_init.proofs.TickingLemmas.{advanced}
use Rattle.wz_init.proofs.ticking.advance.Goals as goal

pub returns-clause-made : goal.returns-clause-made
returns-clause-made g c =
    let old = c.args.machine.now in
    let new = c.advance.new.self in
    advanced c.in_ok-done.done c.args.limit (machine_state old) (machine_state new) (machine_stack old) (machine_stack new) c.requires.alone c.in_ok-done.ensures.advanced
