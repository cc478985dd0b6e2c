use Rattle.std.proofs.Common.{◌∙◌, sym, ap, subst}
use Rattle.wz_module.specs.Meaning.{module_of}
use Rattle.wz_machine.specs.State.{State}
use Rattle.wz_machine.specs.Machines.{machine_state, machine_stack}
use Rattle.wz_init.specs.Ready.{Ready, Reached, IsFaultOf}
use Rattle.wz_init.proofs.BeginLemmas.{machine_is, begun, begun_sound, begun_typed, begun_ended, begun_small, begun_takes, begun_ready}
use Rattle.wz_init.proofs.initialisation.run_store.Goals as goal

pub run_phases-requires-clause-ended : goal.run_phases-requires-clause-ended
run_phases-requires-clause-ended g c =
    let m = module_of c.args.module.now in
    let s = machine_state c.new-machine.result in
    let b = begun c.states_by_bodies.ensures c.reached_states.ensures.fresh m c.new-machine.result c.bodies.result.now c.args.store c.requires.valid c.requires.profile
    c.new-machine.ensures.bodies c.bodies.ensures c.new-machine.ensures.store c.requires.fresh in
    begun_ended m s (machine_stack c.new-machine.result) (begun_typed c.states_are_typed.ensures.fresh m s c.requires.valid c.requires.profile c.datas_hold_bytes.ensures b) b
    c.new-machine.ensures.stack

pub run_phases-requires-clause-sound : goal.run_phases-requires-clause-sound
run_phases-requires-clause-sound g c =
    let m = module_of c.args.module.now in
    let s = machine_state c.new-machine.result in
    let b = begun c.states_by_bodies.ensures c.reached_states.ensures.fresh m c.new-machine.result c.bodies.result.now c.args.store c.requires.valid c.requires.profile
    c.new-machine.ensures.bodies c.bodies.ensures c.new-machine.ensures.store c.requires.fresh in
    begun_sound m s b

pub run_phases-requires-clause-small : goal.run_phases-requires-clause-small
run_phases-requires-clause-small g c =
    let m = module_of c.args.module.now in
    let s = machine_state c.new-machine.result in
    let b = begun c.states_by_bodies.ensures c.reached_states.ensures.fresh m c.new-machine.result c.bodies.result.now c.args.store c.requires.valid c.requires.profile
    c.new-machine.ensures.bodies c.bodies.ensures c.new-machine.ensures.store c.requires.fresh in
    begun_small m s c.requires.profile b

pub run_phases-requires-clause-takes : goal.run_phases-requires-clause-takes
run_phases-requires-clause-takes g c =
    let m = module_of c.args.module.now in
    let s = machine_state c.new-machine.result in
    let b = begun c.states_by_bodies.ensures c.reached_states.ensures.fresh m c.new-machine.result c.bodies.result.now c.args.store c.requires.valid c.requires.profile
    c.new-machine.ensures.bodies c.bodies.ensures c.new-machine.ensures.store c.requires.fresh in
    begun_takes c.valid_items.ensures.start m s c.start.result c.args.order.now c.requires.valid c.requires.runnable
    (begun_typed c.states_are_typed.ensures.fresh m s c.requires.valid c.requires.profile c.datas_hold_bytes.ensures b) b c.start.ensures

pub returns-in-Ok-clause-reached : goal.returns-in-Ok-clause-reached
returns-in-Ok-clause-reached g c =
    let m = module_of c.args.module.now in
    let s = machine_state c.new-machine.result in
    let b = begun c.states_by_bodies.ensures c.reached_states.ensures.fresh m c.new-machine.result c.bodies.result.now c.args.store c.requires.valid c.requires.profile
    c.new-machine.ensures.bodies c.bodies.ensures c.new-machine.ensures.store c.requires.fresh in
    let after = c.run_phases.new.machine in
    begun_ready m s c.start.result c.args.order.now b c.start.ensures ∙ c.in-Ok.ensures.reached
    ∙ ap (λ (x : State). Reached x c.in-Ok.ticks)
    (sym (machine_is c.states_by_bodies.ensures m after c.bodies.result.now c.into_store.result (c.in-Ok.ensures.bodies ∙ c.new-machine.ensures.bodies) c.bodies.ensures
    (sym c.into_store.ensures)))

pub returns-clause-refused : goal.returns-clause-refused
returns-clause-refused g c =
    let m = module_of c.args.module.now in
    let s = machine_state c.new-machine.result in
    let b = begun c.states_by_bodies.ensures c.reached_states.ensures.fresh m c.new-machine.result c.bodies.result.now c.args.store c.requires.valid c.requires.profile
    c.new-machine.ensures.bodies c.bodies.ensures c.new-machine.ensures.store c.requires.fresh in
    subst (λ (e : Ready). IsFaultOf e c.in-Err.fault) (sym (begun_ready m s c.start.result c.args.order.now b c.start.ensures)) c.in-Err.ensures.refused
