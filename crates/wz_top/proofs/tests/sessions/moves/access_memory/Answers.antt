use Rattle.std.proofs.Common.{sym, subst}
use Rattle.wz_store.specs.Made.{StoreState}
use Rattle.wz_machine.specs.State.{state_of}
use Rattle.wz_machine.specs.Machines.{machine_stack}
use Rattle.wz_machine.specs.TypedTerms.{IsMachineTyped}
use Rattle.wz_top.proofs.tests.sessions.moves.access_memory.Goals as goal

pub returns : goal.returns
returns c =
    let machine = c.args.machine.now in
    c.access_store.ensures machine.bodies (machine_stack machine)
    (subst (λ (store : StoreState). IsMachineTyped (state_of machine.bodies store) (machine_stack machine)) (sym c.store_mut.ensures.value) c.requires)
