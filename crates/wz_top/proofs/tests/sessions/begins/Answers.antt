use Rattle.std.proofs.Common.{subst}
use Rattle.wz_module.specs.Meaning.{module_of}
use Rattle.wz_machine.specs.State.{State}
use Rattle.wz_machine.specs.TypedState.{IsStateTyped, state_context}
use Rattle.wz_top.proofs.tests.sessions.begins.Goals as goal

pub observe-requires : goal.observe-requires
observe-requires g c = record {
  typed = c.new-machine.ensures.typed (subst (λ (s : State). IsStateTyped (state_context s) s)
      (c.states_by_bodies.ensures (module_of c.args.accepted.now) c.bodies.result.now c.in_ok-store.store c.bodies.ensures) c.in_ok-store.ensures);
}
