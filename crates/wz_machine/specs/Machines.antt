-- What contracts see of a machine: the state, the stack of terms, and what a move from outside leaves of both.
use Rattle.std.specs.Prelude.{◌≡◌, List, map}
use Rattle.wz_code.specs.BodyParts.{BodyParts}
use Rattle.wz_store.specs.Made.{StoreState}
use Rattle.wz_store.specs.Changes.{applied}
use Rattle.wz_machine.specs.State.{State, state_of}
use Rattle.wz_machine.specs.Terms.{Standing}
use Rattle.wz_machine.specs.Replies.{Reply}
use Rattle.wz_machine.specs.Standings.{StandingParts, standing_of}

-- the bodies of the functions, the store, in whatever form, and the terms, the topmost first
pub record MachinePartsOver (S : Type 0) : Type 0 where
  pub bodies : List BodyParts
  pub store : S
  pub standings : List StandingParts

abbrev pub MachineParts : Type 0
MachineParts = MachinePartsOver StoreState

abbrev pub machine_state : MachineParts → State
machine_state machine = state_of machine.bodies machine.store

abbrev pub machine_stack : MachineParts → List Standing
machine_stack machine = map standing_of machine.standings

-- the machine after a move that comes to this reply; the state is then `applied reply.change` of the state before
pub record IsReplied (old new : MachineParts) (reply : Reply) : Type 0 where
  pub bodies : new.bodies ≡ old.bodies
  pub store : new.store ≡ applied reply.change old.store
  pub stack : machine_stack new ≡ reply.stack
