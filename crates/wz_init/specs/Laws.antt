-- What holds of fresh instances and of the states that runs reach, for the crates above (sections 4.5.3 and 4.5.4 of the Core
-- Specification).
use Rattle.std.specs.Prelude.{◌≡◌, ℕ, List, map}
use Rattle.wz_code.specs.BodyParts.{BodyParts}
use Rattle.wz_module.specs.Functions.{body_tree_of}
use Rattle.wz_module.specs.Module.{Module}
use Rattle.wz_valid.specs.Validity.{IsValid}
use Rattle.wz_valid.specs.Profile.{IsInProfile}
use Rattle.wz_store.specs.Made.{StoreState}
use Rattle.wz_machine.specs.State.{State, state_of}
use Rattle.wz_init.specs.declared.order.RunOrder.{RunOrder}
use Rattle.wz_init.specs.States.{state_in}
use Rattle.wz_init.specs.Instances.{Instance}
use Rattle.wz_init.specs.Instantiation.{fresh}
use Rattle.wz_init.specs.Ready.{Reached, ready}
use Rattle.wz_init.specs.Reached.{IsReachedOf}

-- a fresh instance has the module's parts, and holds fitting values alone
abbrev pub FreshIsReached : Type 0
FreshIsReached = (m : Module) (s : State) → IsValid m → IsInProfile m → fresh m ≡ Instance s → IsReachedOf m s

-- and so has what a run leaves of it
abbrev pub RunIsReached : Type 0
RunIsReached = (m : Module) (order : RunOrder) (s : State) (ticks : ℕ) → IsValid m → IsInProfile m → ready m order ≡ Reached s ticks → IsReachedOf m s

-- a store is the same state of the module as with its bodies in numbered blocks
abbrev pub StateByBodies : Type 0
StateByBodies = (m : Module) (bodies : List BodyParts) (store : StoreState) → map body_tree_of bodies ≡ m.bodies → state_in m store ≡ state_of bodies store
