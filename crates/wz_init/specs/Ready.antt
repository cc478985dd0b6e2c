-- Instantiation and the run of a module's functions by one fuel, which is the tool's own: the start function (section 4.5.4 of the Core
-- Specification), then a reactor's, then the one that initialises.
use Rattle.std.specs.Prelude.{◌≡◌, ℕ, List, [], ◌∷◌, ◌++◌, Option, Some, None}
use Rattle.wz_module.specs.Module.{Module}
use Rattle.wz_store.specs.Made.{StoreState}
use Rattle.wz_machine.specs.State.{State}
use Rattle.wz_init.specs.declared.order.RunOrder.{RunOrder}
use Rattle.wz_init.specs.declared.order.Phase.{Phase}
use Rattle.wz_init.specs.declared.order.Phase.TheVariants as phase
use Rattle.wz_init.specs.declared.faults.InitFault.{InitFault}
use Rattle.wz_init.specs.declared.faults.InitFault.TheVariants as fault
use Rattle.wz_init.specs.States.{state_in}
use Rattle.wz_init.specs.Instances.{Instance, ElementUnfit, DataUnfit, NoInstance, Fresh}
use Rattle.wz_init.specs.Instantiation.{fresh}
use Rattle.wz_init.specs.Run.{StopReason, FuelIsSpent, TableWouldChange, FramesAreTooMany, LocalsAreTooMany, StepTraps, FloatIsAsked, ImportIsCalled, RunEnd, Returned, Stopped, run}

pub data Ready : Type 0 where
  -- the state that the last function left, and the ticks of all of them
  Reached : State → ℕ → Ready
  -- the phase whose function didn't return, and why
  StoppedIn : Phase → StopReason → Ready
  -- the segment that didn't fit
  UnfitElement : ℕ → Ready
  UnfitData : ℕ → Ready
  -- of no valid module in the tool's profile
  NeverMade : Ready

-- ---- the phases

abbrev pub phase_of : Phase → Option ℕ → List (Phase × ℕ)
phase_of phase None = []
phase_of phase (Some function) = (phase, function) ∷ []

-- each with its function, behind this start function
abbrev pub phases : Option ℕ → RunOrder → List (Phase × ℕ)
phases start order = phase_of phase.Start start ++ (phase_of phase.Reactor order.reactor ++ (phase.Init, order.function) ∷ [])

-- the later phases go on with the state, the fuel and the ticks that one leaves
abbrev pub phase_end : Phase → (State → ℕ → ℕ → Ready) → RunEnd → Ready
phase_end phase later (Returned s fuel ticks) = later s fuel ticks
phase_end phase later (Stopped stop) = StoppedIn phase stop

unfoldable pub phases_run : List (Phase × ℕ) → State → ℕ → ℕ → Ready
phases_run [] s fuel ticks = Reached s ticks
phases_run (now ∷ later) s fuel ticks = phase_end now.0 (λ new left made. phases_run later new left made) (run s now.1 fuel ticks)

-- ---- the whole

abbrev pub ready_from : Module → RunOrder → Fresh → Ready
ready_from m order (Instance s) = phases_run (phases m.start order) s order.fuel 0
ready_from m order (ElementUnfit index) = UnfitElement index
ready_from m order (DataUnfit index) = UnfitData index
ready_from m order NoInstance = NeverMade

unfoldable pub ready : Module → RunOrder → Ready
ready m order = ready_from m order (fresh m)

-- ---- what the answers of the call say

-- the store that was reached, and the ticks
abbrev pub IsReached : Module → RunOrder → StoreState → ℕ → Type 0
IsReached m order store ticks = ready m order ≡ Reached (state_in m store) ticks

-- why a run came to no state; want of memory has no cause in the module
abbrev pub IsFaultOf : Ready → InitFault → Type 0
IsFaultOf end (fault.ElementOutOfBounds index) = end ≡ UnfitElement index
IsFaultOf end (fault.DataOutOfBounds index) = end ≡ UnfitData index
IsFaultOf end (fault.Trap phase kind) = end ≡ StoppedIn phase (StepTraps kind)
IsFaultOf end fault.OutOfFuel = (phase : Phase) × (end ≡ StoppedIn phase FuelIsSpent)
IsFaultOf end (fault.ImportCalled import) = (phase : Phase) × (end ≡ StoppedIn phase (ImportIsCalled import))
IsFaultOf end (fault.FloatUsed op) = (phase : Phase) × (end ≡ StoppedIn phase (FloatIsAsked op))
IsFaultOf end fault.TableChanged = (phase : Phase) × (end ≡ StoppedIn phase TableWouldChange)
IsFaultOf end fault.TooManyFrames = (phase : Phase) × (end ≡ StoppedIn phase FramesAreTooMany)
IsFaultOf end fault.TooManyFrameLocals = (phase : Phase) × (end ≡ StoppedIn phase LocalsAreTooMany)
IsFaultOf end fault.NoMemory = Unit {0}

abbrev pub IsRefused : Module → RunOrder → InitFault → Type 0
IsRefused m order fault = IsFaultOf (ready m order) fault
