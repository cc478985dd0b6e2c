-- One turn of a run: what a tick of a machine is to the run of its term. This is the tool's own.
use Rattle.std.specs.Prelude.{Option, ◌≡◌, ◌≤◌, slice_get, ℕ, suc, ◌+◌, ◌-◌, ◌<◌, List, [], ◌∷◌, Some, None, Bool, true, false}
use Rattle.wz_types.specs.declared.value.Value.{Value}
use Rattle.wz_types.specs.declared.value.Reference.{Reference}
use Rattle.wz_types.specs.FunctionType.{FunctionType}
use Rattle.wz_store.specs.Changes.{Change, applied}
use Rattle.wz_machine.specs.declared.questions.HostTarget.TheVariants as target
use Rattle.wz_machine.specs.State.{State, Callable, callable_at}
use Rattle.wz_machine.specs.Terms.{Term, BareValues, AskFloat, AskMemory, AskTable, AskHost, Standing, Runs, Waits}
use Rattle.wz_machine.specs.Outcomes.{Next, Done, Trap, Ask}
use Rattle.wz_machine.specs.Step.{step}
use Rattle.wz_machine.specs.TypedTerms.{IsMachineTyped}
use Rattle.wz_machine.specs.Frames.{frame_count, local_count}
use Rattle.wz_init.specs.declared.turn.Turned.{Turned}
use Rattle.wz_init.specs.declared.turn.Turned.TheVariants as turned
use Rattle.wz_machine.specs.Entered.{entered}
use Rattle.wz_init.specs.declared.turn.Entered.{Entered}
use Rattle.wz_init.specs.declared.turn.Entered.TheVariants as entry
use Rattle.wz_init.specs.declared.turn.Round.{Round}
use Rattle.wz_init.specs.declared.turn.Round.TheVariants as round
use Rattle.wz_init.specs.declared.order.Phase.{Phase}
use Rattle.wz_init.specs.declared.order.RunOrder.{RunOrder}
use Rattle.wz_init.specs.declared.faults.InitFault.{InitFault}
use Rattle.wz_init.specs.declared.faults.InitFault.TheVariants as fault
use Rattle.wz_init.specs.Run.{FuelIsSpent, TableWouldChange, FramesAreTooMany, LocalsAreTooMany, StepTraps, FloatIsAsked, ImportIsCalled, RunEnd, Returned, Stopped, frames_limit, all_locals_limit, too_much, run_from}
use Rattle.wz_init.specs.Reached.{HoldsOwn, TermOwn}
use Rattle.wz_machine.specs.declared.advance.Advance.{Advance}
use Rattle.wz_machine.specs.Advance.{Reaches, ReachesEntry}
use Rattle.wz_store.specs.State.{Memory, pages_of}
use Rattle.wz_store.specs.Growth.{may_grow}

-- the term that stands alone, and runs
abbrev pub top_term : List Standing → Term
top_term [] = BareValues []
top_term (Runs term ∷ below) = term
top_term (Waits question rest ∷ below) = rest

abbrev pub IsAlone : List Standing → Type 0
IsAlone stack = stack ≡ Runs (top_term stack) ∷ []

-- as a run leaves it, from tick to tick
pub record IsWithinLimits (term : Term) : Type 0 where
  pub frames : frame_count term ≤ frames_limit
  pub locals : local_count term ≤ all_locals_limit

-- what a tick of a term that stands alone came to, in this state and with this stack then
abbrev pub IsTicked : State → Term → Turned → State → List Standing → Type 0
IsTicked s term turned.Went after stack =
    (change : Change) × (step s term ≡ Next change (top_term stack)) × (after ≡ applied change s) × IsAlone stack
IsTicked s term turned.Ended after stack = (values : List Value) × (step s term ≡ Done values) × (after ≡ s) × (stack ≡ [])
IsTicked s term (turned.Trapped kind) after stack = step s term ≡ Trap kind
IsTicked s term (turned.Float op) after stack = (operands : List Value) × (rest : Term) × (step s term ≡ Ask (AskFloat op operands) rest)
IsTicked s term (turned.Memory index by) after stack =
    (rest : Term) × (step s term ≡ Ask (AskMemory index by) rest) × (after ≡ s) × (stack ≡ Waits (AskMemory index by) rest ∷ [])
IsTicked s term turned.Table after stack =
    (index : ℕ) × (by : ℕ) × (value : Reference) × (rest : Term) × (step s term ≡ Ask (AskTable index by value) rest)
IsTicked s term (turned.Import number) after stack =
    (arguments : List Value) × (type : FunctionType) × (rest : Term) × (step s term ≡ Ask (AskHost (target.Import number) arguments type) rest)
IsTicked s term (turned.Foreign id) after stack =
    (arguments : List Value) × (type : FunctionType) × (rest : Term) × (step s term ≡ Ask (AskHost (target.Foreign id) arguments type) rest)

-- why the run of a phase stopped
abbrev pub StopsBy : Phase → RunEnd → InitFault → Type 0
StopsBy phase end (fault.ElementOutOfBounds index) = ⊥
StopsBy phase end (fault.DataOutOfBounds index) = ⊥
StopsBy phase end (fault.Trap other kind) = (other ≡ phase) × (end ≡ Stopped (StepTraps kind))
StopsBy phase end fault.OutOfFuel = end ≡ Stopped FuelIsSpent
StopsBy phase end (fault.ImportCalled import) = end ≡ Stopped (ImportIsCalled import)
StopsBy phase end (fault.FloatUsed op) = end ≡ Stopped (FloatIsAsked op)
StopsBy phase end fault.TableChanged = end ≡ Stopped TableWouldChange
StopsBy phase end fault.TooManyFrames = end ≡ Stopped FramesAreTooMany
StopsBy phase end fault.TooManyFrameLocals = end ≡ Stopped LocalsAreTooMany
StopsBy phase end fault.NoMemory = Unit {0}

-- what is left of the run after a turn that went on, or ended it, at whatever fuel and ticks
abbrev pub IsTurned : Bool → State → Term → State → List Standing → ℕ → ℕ → Type 0
IsTurned true s term after stack fuel ticks = run_from (suc fuel) ticks s term ≡ run_from fuel (ticks + 1) after (top_term stack)
IsTurned false s term after stack fuel ticks = run_from (suc fuel) ticks s term ≡ Returned after fuel (ticks + 1)

-- ---- entering a function

-- what it came to, in this state and with this stack then
abbrev pub IsEntered : State → ℕ → Entered → State → List Standing → Type 0
IsEntered s function entry.Own after stack = (entered s function [] ≡ Some (Runs (top_term stack))) × (after ≡ s) × IsAlone stack
IsEntered s function (entry.Import number) after stack =
    (type : FunctionType) × (rest : Term) × (entered s function [] ≡ Some (Waits (AskHost (target.Import number) [] type) rest))

-- each function's term begins within the limits
abbrev pub FunctionsAreSmall : State → Type 0
FunctionsAreSmall s = (function : ℕ) (term : Term) → entered s function [] ≡ Some (Runs term) → IsWithinLimits term

-- a function without parameters, which is there
pub record TakesNothing (s : State) (function : ℕ) : Type 0 where
  pub callable : Callable
  pub there : callable_at s.types s.functions function ≡ Some callable
  pub takes : callable.type.params ≡ []

-- the same of a phase's function, if it has one
abbrev pub PhaseTakesNothing : State → Option ℕ → Type 0
PhaseTakesNothing s None = Unit {0}
PhaseTakesNothing s (Some function) = TakesNothing s function

-- and of all phases
pub record PhasesTakeNothing (s : State) (start : Option ℕ) (order : RunOrder) : Type 0 where
  pub start_phase : PhaseTakesNothing s start
  pub reactor_phase : PhaseTakesNothing s order.reactor
  pub init_phase : TakesNothing s order.function

-- what took nothing takes nothing afterwards
abbrev pub KeepsTakingNothing : State → State → Type 0
KeepsTakingNothing s after = (function : ℕ) → TakesNothing s function → TakesNothing after function

-- ---- the machine, from turn to turn

-- one term stands, which is typed and runs, within the limits and without references to something of the host
pub record IsRunning (s : State) (stack : List Standing) : Type 0 where
  pub typed : IsMachineTyped s stack
  pub alone : IsAlone stack
  pub within : IsWithinLimits (top_term stack)
  pub own : HoldsOwn s
  pub holds : TermOwn (top_term stack)

-- the function has returned
pub record HasEnded (s : State) (stack : List Standing) : Type 0 where
  pub typed : IsMachineTyped s stack
  pub own : HoldsOwn s
  pub empty : stack ≡ []

-- the only term asks whether this memory grows, within the memory's own limits
pub record IsAskedHere (s : State) (stack : List Standing) (index by : ℕ) : Type 0 where
  pub rest : Term
  pub waits : stack ≡ Waits (AskMemory index by) rest ∷ []
  pub memory : Memory
  pub there : slice_get s.memories index ≡ Some memory
  pub fits : may_grow (pages_of memory) memory.maximum by ≡ true

-- the limit that the term is beyond
abbrev pub IsBeyond : Term → InitFault → Type 0
IsBeyond term (fault.ElementOutOfBounds index) = ⊥
IsBeyond term (fault.DataOutOfBounds index) = ⊥
IsBeyond term (fault.Trap other kind) = ⊥
IsBeyond term fault.OutOfFuel = ⊥
IsBeyond term (fault.ImportCalled import) = ⊥
IsBeyond term (fault.FloatUsed op) = ⊥
IsBeyond term fault.TableChanged = ⊥
IsBeyond term fault.TooManyFrames = too_much term ≡ Some FramesAreTooMany
IsBeyond term fault.TooManyFrameLocals = too_much term ≡ Some LocalsAreTooMany
IsBeyond term fault.NoMemory = ⊥

-- so many ticks went on, and the last of them entered a function, or none did
abbrev pub HasTicked : Bool → ℕ → State → Term → State → Term → Type 0
HasTicked true made s term after new = ReachesEntry made s term after new
HasTicked false made s term after new = Reaches made s term after new

pub record HasAdvanced (done : Advance) (s : State) (term : Term) (after : State) (stack : List Standing) : Type 0 where
  pub alone : IsAlone stack
  pub ticks : HasTicked done.entered done.made s term after (top_term stack)

-- what is left of a run of so much fuel after a round of ticks
abbrev pub IsRound : Round → ℕ → State → Term → State → List Standing → Type 0
IsRound (round.Goes left) fuel s term after stack =
    (left < fuel) × IsRunning after stack × ((ticks : ℕ) → run_from fuel ticks s term ≡ run_from left (ticks + (fuel - left)) after (top_term stack))
IsRound (round.Returned left) fuel s term after stack =
    (left < fuel) × HasEnded after stack × ((ticks : ℕ) → run_from fuel ticks s term ≡ Returned after left (ticks + (fuel - left)))
