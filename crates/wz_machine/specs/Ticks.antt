-- What a tick of a machine answers and leaves, beside `tick_reply` of `Replies`.
use Rattle.std.specs.Prelude.{◌≡◌, ℕ, List, [], ◌∷◌, Option, None, Bool, true, false}
use Rattle.wz_code.specs.BodyParts.{BodyParts}
use Rattle.wz_store.specs.Made.{StoreState}
use Rattle.wz_store.specs.Changes.{applied}
use Rattle.wz_machine.specs.declared.questions.Ask.{Ask}
use Rattle.wz_machine.specs.declared.questions.Ask.TheVariants as ask
use Rattle.wz_machine.specs.declared.answers.Tick.{Tick}
use Rattle.wz_machine.specs.declared.answers.Tick.TheVariants as tick
use Rattle.wz_machine.specs.State.{State, state_of}
use Rattle.wz_machine.specs.Terms.{Standing, Runs, Waits}
use Rattle.wz_machine.specs.Step.{step}
use Rattle.wz_machine.specs.Moves.{Event, Refused, Went, DoneEvent, Trapped, HostCall, FloatAsked, GrowAsked}
use Rattle.wz_machine.specs.Replies.{question_event, answer_reply, tick_reply}
use Rattle.wz_machine.specs.Stacks.{StackParts}
use Rattle.wz_machine.specs.Standings.{StacksWork, Asking, StandingParts, standing_of}

-- ---- what is seen of a tick

abbrev pub asked_event : Ask → Event
asked_event (ask.Float op operands) = FloatAsked op operands
asked_event (ask.Grow growth) = GrowAsked growth
asked_event (ask.Host target args) = HostCall target args

-- a tick without a term is refused, and shows nothing else
abbrev pub event_of : Tick → Event
event_of tick.Idle = Refused
event_of tick.Went = Went
event_of (tick.Done values) = DoneEvent values
event_of (tick.Trapped kind) = Trapped kind
event_of (tick.Asked ask) = asked_event ask

-- what a tick shows: of a term that runs the step's event, of one that waits its question again
abbrev pub tick_event : State → List Standing → Event
tick_event s [] = Refused
tick_event s (Runs term ∷ below) = (answer_reply term below (step s term)).event
tick_event s (Waits question rest ∷ below) = question_event question

-- ---- of the topmost term alone

-- a term that is done or trapped is gone
abbrev pub left_by : Tick → Standing → List Standing
left_by tick.Idle standing = standing ∷ []
left_by tick.Went standing = standing ∷ []
left_by (tick.Done values) standing = []
left_by (tick.Trapped kind) standing = []
left_by (tick.Asked ask) standing = standing ∷ []

pub record StandingTicked (bodies : List BodyParts) (s : StoreState) (old : StandingParts) (answer : Tick) (new : StandingParts) (t : StoreState) : Type 0 where
  pub event : event_of answer ≡ tick_event (state_of bodies s) (standing_of old ∷ [])
  pub store : t ≡ applied (tick_reply (state_of bodies s) (standing_of old ∷ [])).change s
  pub stack : (tick_reply (state_of bodies s) (standing_of old ∷ [])).stack ≡ left_by answer (standing_of new)

-- a term that runs, and one that may wait, with so many operands
abbrev pub asking_with : StackParts → Option Asking → ℕ → StandingParts
asking_with stacks question count = record { work = StacksWork stacks; question = question; count = count }

abbrev pub running : StackParts → StandingParts
running stacks = asking_with stacks None 0

-- ---- of the stack of terms

abbrev pub is_over : Tick → Bool
is_over tick.Idle = false
is_over tick.Went = false
is_over (tick.Done values) = true
is_over (tick.Trapped kind) = true
is_over (tick.Asked ask) = false

-- the topmost term was ticked, and stays where it is even if it is over
pub record TopTicked (bodies : List BodyParts) (s : StoreState) (old : List Standing) (answer : Tick) (new : List Standing) (t : StoreState) : Type 0 where
  pub before : StandingParts
  pub after : StandingParts
  pub below : List Standing
  pub was : old ≡ standing_of before ∷ below
  pub is : new ≡ standing_of after ∷ below
  pub ticked : StandingTicked bodies s before answer after t

pub record StackTicked (bodies : List BodyParts) (s : StoreState) (old : List Standing) (answer : Tick) (new : List Standing) (t : StoreState) : Type 0 where
  pub event : event_of answer ≡ tick_event (state_of bodies s) old
  pub store : t ≡ applied (tick_reply (state_of bodies s) old).change s
  pub stack : new ≡ (tick_reply (state_of bodies s) old).stack
