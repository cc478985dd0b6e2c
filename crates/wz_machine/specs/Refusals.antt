-- When a call from outside is refused (section 4.5.5 of the Core Specification, invocation: there is such a function, and the values
-- fit its parameters), and which reason comes first.
use Rattle.std.specs.Prelude.{◌≡◌, ℕ, List, Option, Some, None, Bool, true, false, if◌then◌else◌, Result, Ok, Err}
use Rattle.wz_types.specs.declared.value.Value.{Value}
use Rattle.wz_machine.specs.declared.answers.EnterFault.{EnterFault}
use Rattle.wz_machine.specs.declared.answers.EnterFault.TheVariants.{NotNow, NoFunction, Unfit}
use Rattle.wz_machine.specs.State.{Callable, callable_at, State}
use Rattle.wz_machine.specs.Terms.{Standing}
use Rattle.wz_machine.specs.Moves.{Event, Refused}
use Rattle.wz_machine.specs.Replies.{all_fit_in, may_enter}

-- ---- a call

abbrev pub callable_refusal : State → Option Callable → List Value → Option EnterFault
callable_refusal s None values = Some NoFunction
callable_refusal s (Some function) values = if all_fit_in s values function.type.params then None else Some Unfit

-- why a function isn't entered, where memory is not the reason; none where it is
abbrev pub enter_refusal : State → List Standing → ℕ → List Value → Option EnterFault
enter_refusal s stack index values =
    if may_enter stack then callable_refusal s (callable_at s.types s.functions index) values else Some NotNow

-- ---- answers

abbrev pub is_refusal : Event → Bool
is_refusal Refused = true
is_refusal event = false

-- the reason, where a move is refused
abbrev pub refusal_of : {E : Type 0} → E → Event → Option E
refusal_of reason Refused = Some reason
refusal_of reason event = None

-- ---- what is answered then

-- the reason where there is one, and otherwise success, or else that memory was refused
abbrev pub Answers : {T E : Type 0} → E → Option E → Result T E → Type 0
Answers no_memory None (Ok done) = Unit {0}
Answers no_memory None (Err fault) = fault ≡ no_memory
Answers no_memory (Some reason) (Ok done) = ⊥
Answers no_memory (Some reason) (Err fault) = fault ≡ reason
