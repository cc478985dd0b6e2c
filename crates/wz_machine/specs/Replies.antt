-- What calls, steps and answers from outside come to (section 4.5.5 of the Core Specification, and section 4.4.10 on host functions).
-- A stack of terms has the topmost first; a term below another waits for the host.
use Rattle.std.specs.Prelude.{ℕ, List, [], ◌∷◌, ◌++◌, Option, Some, None, Bool, true, false, ◌&&◌, if◌then◌else◌, length, reverse, slice_get}
use Rattle.wz_types.specs.declared.types.ValType.{ValType}
use Rattle.wz_types.specs.declared.trap.TrapKind.TheVariants as trap
use Rattle.wz_types.specs.declared.value.Reference.{Reference}
use Rattle.wz_types.specs.declared.value.Value.{Value}
use Rattle.wz_types.specs.declared.value.Value.TheVariants.{I32}
use Rattle.wz_types.specs.Fits.{value_fits, all_fit}
use Rattle.wz_code.specs.Numeric.{types_of}
use Rattle.wz_store.specs.State.{Table, Memory, pages_of}
use Rattle.wz_store.specs.Changes.{Change, Nothing, GrowTable, GrowMemory}
use Rattle.wz_machine.specs.declared.questions.Growth.TheVariants as growth
use Rattle.wz_machine.specs.declared.questions.FloatReply.{FloatReply}
use Rattle.wz_machine.specs.declared.questions.FloatReply.TheVariants as reply
use Rattle.wz_store.specs.Growth.{may_extend, may_grow}
use Rattle.wz_machine.specs.BulkSteps.{minus_one}
use Rattle.wz_machine.specs.State.{Callable, callable_at, State}
use Rattle.wz_machine.specs.Terms.{Inside, Innermost, InLabel, InFrame, Term, Frame, BareValues, Question, AskFloat, AskMemory, AskTable, AskHost, Standing, Runs, Waits}
use Rattle.wz_machine.specs.Outcomes.{Answer, Next, Done, Trap, Ask, Stuck}
use Rattle.wz_machine.specs.Step.{step}
use Rattle.wz_machine.specs.Entered.{entered}
use Rattle.wz_machine.specs.Exports.{ExternalValue, ExternalFunction}
use Rattle.wz_machine.specs.Moves.{Event, Refused, Went, DoneEvent, Trapped, HostCall, FloatAsked, GrowAsked}

-- what a move comes to: what is seen, what it changes in the state, and the stack of terms then
pub record Reply : Type 0 where
  pub event : Event
  pub change : Change
  pub stack : List Standing

abbrev pub refusal : List Standing → Reply
refusal stack = record { event = Refused; change = Nothing; stack = stack }

-- the state stays
abbrev pub event_reply : Event → List Standing → Reply
event_reply event stack = record { event = event; change = Nothing; stack = stack }

abbrev pub change_reply : Event → Change → List Standing → Reply
change_reply event change stack = record { event = event; change = change; stack = stack }

-- ---- what fits in the state

abbrev pub fits_in : State → Value → ValType → Bool
fits_in s value type = value_fits value type (length s.functions) (length s.types)

abbrev pub all_fit_in : State → List Value → List ValType → Bool
all_fit_in s values types = all_fit values types (length s.functions) (length s.types)

-- ---- questions

abbrev pub question_event : Question → Event
question_event (AskFloat op operands) = FloatAsked op operands
question_event (AskMemory index by) = GrowAsked (growth.Memory index by)
question_event (AskTable index by reference) = GrowAsked (growth.Table index by)
question_event (AskHost target arguments type) = HostCall target arguments

-- ---- a call

-- no term stands, or the topmost waits for the host
abbrev pub may_enter : List Standing → Bool
may_enter [] = true
may_enter (Runs term ∷ below) = false
may_enter (Waits (AskFloat op operands) rest ∷ below) = false
may_enter (Waits (AskMemory index by) rest ∷ below) = false
may_enter (Waits (AskTable index by reference) rest ∷ below) = false
may_enter (Waits (AskHost target arguments type) rest ∷ below) = true

-- there is such a function, and the values fit its parameters
abbrev pub takes_values : State → Option Callable → List Value → Bool
takes_values s None values = false
takes_values s (Some function) values = all_fit_in s values function.type.params

-- a new term on top
abbrev pub entry_reply : List Standing → Option Standing → Reply
entry_reply stack None = refusal stack
entry_reply stack (Some (Runs term)) = event_reply Went (Runs term ∷ stack)
entry_reply stack (Some (Waits question rest)) = event_reply (question_event question) (Waits question rest ∷ stack)

abbrev pub function_reply : State → List Standing → ℕ → List Value → Reply
function_reply s stack index values =
    if may_enter stack && takes_values s (callable_at s.types s.functions index) values then entry_reply stack (entered s index values) else refusal stack

abbrev pub call_reply : State → List Standing → Option ExternalValue → List Value → Reply
call_reply s stack (Some (ExternalFunction index)) values = function_reply s stack index values
call_reply s stack export values = refusal stack

-- ---- a tick

-- Of this term, above those below. A step without a rule is refused.
abbrev pub answer_reply : Term → List Standing → Answer → Reply
answer_reply term below (Next change new) = change_reply Went change (Runs new ∷ below)
answer_reply term below (Done values) = event_reply (DoneEvent values) below
answer_reply term below (Trap kind) = event_reply (Trapped kind) below
answer_reply term below (Ask question rest) = event_reply (question_event question) (Waits question rest ∷ below)
answer_reply term below Stuck = refusal (Runs term ∷ below)

abbrev pub tick_reply : State → List Standing → Reply
tick_reply s (Runs term ∷ below) = answer_reply term below (step s term)
tick_reply s stack = refusal stack

-- ---- answers

abbrev pub put_inside : List Value → Inside → Inside
put_inside values (Innermost old code) = Innermost (values ++ old) code
put_inside values (InLabel below count again inside rest) = InLabel below count again (put_inside values inside) rest
put_inside values (InFrame below count own inside rest) = InFrame below count own (put_inside values inside) rest

-- what is left of a term that waited, with these values, last pushed first, where its question's operands were
abbrev pub put : List Value → Term → Term
put values (Frame count locals inside) = Frame count locals (put_inside values inside)
put values (BareValues old) = BareValues (values ++ old)

-- the result of a float operation, or a trap, which ends the term
abbrev pub float_reply : State → List Standing → FloatReply → Reply
float_reply s (Waits (AskFloat op operands) rest ∷ below) reply.Trap = event_reply (Trapped trap.Float) below
float_reply s (Waits (AskFloat op operands) rest ∷ below) (reply.Gives value) =
    if fits_in s value (types_of op).result
    then event_reply Went (Runs (put (value ∷ []) rest) ∷ below)
    else refusal (Waits (AskFloat op operands) rest ∷ below)
float_reply s stack answer = refusal stack

-- growth is granted within the limits of this moment alone, and the size that it finds is put
abbrev pub memory_grown : List Standing → ℕ → ℕ → Term → List Standing → Option Memory → Reply
memory_grown stack index by rest below None = refusal stack
memory_grown stack index by rest below (Some memory) =
    if may_grow (pages_of memory) memory.maximum by
    then change_reply Went (GrowMemory index by) (Runs (put (I32 (pages_of memory) ∷ []) rest) ∷ below)
    else refusal stack

abbrev pub table_grown : List Standing → ℕ → ℕ → Reference → Term → List Standing → Option Table → Reply
table_grown stack index by reference rest below None = refusal stack
table_grown stack index by reference rest below (Some table) =
    if may_extend (length table.entries) table.maximum by
    then change_reply Went (GrowTable index by reference) (Runs (put (I32 (length table.entries) ∷ []) rest) ∷ below)
    else refusal stack

abbrev pub grow_reply : State → List Standing → Bool → Reply
grow_reply s (Waits (AskMemory index by) rest ∷ below) true =
    memory_grown (Waits (AskMemory index by) rest ∷ below) index by rest below (slice_get s.memories index)
grow_reply s (Waits (AskMemory index by) rest ∷ below) false = event_reply Went (Runs (put (minus_one ∷ []) rest) ∷ below)
grow_reply s (Waits (AskTable index by reference) rest ∷ below) true =
    table_grown (Waits (AskTable index by reference) rest ∷ below) index by reference rest below (slice_get s.tables index)
grow_reply s (Waits (AskTable index by reference) rest ∷ below) false = event_reply Went (Runs (put (minus_one ∷ []) rest) ∷ below)
grow_reply s stack granted = refusal stack

-- what the host's function gives
abbrev pub return_reply : State → List Standing → List Value → Reply
return_reply s (Waits (AskHost target arguments type) rest ∷ below) values =
    if all_fit_in s values type.results
    then event_reply Went (Runs (put (reverse values) rest) ∷ below)
    else refusal (Waits (AskHost target arguments type) rest ∷ below)
return_reply s stack values = refusal stack

-- the host's function never returns
abbrev pub abort_reply : List Standing → Reply
abort_reply (Waits (AskHost target arguments type) rest ∷ below) = event_reply (Trapped trap.Host) below
abort_reply stack = refusal stack
