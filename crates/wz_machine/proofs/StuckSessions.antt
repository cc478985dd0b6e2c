-- Any move keeps the typing, and no session of a typed state is ever stuck.
use Rattle.std.proofs.Common.{◌≡◌, ◌∷◌, [], List, subst, sym}
use Rattle.wz_num.specs.Laws.{NumbersServe}
use Rattle.wz_valid_code.specs.Context.{TypingContext}
use Rattle.wz_store.specs.Changes.{applied}
use Rattle.wz_machine.specs.State.{State}
use Rattle.wz_machine.specs.TypedState.{IsStateTyped, state_context}
use Rattle.wz_machine.specs.Terms.{Standing, Runs, Waits}
use Rattle.wz_machine.specs.Accesses.{AccessReply, read_access, write_access, size_access, enlarge_access, get_access, set_access}
use Rattle.wz_types.specs.declared.types.ValType.{ValType}
use Rattle.wz_machine.specs.TypedTerms.{IsStackTyped, IsMachineTyped}
use Rattle.wz_machine.specs.Sessions.{access_reply, move_reply}
use Rattle.wz_machine.specs.Exports.{ExportInstance, exported}
use Rattle.wz_machine.specs.Moves.{Move, CallMove, TickMove, FloatAnswer, GrowAnswer, ReturnMove, AbortMove, ReadMove, WriteMove, SizeMove, EnlargeMove, GetMove, SetMove}
use Rattle.wz_machine.specs.TypedLaws.{EntryIsTyped, ContentNeverSticks, MoveKeepsTyping, TypedIsNotStuck, NeverStuck}
use Rattle.wz_machine.specs.Contexts.{StepsWithin, term_in}
use Rattle.wz_machine.specs.Outcomes.{Answer, Stuck}
use Rattle.wz_machine.specs.Step.{step}
use Rattle.wz_machine.specs.TypedSteps.{IsAnswerTyped, NoneStuckFrom, IsReplyTyped}
use Rattle.wz_machine.specs.Replies.{Reply}
use Rattle.wz_machine.proofs.StuckAccesses.{AccessServes, read_access-serves, write_access-serves, size_access-serves, enlarge_access-serves, get_access-serves, set_access-serves}
use Rattle.wz_machine.proofs.StuckReplies.{ReplyServes, call-serves, tick-serves, float-serves, grow-serves, return-serves, abort-serves, entry-typed}
use Rattle.wz_machine.proofs.ContextLemmas.{step_within}
use Rattle.wz_machine.proofs.StuckLeaves.{step_keeps_typing}
use Rattle.wz_machine.proofs.StuckChanges.{change_keeps_typing}
use Rattle.wz_machine.proofs.TypedLemmas.{context_lasts}

module _ (s : State) (typed : IsStateTyped (state_context s) s) (numbers : NumbersServe) where
  access_reply-serves : (stack : List Standing) (access : AccessReply) → IsStackTyped (state_context s) stack → AccessServes s access
      → ReplyServes s (access_reply stack access)
  access_reply-serves stack access h a = record { change = a; stack = h }

  reply-serves : (exports : List ExportInstance) (stack : List Standing) (m : Move) → IsStackTyped (state_context s) stack → ReplyServes s (move_reply exports s stack m)
  reply-serves exports stack (CallMove name values) h = call-serves s typed numbers stack (exported exports name) values h
  reply-serves exports stack TickMove h = tick-serves s typed numbers stack h
  reply-serves exports stack (FloatAnswer answer) h = float-serves s typed numbers stack answer h
  reply-serves exports stack (GrowAnswer granted) h = grow-serves s typed numbers stack granted h
  reply-serves exports stack (ReturnMove values) h = return-serves s typed numbers stack values h
  reply-serves exports stack AbortMove h = abort-serves s typed numbers stack h
  reply-serves exports stack (ReadMove name at count) h =
      access_reply-serves stack (read_access s (exported exports name) at count) h (read_access-serves s typed (exported exports name) at count)
  reply-serves exports stack (WriteMove name at bytes) h =
      access_reply-serves stack (write_access s (exported exports name) at bytes) h (write_access-serves s typed (exported exports name) at bytes)
  reply-serves exports stack (SizeMove name) h = access_reply-serves stack (size_access s (exported exports name)) h (size_access-serves s typed (exported exports name))
  reply-serves exports stack (EnlargeMove name by value) h =
      access_reply-serves stack (enlarge_access s (exported exports name) by value) h (enlarge_access-serves s typed (exported exports name) by value)
  reply-serves exports stack (GetMove name at) h =
      access_reply-serves stack (get_access s (exported exports name) at) h (get_access-serves s typed (exported exports name) at)
  reply-serves exports stack (SetMove name at value) h =
      access_reply-serves stack (set_access s (exported exports name) at value) h (set_access-serves s typed (exported exports name) at value)

pub entry_is_typed : NumbersServe → EntryIsTyped
entry_is_typed numbers s function values typed fit = entry-typed s typed numbers function values fit

-- a step of what sticks is stuck, and that of a typed term isn't
pub content_never_sticks : NumbersServe → ContentNeverSticks
content_never_sticks numbers s count layers content results typed h sticks =
    let w : StepsWithin s count layers content = step_within s count layers content in
    subst (λ (a : Answer). IsAnswerTyped s results a) (w.sticks sticks) (step_keeps_typing numbers s (term_in count layers content) results typed h)

pub move_keeps_typing : NumbersServe → MoveKeepsTyping
move_keeps_typing numbers exports s stack move typed =
    let r : Reply = move_reply exports s stack move in
    let serves : ReplyServes s r = reply-serves s typed.state numbers exports stack move typed.terms in
    record {
      change = serves.change;
      machine = record {
        state = change_keeps_typing s r.change typed.state serves.change;
        terms = subst (λ (context : TypingContext). IsStackTyped context r.stack) (sym (context_lasts r.change s)) serves.stack;
      };
    }

-- a stuck step is none of a typed term
runs-on : (s : State) (results : List ValType) (answer : Answer) → IsAnswerTyped s results answer → answer ≡ Stuck → ⊥
runs-on s results answer typed stuck = subst (λ (a : Answer). IsAnswerTyped s results a) stuck typed

pub typed_is_not_stuck : NumbersServe → TypedIsNotStuck
typed_is_not_stuck numbers s (Runs term ∷ below) typed =
    let top = typed.terms.0 in
    runs-on s top.0 (step s term) (step_keeps_typing numbers s term top.0 typed.state top.1)
typed_is_not_stuck numbers s (Waits question rest ∷ below) typed = tt
typed_is_not_stuck numbers s [] typed = tt

none-stuck : NumbersServe → (exports : List ExportInstance) (moves : List Move) (s : State) (stack : List Standing) → IsMachineTyped s stack
    → NoneStuckFrom exports s stack moves
none-stuck numbers exports [] s stack typed = typed_is_not_stuck numbers s stack typed
none-stuck numbers exports (move ∷ moves) s stack typed =
    let r : Reply = move_reply exports s stack move in
    let kept : IsReplyTyped s r = move_keeps_typing numbers exports s stack move typed in
    (typed_is_not_stuck numbers s stack typed, none-stuck numbers exports moves (applied r.change s) r.stack kept.machine)

pub never_stuck : NumbersServe → NeverStuck
never_stuck numbers s exports moves typed = none-stuck numbers exports moves s [] (record { state = typed; terms = tt })
