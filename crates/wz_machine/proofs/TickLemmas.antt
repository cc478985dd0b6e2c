-- A tick of the topmost term is a tick of the stack of terms.
use Rattle.std.proofs.Common.{◌≡◌, ◌≤◌, ◌<◌, ℕ, ◌+◌, ◌-◌, true, false, List, [], ◌∷◌, ◌++◌, Some, None, length, take, drop, get_or, refl, ap, sym, subst, ◌∙◌, arith}
use Rattle.std.proofs.lemmas.List.{drop-take, length-take-le, reverse-reverse}
use Rattle.std.proofs.Math.ListN.{set}
use Rattle.wz_types.specs.declared.trap.TrapKind.{TrapKind}
use Rattle.wz_types.specs.declared.value.Value.{Value}
use Rattle.wz_code.specs.declared.instr.Instr.{Instr}
use Rattle.wz_code.specs.BodyParts.{BodyParts}
use Rattle.wz_store.specs.Made.{StoreState}
use Rattle.wz_store.specs.Changes.{Change, applied, range_of}
use Rattle.wz_machine.specs.declared.questions.Ask.{Ask as AskOf}
use Rattle.wz_machine.specs.declared.answers.Tick.{Tick}
use Rattle.wz_machine.specs.declared.answers.Tick.TheVariants as tick
use Rattle.wz_machine.specs.State.{State, state_of}
use Rattle.wz_machine.specs.Terms.{Term, Standing, Runs, Waits}
use Rattle.wz_machine.specs.Outcomes.{Answer, Next, Done, Trap, Ask, Stuck}
use Rattle.wz_machine.specs.Step.{step}
use Rattle.wz_machine.specs.Moves.{DoneEvent}
use Rattle.wz_machine.specs.Replies.{question_event, answer_reply, tick_reply}
use Rattle.wz_machine.specs.Stacks.{StackParts, stacks_term, last_values}
use Rattle.wz_machine.specs.Standings.{WorkParts, ValuesWork, values_in, Asking, StandingParts, question_of, standing_of, stack_of, IsStanding}
use Rattle.wz_machine.specs.Waiting.{below_top}
use Rattle.wz_machine.proofs.StandingLemmas.{stack_top, stack_set}
use Rattle.wz_machine.specs.Opening.{stepped}
use Rattle.wz_machine.specs.Strides.{GoesOnWith, WillAsk}
use Rattle.wz_machine.specs.Ticks.{asked_event, tick_event, asking_with, running, left_by, is_over, StandingTicked, TopTicked, StackTicked}

answer-change : (term : Term) (below : List Standing) (answer : Answer) → (answer_reply term below answer).change ≡ (answer_reply term [] answer).change
answer-change term below (Next change new) = refl
answer-change term below (Done values) = refl
answer-change term below (Trap kind) = refl
answer-change term below (Ask question rest) = refl
answer-change term below Stuck = refl

answer-event : (term : Term) (below : List Standing) (answer : Answer) → (answer_reply term below answer).event ≡ (answer_reply term [] answer).event
answer-event term below (Next change new) = refl
answer-event term below (Done values) = refl
answer-event term below (Trap kind) = refl
answer-event term below (Ask question rest) = refl
answer-event term below Stuck = refl

answer-stack : (term : Term) (below : List Standing) (answer : Answer) → (answer_reply term below answer).stack ≡ (answer_reply term [] answer).stack ++ below
answer-stack term below (Next change new) = refl
answer-stack term below (Done values) = refl
answer-stack term below (Trap kind) = refl
answer-stack term below (Ask question rest) = refl
answer-stack term below Stuck = refl

pub tick-change : (s : State) (top : Standing) (below : List Standing) → (tick_reply s (top ∷ below)).change ≡ (tick_reply s (top ∷ [])).change
tick-change s (Runs term) below = answer-change term below (step s term)
tick-change s (Waits question rest) below = refl

pub tick-event : (s : State) (top : Standing) (below : List Standing) → tick_event s (top ∷ below) ≡ tick_event s (top ∷ [])
tick-event s (Runs term) below = answer-event term below (step s term)
tick-event s (Waits question rest) below = refl

pub tick-stack : (s : State) (top : Standing) (below : List Standing) → (tick_reply s (top ∷ below)).stack ≡ (tick_reply s (top ∷ [])).stack ++ below
tick-stack s (Runs term) below = answer-stack term below (step s term)
tick-stack s (Waits question rest) below = refl

-- ---- a tick of a term that runs, by what its step comes to

pub ticked-went : (bodies : List BodyParts) (s t : StoreState) (before now : StackParts) → GoesOnWith (step (state_of bodies s) (stacks_term before)) s now t
    → StandingTicked bodies s (running before) tick.Went (running now) t
ticked-went bodies s t before now gone = record {
  event = ap (λ (a : Answer). (answer_reply (stacks_term before) [] a).event) (sym gone.goes);
  store = gone.store ∙ ap (λ (a : Answer). applied (answer_reply (stacks_term before) [] a).change s) (sym gone.goes);
  stack = ap (λ (a : Answer). (answer_reply (stacks_term before) [] a).stack) gone.goes;
}

pub ticked-done : (bodies : List BodyParts) (s t : StoreState) (before now : StackParts) (values found : List Value)
    → step (state_of bodies s) (stacks_term before) ≡ Done found → values ≡ found → t ≡ s
    → StandingTicked bodies s (running before) (tick.Done values) (running now) t
ticked-done bodies s t before now values found goes is same = record {
  event = ap (λ (vs : List Value). DoneEvent vs) is ∙ ap (λ (a : Answer). (answer_reply (stacks_term before) [] a).event) (sym goes);
  store = same ∙ ap (λ (a : Answer). applied (answer_reply (stacks_term before) [] a).change s) (sym goes);
  stack = ap (λ (a : Answer). (answer_reply (stacks_term before) [] a).stack) goes;
}

pub ticked-trapped : (bodies : List BodyParts) (s t : StoreState) (before now : StackParts) (kind : TrapKind)
    → step (state_of bodies s) (stacks_term before) ≡ Trap kind → t ≡ s
    → StandingTicked bodies s (running before) (tick.Trapped kind) (running now) t
ticked-trapped bodies s t before now kind goes same = record {
  event = ap (λ (a : Answer). (answer_reply (stacks_term before) [] a).event) (sym goes);
  store = same ∙ ap (λ (a : Answer). applied (answer_reply (stacks_term before) [] a).change s) (sym goes);
  stack = ap (λ (a : Answer). (answer_reply (stacks_term before) [] a).stack) goes;
}

pub ticked-asked : (bodies : List BodyParts) (s t : StoreState) (before now : StackParts) (asking : Asking) (count : ℕ) (rest : List Instr) (have : ℕ) (ask : AskOf) (operands : List Value)
    → WillAsk (step (state_of bodies s) (stacks_term before)) before asking count rest have → now ≡ stepped before rest have → t ≡ s
    → asked_event ask ≡ question_event (question_of asking operands) → operands ≡ last_values count (stepped before rest have).values
    → StandingTicked bodies s (running before) (tick.Asked ask) (asking_with now (Some asking) count) t
ticked-asked bodies s t before now asking count rest have ask operands will step_to same event is =
    let goes = will.asked.asks in
    record {
      event = event ∙ ap (λ (vs : List Value). question_event (question_of asking vs)) is
          ∙ ap (λ (a : Answer). (answer_reply (stacks_term before) [] a).event) (sym goes);
      store = same ∙ ap (λ (a : Answer). applied (answer_reply (stacks_term before) [] a).change s) (sym goes);
      stack = ap (λ (a : Answer). (answer_reply (stacks_term before) [] a).stack) goes ∙ ap (λ (b : StackParts). standing_of (asking_with b (Some asking) count) ∷ []) (sym step_to);
    }

-- the operands are the last of the values that stay
pub operands-last : (values : List Value) (have count : ℕ) → have ≤ length values → count ≤ have
    → range_of values (have - count) count ≡ last_values count (take have values)
operands-last values have count within le =
    let whole : (have - count) + count ≡ have = omega (arith, le) in
    let len : length (take have values) ≡ have = length-take-le have values within in
    sym (drop-take (have - count) count values) ∙ ap (λ (n : ℕ). drop (have - count) (take n values)) whole
    ∙ ap (λ (n : ℕ). drop (n - count) (take have values)) (sym len)

pub asked-standing : (answer : Answer) (before now : StackParts) (asking : Asking) (count : ℕ) (rest : List Instr) (have : ℕ) → WillAsk answer before asking count rest have
    → now ≡ stepped before rest have → IsStanding (asking_with now (Some asking) count)
asked-standing answer before now asking count rest have will is =
    subst (λ (b : StackParts). IsStanding (asking_with b (Some asking) count)) (sym is) (will.asked.operands, will.asked.answerable)

-- ---- of the stack of terms

goes-on : (answer : Tick) (standing : Standing) → is_over answer ≡ false → left_by answer standing ≡ standing ∷ []
goes-on tick.Idle standing e = refl
goes-on tick.Went standing e = refl
goes-on (tick.Done values) standing e = cc
goes-on (tick.Trapped kind) standing e = cc
goes-on (tick.Asked ask) standing e = refl

is-gone : (answer : Tick) (standing : Standing) → is_over answer ≡ true → left_by answer standing ≡ []
is-gone tick.Idle standing e = cc
is-gone tick.Went standing e = cc
is-gone (tick.Done values) standing e = refl
is-gone (tick.Trapped kind) standing e = refl
is-gone (tick.Asked ask) standing e = cc

stack-from : (bodies : List BodyParts) (s t : StoreState) (old new : List Standing) (answer : Tick) (top : TopTicked bodies s old answer new t) (now : List Standing)
    → now ≡ left_by answer (standing_of top.after) ++ top.below → StackTicked bodies s old answer now t
stack-from bodies s t old new answer top now is =
    let st : State = state_of bodies s in
    let before : Standing = standing_of top.before in
    record {
      event = top.ticked.event ∙ sym (tick-event st before top.below) ∙ ap (λ (stack : List Standing). tick_event st stack) (sym top.was);
      store = top.ticked.store ∙ ap (λ (change : Change). applied change s) (sym (tick-change st before top.below))
          ∙ ap (λ (stack : List Standing). applied (tick_reply st stack).change s) (sym top.was);
      stack = is ∙ ap (λ (front : List Standing). front ++ top.below) (sym top.ticked.stack) ∙ sym (tick-stack st before top.below)
          ∙ ap (λ (stack : List Standing). (tick_reply st stack).stack) (sym top.was);
    }

pub stack-goes : (bodies : List BodyParts) (s t : StoreState) (old new : List Standing) (answer : Tick) → TopTicked bodies s old answer new t → is_over answer ≡ false
    → StackTicked bodies s old answer new t
stack-goes bodies s t old new answer top e =
    stack-from bodies s t old new answer top new (top.is ∙ ap (λ (front : List Standing). front ++ top.below) (sym (goes-on answer (standing_of top.after) e)))

pub stack-gone : (bodies : List BodyParts) (s t : StoreState) (old new now : List Standing) (answer : Tick) → TopTicked bodies s old answer new t → is_over answer ≡ true
    → now ≡ below_top new → StackTicked bodies s old answer now t
stack-gone bodies s t old new now answer top e gone =
    stack-from bodies s t old new answer top now
    (gone ∙ ap (λ (stack : List Standing). below_top stack) top.is ∙ ap (λ (front : List Standing). front ++ top.below) (sym (is-gone answer (standing_of top.after) e)))

pub top-ticked : (bodies : List BodyParts) (s t : StoreState) (xs ys : List StandingParts) (before after d : StandingParts) (answer : Tick) (n : ℕ) → n ≡ length xs → 0 < n
    → before ≡ get_or xs (n - 1) d → ys ≡ set xs (n - 1) after → StandingTicked bodies s before answer after t
    → TopTicked bodies s (stack_of xs) answer (stack_of ys) t
top-ticked bodies s t xs ys before after d answer n len some is set_to ticked =
    let positive : 0 < length xs = omega (arith, len, some) in
    let place : n - 1 ≡ length xs - 1 = ap (λ k. k - 1) len in
    let first : before ≡ get_or xs (length xs - 1) d = is ∙ ap (λ k. get_or xs k d) place in
    record {
      before = before;
      after = after;
      below = stack_of (take (length xs - 1) xs);
      was = stack_top xs d positive ∙ ap (λ (p : StandingParts). standing_of p ∷ stack_of (take (length xs - 1) xs)) (sym first);
      is = ap (λ (zs : List StandingParts). stack_of zs) (set_to ∙ ap (λ k. set xs k after) place) ∙ stack_set xs after positive;
      ticked = ticked;
    }

-- ---- values alone are done, and a question that stands is shown again

pub ticked-values : (bodies : List BodyParts) (s t : StoreState) (values found : List Value) (new : StandingParts) → found ≡ values → t ≡ s
    → StandingTicked bodies s (record { work = ValuesWork values; question = None; count = 0 }) (tick.Done found) new t
ticked-values bodies s t values found new is same = record {
  event = ap (λ (vs : List Value). DoneEvent vs) (is ∙ sym (reverse-reverse values));
  store = same;
  stack = refl;
}

pub ticked-again : (bodies : List BodyParts) (s : StoreState) (work : WorkParts) (asking : Asking) (count : ℕ) (ask : AskOf) (operands : List Value)
    → asked_event ask ≡ question_event (question_of asking operands) → operands ≡ last_values count (values_in work)
    → StandingTicked bodies s (record { work = work; question = Some asking; count = count }) (tick.Asked ask) (record { work = work; question = Some asking; count = count }) s
ticked-again bodies s work asking count ask operands event is = record {
  event = event ∙ ap (λ (vs : List Value). question_event (question_of asking vs)) is;
  store = refl;
  stack = refl;
}
