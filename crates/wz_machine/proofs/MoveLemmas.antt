-- Moves with more segments than are named.
use Rattle.std.proofs.Common.{◌≡◌, ℕ, List, [], ◌∷◌, Option, Some, None, Bool, true, false, ◌&&◌, length, reverse, slice_get, refl, ap, sym, subst, ◌∙◌}
use Rattle.std.proofs.lemmas.List.{length-map}
use Rattle.wz_types.specs.declared.value.Reference.{Reference}
use Rattle.wz_types.specs.declared.value.Value.{Value}
use Rattle.wz_types.specs.declared.value.Value.TheVariants.{I32}
use Rattle.wz_types.specs.FunctionType.{FunctionType}
use Rattle.wz_code.specs.Numeric.{types_of}
use Rattle.wz_code.specs.Trees.{Leaf}
use Rattle.wz_store.specs.State.{Table, Memory, Element, pages_of}
use Rattle.wz_store.specs.Changes.{GrowTable, GrowMemory, applied}
use Rattle.wz_machine.specs.declared.questions.FloatReply.{FloatReply}
use Rattle.wz_machine.specs.declared.questions.FloatReply.TheVariants as reply
use Rattle.wz_store.specs.Growth.{may_extend, may_grow}
use Rattle.wz_machine.specs.BulkSteps.{minus_one}
use Rattle.wz_machine.specs.State.{FunctionBody, OwnBody, ImportedBody, NoBody, FunctionInstance, Callable, callable_at, State, LastingParts, lasting_parts}
use Rattle.wz_machine.specs.Terms.{Inside, Innermost, InLabel, InFrame, Term, Frame, BareValues, AskFloat, AskMemory, AskTable, AskHost, Standing, Runs, Waits}
use Rattle.wz_machine.specs.Outcomes.{Answer, Next, Done, Trap, Ask, Stuck}
use Rattle.wz_machine.specs.Step.{step}
use Rattle.wz_machine.specs.Entered.{entered_body, entered_callable, entered}
use Rattle.wz_machine.specs.Exports.{ExternalValue, ExternalFunction, ExportInstance, exported}
use Rattle.wz_machine.specs.Moves.{Move, CallMove, TickMove, FloatAnswer, GrowAnswer, ReturnMove, AbortMove, Event, Went}
use Rattle.wz_machine.specs.Replies.{Reply, refusal, event_reply, change_reply, fits_in, all_fit_in, may_enter, takes_values, entry_reply, call_reply, answer_reply, tick_reply, put_inside, put, float_reply, memory_grown, table_grown, grow_reply, return_reply, abort_reply}
use Rattle.wz_machine.specs.Sessions.{move_reply, observe_from}
use Rattle.wz_machine.specs.Leaves.{InsideHas, TermHas, StandingHas, StackHas, BodyHas, FunctionsHave, AnswerHas}
use Rattle.wz_machine.specs.Within.{LeafWithin, NamesIn, NamesWithin, with_more}
use Rattle.wz_machine.specs.Laws.{ObservesSame}
use Rattle.wz_machine.proofs.ReadLemmas.{step_same}
use Rattle.wz_machine.proofs.ChangeLemmas.{change_keeps, applied-more}
use Rattle.wz_machine.proofs.LeafLemmas.{if-both, CallableHas, callable-has, step-has}

-- ---- what a move comes to, with more segments

module _ (exports : List ExportInstance) (s : State) (elements : List Element) (datas : List (List ℕ)) where
  tick-same : (stack : List Standing) → StackHas (NamesIn s) stack → tick_reply (with_more s elements datas) stack ≡ tick_reply s stack
  tick-same (Runs term ∷ below) h = ap (λ (answer : Answer). answer_reply term below answer) (step_same s elements datas term h.0)
  tick-same [] h = refl
  tick-same (Waits question rest ∷ below) h = refl

  reply-same : (stack : List Standing) (move : Move) → StackHas (NamesIn s) stack
      → move_reply exports (with_more s elements datas) stack move ≡ move_reply exports s stack move
  reply-same stack TickMove h = tick-same stack h
  reply-same stack move h = refl

-- ---- what a move comes to has no instructions but those of what was there

abbrev EnteredHas : (Leaf → Type 0) → Option Standing → Type 0
EnteredHas Is None = Unit {0}
EnteredHas Is (Some standing) = StandingHas Is standing

abbrev ReplyHas : (Leaf → Type 0) → Reply → Type 0
ReplyHas Is reply = StackHas Is reply.stack

module _ (Is : Leaf → Type 0) where
  put_inside-has : (values : List Value) (inside : Inside) → InsideHas Is inside → InsideHas Is (put_inside values inside)
  put_inside-has values (Innermost old code) h = h
  put_inside-has values (InLabel below count again inside rest) h = (h.0, put_inside-has values inside h.1, h.2)
  put_inside-has values (InFrame below count own inside rest) h = (put_inside-has values inside h.0, h.1)

  put-has : (values : List Value) (term : Term) → TermHas Is term → TermHas Is (put values term)
  put-has values (Frame count locals inside) h = put_inside-has values inside h
  put-has values (BareValues old) h = tt

  body-has : (type : FunctionType) (body : FunctionBody) (arguments : List Value) → BodyHas Is body → EnteredHas Is (entered_body type body arguments)
  body-has type (OwnBody locals code) arguments h = h
  body-has type (ImportedBody number) arguments h = tt
  body-has type NoBody arguments h = tt

  entered-has : (function : Option Callable) (arguments : List Value) → CallableHas Is function → EnteredHas Is (entered_callable function arguments)
  entered-has None arguments h = tt
  entered-has (Some function) arguments h = body-has function.type function.body arguments h

  entry-has : (stack : List Standing) (standing : Option Standing) → StackHas Is stack → EnteredHas Is standing → ReplyHas Is (entry_reply stack standing)
  entry-has stack None h b = h
  entry-has stack (Some (Runs term)) h b = (b, h)
  entry-has stack (Some (Waits question rest)) h b = (b, h)

  answer-has : (term : Term) (below : List Standing) (answer : Answer) → TermHas Is term → StackHas Is below → AnswerHas Is answer → ReplyHas Is (answer_reply term below answer)
  answer-has term below (Next change now) t h a = (a, h)
  answer-has term below (Done values) t h a = h
  answer-has term below (Trap kind) t h a = h
  answer-has term below (Ask question rest) t h a = (a, h)
  answer-has term below Stuck t h a = (t, h)

  module _ (s : State) (names : FunctionsHave Is s.functions) where
    call-has : (stack : List Standing) (export : Option ExternalValue) (values : List Value) → StackHas Is stack → ReplyHas Is (call_reply s stack export values)
    call-has stack (Some (ExternalFunction index)) values h =
        if-both (λ (r : Reply). ReplyHas Is r) (may_enter stack && takes_values s (callable_at s.types s.functions index) values)
        (entry_reply stack (entered s index values)) (refusal stack)
        (entry-has stack (entered s index values) h (entered-has (callable_at s.types s.functions index) values (callable-has Is s.types s.functions index names))) h
    call-has stack export values h = h

    tick-has : (stack : List Standing) → StackHas Is stack → ReplyHas Is (tick_reply s stack)
    tick-has (Runs term ∷ below) h = answer-has term below (step s term) h.0 h.1 (step-has Is s names term h.0)
    tick-has [] h = h
    tick-has (Waits question rest ∷ below) h = h

    float-has : (stack : List Standing) (answer : FloatReply) → StackHas Is stack → ReplyHas Is (float_reply s stack answer)
    float-has (Waits (AskFloat op operands) rest ∷ below) reply.Trap h = h.1
    float-has (Waits (AskFloat op operands) rest ∷ below) (reply.Gives value) h =
        if-both (λ (r : Reply). ReplyHas Is r) (fits_in s value (types_of op).result)
        (event_reply Went (Runs (put (value ∷ []) rest) ∷ below)) (refusal (Waits (AskFloat op operands) rest ∷ below)) (put-has (value ∷ []) rest h.0, h.1) h
    float-has stack answer h = h

    memory-has : (stack : List Standing) (index by : ℕ) (rest : Term) (below : List Standing) (memory : Option Memory) → StackHas Is stack → TermHas Is rest → StackHas Is below
        → ReplyHas Is (memory_grown stack index by rest below memory)
    memory-has stack index by rest below None h t b = h
    memory-has stack index by rest below (Some memory) h t b =
        if-both (λ (r : Reply). ReplyHas Is r) (may_grow (pages_of memory) memory.maximum by)
        (change_reply Went (GrowMemory index by) (Runs (put (I32 (pages_of memory) ∷ []) rest) ∷ below)) (refusal stack) (put-has (I32 (pages_of memory) ∷ []) rest t, b) h

    table-has : (stack : List Standing) (index by : ℕ) (reference : Reference) (rest : Term) (below : List Standing) (table : Option Table) → StackHas Is stack → TermHas Is rest
        → StackHas Is below → ReplyHas Is (table_grown stack index by reference rest below table)
    table-has stack index by reference rest below None h t b = h
    table-has stack index by reference rest below (Some table) h t b =
        if-both (λ (r : Reply). ReplyHas Is r) (may_extend (length table.entries) table.maximum by)
        (change_reply Went (GrowTable index by reference) (Runs (put (I32 (length table.entries) ∷ []) rest) ∷ below)) (refusal stack)
        (put-has (I32 (length table.entries) ∷ []) rest t, b) h

    grow-has : (stack : List Standing) (granted : Bool) → StackHas Is stack → ReplyHas Is (grow_reply s stack granted)
    grow-has (Waits (AskMemory index by) rest ∷ below) true h = memory-has (Waits (AskMemory index by) rest ∷ below) index by rest below (slice_get s.memories index) h h.0 h.1
    grow-has (Waits (AskMemory index by) rest ∷ below) false h = (put-has (minus_one ∷ []) rest h.0, h.1)
    grow-has (Waits (AskTable index by reference) rest ∷ below) true h =
        table-has (Waits (AskTable index by reference) rest ∷ below) index by reference rest below (slice_get s.tables index) h h.0 h.1
    grow-has (Waits (AskTable index by reference) rest ∷ below) false h = (put-has (minus_one ∷ []) rest h.0, h.1)
    grow-has stack granted h = h

    return-has : (stack : List Standing) (values : List Value) → StackHas Is stack → ReplyHas Is (return_reply s stack values)
    return-has (Waits (AskHost target arguments type) rest ∷ below) values h =
        if-both (λ (r : Reply). ReplyHas Is r) (all_fit_in s values type.results)
        (event_reply Went (Runs (put (reverse values) rest) ∷ below)) (refusal (Waits (AskHost target arguments type) rest ∷ below)) (put-has (reverse values) rest h.0, h.1) h
    return-has stack values h = h

    abort-has : (stack : List Standing) → StackHas Is stack → ReplyHas Is (abort_reply stack)
    abort-has (Waits (AskHost target arguments type) rest ∷ below) h = h.1
    abort-has stack h = h

    pub reply-has : (exports : List ExportInstance) (stack : List Standing) (move : Move) → StackHas Is stack → ReplyHas Is (move_reply exports s stack move)
    reply-has exports stack (CallMove name values) h = call-has stack (exported exports name) values h
    reply-has exports stack TickMove h = tick-has stack h
    reply-has exports stack (FloatAnswer answer) h = float-has stack answer h
    reply-has exports stack (GrowAnswer granted) h = grow-has stack granted h
    reply-has exports stack (ReturnMove values) h = return-has stack values h
    reply-has exports stack AbortMove h = abort-has stack h
    reply-has exports stack move h = h

-- ---- sessions

-- as many segments as before are there
element-count : (s now : State) → lasting_parts now ≡ lasting_parts s → length now.elements ≡ length s.elements
element-count s now kept =
    sym (length-map now.elements (λ (element : Element). element.kind)) ∙ ap (λ (parts : LastingParts). length parts.element_kinds) kept
    ∙ length-map s.elements (λ (element : Element). element.kind)

names-kept : (s now : State) → lasting_parts now ≡ lasting_parts s → (P : (Leaf → Type 0) → Type 0) → P (λ leaf. NamesIn s leaf) → P (λ leaf. NamesIn now leaf)
names-kept s now kept P h =
    subst (λ (e : ℕ). P (λ leaf. LeafWithin e (length now.datas) leaf)) (sym (element-count s now kept))
    (subst (λ (d : ℕ). P (λ leaf. LeafWithin (length s.elements) d leaf)) (sym (ap (λ (parts : LastingParts). parts.datas) kept)) h)

functions-kept : (s now : State) → lasting_parts now ≡ lasting_parts s → NamesWithin s → NamesWithin now
functions-kept s now kept names =
    subst (λ (fs : List FunctionInstance). FunctionsHave (NamesIn now) fs) (sym (ap (λ (parts : LastingParts). parts.functions) kept))
    (names-kept s now kept (λ Is. FunctionsHave Is s.functions) names)

observe_from-same : (exports : List ExportInstance) (moves : List Move) (s : State) (elements : List Element) (datas : List (List ℕ)) (stack : List Standing)
    → NamesWithin s → StackHas (NamesIn s) stack → observe_from exports (with_more s elements datas) stack moves ≡ observe_from exports s stack moves
observe_from-same exports [] s elements datas stack names h = refl
observe_from-same exports (move ∷ moves) s elements datas stack names h =
    let r : Reply = move_reply exports s stack move in
    let now : State = applied r.change s in
    let kept : lasting_parts now ≡ lasting_parts s = change_keeps r.change s in
    let more = applied-more r.change s elements datas in
    let within = reply-has (NamesIn s) s names exports stack move h in
    let rest = observe_from-same exports moves now more.0 more.1 r.stack (functions-kept s now kept names) (names-kept s now kept (λ Is. StackHas Is r.stack) within) in
    ap (λ (q : Reply). q.event ∷ observe_from exports (applied q.change (with_more s elements datas)) q.stack moves) (reply-same exports s elements datas stack move h)
    ∙ ap (λ (t : State). r.event ∷ observe_from exports t r.stack moves) more.2
    ∙ ap (λ (events : List Event). r.event ∷ events) rest

pub observes_same : ObservesSame
observes_same s elements datas exports moves names = observe_from-same exports moves s elements datas [] names tt
