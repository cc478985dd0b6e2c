-- What calls, ticks and answers come to where typed terms stand.
use Rattle.std.proofs.Common.{◌≡◌, ◌<◌, ◌+◌, ◌^◌, ◌++◌, ◌∷◌, ◌&&◌, ◌∙◌, [], ℕ, List, true, subst, length, sym, reverse, slice_get, Some, nat_le, arith, nat_lt, ltb-true, IsSomeAnd, refl, Option, None, ap, lt-ltb, option_map, Bool, false}
use Rattle.std.proofs.lemmas.List.{length-map}
use Rattle.std.proofs.lemmas.Bool.{and_parts, leb-true}
use Rattle.std.proofs.lemmas.Option.{slice_get-map}
use Rattle.wz_types.specs.declared.value.Value.{Value}
use Rattle.wz_types.specs.declared.types.ValType.{ValType}
use Rattle.wz_types.specs.Fits.{value_fits, type_of_kind}
use Rattle.wz_types.specs.declared.value.Reference.{Reference}
use Rattle.wz_types.specs.declared.value.Value.TheVariants.{Ref, I32}
use Rattle.wz_types.specs.FunctionType.{FunctionType}
use Rattle.wz_types.specs.declared.types.ValType.TheVariants as valtype
use Rattle.wz_code.specs.Numeric.{types_of}
use Rattle.wz_num.specs.Laws.{NumbersServe}
use Rattle.wz_valid_code.specs.Operands.{pushed, Operands}
use Rattle.wz_store.specs.State.{Memory, pages_of, Table}
use Rattle.wz_store.specs.Growth.{may_grow, within_maximum, may_extend}
use Rattle.wz_store.specs.Changes.{GrowMemory, GrowTable}
use Rattle.wz_machine.specs.State.{State, FunctionBody, OwnBody, ImportedBody, NoBody, callable_at, FunctionInstance, callable_from, Callable}
use Rattle.wz_machine.specs.Replies.{Reply, refusal, event_reply, fits_in, all_fit_in, takes_values, entry_reply, call_reply, may_enter, answer_reply, tick_reply, float_reply, put, memory_grown, change_reply, table_grown, grow_reply, return_reply, abort_reply}
use Rattle.wz_machine.specs.TypedSteps.{IsChangeTyped, IsAnswerTyped}
use Rattle.wz_machine.specs.TypedTerms.{IsStackTyped, as_operands, IsStandingTyped, IsTermTyped, answer_types}
use Rattle.wz_machine.specs.TypedState.{state_context, IsStateTyped, HasType, BodyTyped}
use Rattle.wz_machine.specs.Terms.{Standing, Question, AskFloat, AskMemory, AskTable, AskHost, Runs, Waits, Term}
use Rattle.wz_machine.specs.Moves.{Event, Went}
use Rattle.wz_machine.specs.Entered.{entered_body, entered, entered_callable}
use Rattle.wz_machine.specs.Exports.{ExternalValue, ExternalFunction}
use Rattle.wz_machine.specs.Outcomes.{Answer, Next, Done, Trap, Ask, Stuck}
use Rattle.wz_machine.specs.Step.{step}
use Rattle.wz_machine.specs.declared.questions.FloatReply.{FloatReply}
use Rattle.wz_machine.specs.BulkSteps.{minus_one}
use Rattle.wz_machine.specs.declared.questions.FloatReply.TheVariants as reply
use Rattle.wz_machine.proofs.StuckRelations.{Have}
use Rattle.wz_machine.proofs.StuckValues.{as_operands-reverse, stand-reverse, stand-pushed}
use Rattle.wz_machine.proofs.StuckCalls.{locals-start, callable_at-there}
use Rattle.wz_machine.proofs.StuckOperands.{if-tested}
use Rattle.wz_machine.proofs.StuckLeaves.{step_keeps_typing}

-- what a move comes to keeps the typing
pub record ReplyServes (s : State) (reply : Reply) : Type 0 where
  pub change : IsChangeTyped s reply.change
  pub stack : IsStackTyped (state_context s) reply.stack

pub refusal-serves : (s : State) (stack : List Standing) → IsStackTyped (state_context s) stack → ReplyServes s (refusal stack)
refusal-serves s stack h = record { change = tt; stack = h }

pub event-serves : (s : State) (event : Event) (stack : List Standing) → IsStackTyped (state_context s) stack → ReplyServes s (event_reply event stack)
event-serves s event stack h = record { change = tt; stack = h }

module _ (s : State) (typed : IsStateTyped (state_context s) s) where
  -- ---- values that fit

  pub fits-type : (value : Value) (type : ValType) → fits_in s value type ≡ true → HasType (state_context s) value type
  fits-type value type h = subst (λ (n : ℕ). value_fits value type n (length s.types) ≡ true) (sym (length-map s.functions (λ function. function.signature))) h

  all-stand : (values : List Value) (types : List ValType) → all_fit_in s values types ≡ true → Have s values (as_operands types)
  all-stand [] [] h = tt
  all-stand [] (t ∷ types) h = absurd (cc h)
  all-stand (v ∷ values) [] h = absurd (cc h)
  all-stand (v ∷ values) (t ∷ types) h =
      let r = and_parts (fits_in s v t) (all_fit_in s values types) h in (fits-type v t r.0, all-stand values types r.1)

  turned-stand : (values : List Value) (types : List ValType) → Have s values (as_operands types) → Have s (reverse values) (pushed types [])
  turned-stand values types h =
      subst (λ (x : Operands). Have s (reverse values) x) (as_operands-reverse types) (stand-reverse (state_context s) values types h)

  -- ---- growth within the limits

  pub pages-serve : (index by : ℕ) (memory : Memory) → slice_get s.memories index ≡ Some memory → may_grow (pages_of memory) memory.maximum by ≡ true
      → IsChangeTyped s (GrowMemory index by)
  pages-serve index by memory is test other is_other =
      let same : memory ≡ other = cc in
      let r = and_parts (nat_le (pages_of memory + by) 65536) (within_maximum memory.maximum (pages_of memory + by)) test in
      let le = leb-true (pages_of memory + by) 65536 r.0 in
      subst (λ (m : Memory). pages_of m + by < 2 ^ 32) same (omega (arith, le))

  pub entries-serve : (index by : ℕ) (reference : Reference) (table : Table) → slice_get s.tables index ≡ Some table
      → may_extend (length table.entries) table.maximum by ≡ true
      → HasType (state_context s) (Ref reference) (type_of_kind table.kind) → IsChangeTyped s (GrowTable index by reference)
  entries-serve index by reference table is test fit other is_other =
      let same : table ≡ other = cc in
      let r = and_parts (nat_lt (length table.entries + by) (2 ^ 32)) (within_maximum table.maximum (length table.entries + by)) test in
      subst (λ (t : Table). HasType (state_context s) (Ref reference) (type_of_kind t.kind) × (length t.entries + by < 2 ^ 32)) same
      (fit, ltb-true (length table.entries + by) (2 ^ 32) r.0)

module _ (s : State) (typed : IsStateTyped (state_context s) s) (numbers : NumbersServe) where
  -- ---- calls and steps

  body-entered : (type : FunctionType) (body : FunctionBody) (values : List Value) → BodyTyped (state_context s) type body
      → Have s values (as_operands type.params) → IsSomeAnd (entered_body type body values) (λ standing. IsStandingTyped (state_context s) standing)
  body-entered type (OwnBody locals code) values b st =
      (type.results, (type.params ++ locals, refl, locals-start (state_context s) type.params locals values st, ([], tt, b)))
  body-entered type (ImportedBody index) values b st =
      (type.results, record { asked = tt; answered = λ vs k. stand-pushed (state_context s) vs [] type.results [] k tt })
  body-entered type NoBody values b st = absurd b

  pub entry-typed : (index : ℕ) (values : List Value) → takes_values s (callable_at s.types s.functions index) values ≡ true
      → IsSomeAnd (entered s index values) (λ standing. IsStandingTyped (state_context s) standing)
  entry-typed index values fit = by (slice_get s.functions index) refl
    where
      by : (o : Option FunctionInstance) → slice_get s.functions index ≡ o → IsSomeAnd (entered s index values) (λ standing. IsStandingTyped (state_context s) standing)
      by None is =
          let none : callable_at s.types s.functions index ≡ None = ap (λ (o : Option FunctionInstance). callable_from s.types o) is in
          let wrong : takes_values s None values ≡ true = subst (λ (c : Option Callable). takes_values s c values ≡ true) none fit in absurd (cc wrong)
      by (Some function) is =
          let r = callable_at-there s typed index function is in
          let type : FunctionType = r.0 in
          let fits : all_fit_in s values type.params ≡ true = subst (λ (c : Option Callable). takes_values s c values ≡ true) r.3 fit in
          subst (λ (c : Option Callable). IsSomeAnd (entered_callable c values) (λ standing. IsStandingTyped (state_context s) standing)) (sym r.3)
          (body-entered type function.body values r.2 (all-stand s typed values type.params fits))

  entry-serves : (stack : List Standing) (o : Option Standing) → IsStackTyped (state_context s) stack
      → IsSomeAnd o (λ standing. IsStandingTyped (state_context s) standing) → ReplyServes s (entry_reply stack o)
  entry-serves stack None h t = absurd t
  entry-serves stack (Some (Runs term)) h t = event-serves s Went (Runs term ∷ stack) (t, h)
  entry-serves stack (Some (Waits question rest)) h t = record { change = tt; stack = (t, h) }

  pub call-serves : (stack : List Standing) (target : Option ExternalValue) (values : List Value) → IsStackTyped (state_context s) stack
      → ReplyServes s (call_reply s stack target values)
  call-serves stack (Some (ExternalFunction index)) values h =
      if-tested (λ (r : Reply). ReplyServes s r) (may_enter stack && takes_values s (callable_at s.types s.functions index) values)
      (entry_reply stack (entered s index values)) (refusal stack)
      (λ test. entry-serves stack (entered s index values) h (entry-typed index values (and_parts (may_enter stack)
      (takes_values s (callable_at s.types s.functions index) values) test).1)) (refusal-serves s stack h)
  call-serves stack None values h = refusal-serves s stack h
  call-serves stack (Some target) values h = refusal-serves s stack h

  answer-serves : (term : Term) (below : List Standing) (results : List ValType) (answer : Answer) → IsAnswerTyped s results answer → IsStackTyped (state_context s) below
      → ReplyServes s (answer_reply term below answer)
  answer-serves term below results (Next change now) a h = record { change = a.0; stack = ((results, a.1), h) }
  answer-serves term below results (Done values) a h = record { change = tt; stack = h }
  answer-serves term below results (Trap kind) a h = record { change = tt; stack = h }
  answer-serves term below results (Ask question rest) a h = record { change = tt; stack = ((results, a), h) }
  answer-serves term below results Stuck a h = absurd a

  pub tick-serves : (stack : List Standing) → IsStackTyped (state_context s) stack → ReplyServes s (tick_reply s stack)
  tick-serves (Runs term ∷ below) h =
      answer-serves term below h.0.0 (step s term) (step_keeps_typing numbers s term h.0.0 typed h.0.1) h.1
  tick-serves [] h = refusal-serves s [] h
  tick-serves (Waits question rest ∷ below) h = refusal-serves s (Waits question rest ∷ below) h

  -- ---- answers

  pub float-serves : (stack : List Standing) (answer : FloatReply) → IsStackTyped (state_context s) stack → ReplyServes s (float_reply s stack answer)
  float-serves (Waits (AskFloat op operands) rest ∷ below) reply.Trap h = record { change = tt; stack = h.1 }
  float-serves (Waits (AskFloat op operands) rest ∷ below) (reply.Gives value) h =
      if-tested (λ (r : Reply). ReplyServes s r) (fits_in s value (types_of op).result) (event_reply Went (Runs (put (value ∷ []) rest) ∷ below))
      (refusal (Waits (AskFloat op operands) rest ∷ below))
      (λ test. event-serves s Went (Runs (put (value ∷ []) rest) ∷ below)
      ((h.0.0, h.0.1.answered (value ∷ []) (fits-type s typed value (types_of op).result test, tt)), h.1))
      (refusal-serves s (Waits (AskFloat op operands) rest ∷ below) h)
  float-serves stack answer h = refusal-serves s stack h

  -- an i32 answers a growth
  grown-by : (term : Term) (results : List ValType) (bits : ℕ) → bits < 2 ^ 32
      → ((values : List Value) → Have s values (pushed (valtype.I32 ∷ []) []) → IsTermTyped (state_context s) (put values term) results)
      → IsTermTyped (state_context s) (put (I32 bits ∷ []) term) results
  grown-by term results bits lt h = h (I32 bits ∷ []) (lt-ltb bits (2 ^ 32) lt, tt)

  memory-serves : (stack : List Standing) (index by : ℕ) (rest : Term) (below : List Standing) (memory : Option Memory) → slice_get s.memories index ≡ memory
      → IsStackTyped (state_context s) stack → IsStandingTyped (state_context s) (Waits (AskMemory index by) rest) → IsStackTyped (state_context s) below
      → ReplyServes s (memory_grown stack index by rest below memory)
  memory-serves stack index by rest below None is h w b = refusal-serves s stack h
  memory-serves stack index by rest below (Some memory) is h w b =
      if-tested (λ (r : Reply). ReplyServes s r) (may_grow (pages_of memory) memory.maximum by)
      (change_reply Went (GrowMemory index by) (Runs (put (I32 (pages_of memory) ∷ []) rest) ∷ below)) (refusal stack)
      (λ test. record {
        change = pages-serve s typed index by memory is test;
        stack = (
          (
            w.0,
            grown-by rest w.0 (pages_of memory)
                (typed.pages index memory is) w.1.answered,
          ),
          b,
        );
      })
      (refusal-serves s stack h)

  table-serves : (stack : List Standing) (index by : ℕ) (reference : Reference) (rest : Term) (below : List Standing) (table : Option Table)
      → slice_get s.tables index ≡ table → IsStackTyped (state_context s) stack
      → IsStandingTyped (state_context s) (Waits (AskTable index by reference) rest) → IsStackTyped (state_context s) below
      → ReplyServes s (table_grown stack index by reference rest below table)
  table-serves stack index by reference rest below None is h w b = refusal-serves s stack h
  table-serves stack index by reference rest below (Some table) is h w b =
      if-tested (λ (r : Reply). ReplyServes s r) (may_extend (length table.entries) table.maximum by)
      (change_reply Went (GrowTable index by reference) (Runs (put (I32 (length table.entries) ∷ []) rest) ∷ below)) (refusal stack)
      (λ test. record {
        change =
            entries-serve s typed index by reference table is test (w.1.asked table.kind (slice_get-map (λ (t : Table). t.kind) s.tables index ∙ ap
            (λ (o : Option Table). option_map (λ (t : Table). t.kind) o) is));
        stack = ((w.0, grown-by rest w.0 (length table.entries) (typed.sizes index table is) w.1.answered), b);
      })
      (refusal-serves s stack h)

  minus-serves : (question : Question) (rest : Term) (below : List Standing) → answer_types question ≡ valtype.I32 ∷ []
      → IsStandingTyped (state_context s) (Waits question rest) → IsStackTyped (state_context s) below
      → ReplyServes s (event_reply Went (Runs (put (minus_one ∷ []) rest) ∷ below))
  minus-serves question rest below same w b =
      event-serves s Went (Runs (put (minus_one ∷ []) rest) ∷ below)
      ((w.0, w.1.answered (minus_one ∷ []) (subst (λ (ts : List ValType). Have s (minus_one ∷ []) (pushed ts [])) (sym same) (refl, tt))), b)

  pub grow-serves : (stack : List Standing) (granted : Bool) → IsStackTyped (state_context s) stack → ReplyServes s (grow_reply s stack granted)
  grow-serves (Waits (AskMemory index by) rest ∷ below) true h =
      memory-serves (Waits (AskMemory index by) rest ∷ below) index by rest below (slice_get s.memories index) refl h h.0 h.1
  grow-serves (Waits (AskMemory index by) rest ∷ below) false h = minus-serves (AskMemory index by) rest below refl h.0 h.1
  grow-serves (Waits (AskTable index by reference) rest ∷ below) true h =
      table-serves (Waits (AskTable index by reference) rest ∷ below) index by reference rest below (slice_get s.tables index) refl h h.0 h.1
  grow-serves (Waits (AskTable index by reference) rest ∷ below) false h = minus-serves (AskTable index by reference) rest below refl h.0 h.1
  grow-serves stack granted h = refusal-serves s stack h

  pub return-serves : (stack : List Standing) (values : List Value) → IsStackTyped (state_context s) stack → ReplyServes s (return_reply s stack values)
  return-serves (Waits (AskHost target arguments type) rest ∷ below) values h =
      if-tested (λ (r : Reply). ReplyServes s r) (all_fit_in s values type.results) (event_reply Went (Runs (put (reverse values) rest) ∷ below))
      (refusal (Waits (AskHost target arguments type) rest ∷ below))
      (λ test. event-serves s Went (Runs (put (reverse values) rest) ∷ below)
      ((h.0.0, h.0.1.answered (reverse values) (turned-stand s typed values type.results (all-stand s typed values type.results test))), h.1))
      (refusal-serves s (Waits (AskHost target arguments type) rest ∷ below) h)
  return-serves stack values h = refusal-serves s stack h

  pub abort-serves : (stack : List Standing) → IsStackTyped (state_context s) stack → ReplyServes s (abort_reply stack)
  abort-serves (Waits (AskHost target arguments type) rest ∷ below) h = record { change = tt; stack = h.1 }
  abort-serves stack h = refusal-serves s stack h
