-- A run keeps whole pages: each memory's size is a number of pages, from the fresh instance on.
use Rattle.std.proofs.Common.{◌≡◌, ℕ, zero, suc, ◌+◌, ◌*◌, ◌≤◌, ◌⊎◌, inl, inr, List, [], ◌∷◌, Option, Some, None, Bool, true, false, if◌then◌else◌, length, replicate, slice_get, refl, sym, ap, subst, ◌∙◌, arith, length-append}
use Rattle.std.proofs.Math.ListN.{length-replicate}
use Rattle.wz_types.specs.declared.value.Value.{Value}
use Rattle.wz_types.specs.declared.value.Value.TheVariants.{I32}
use Rattle.wz_linear.proofs.WriteLemmas.{length-written}
use Rattle.wz_store.specs.State.{Memory, pages_of, page_size}
use Rattle.wz_store.specs.Changes.{Change, Nothing, SetGlobal, WriteTable, WriteMemory, GrowTable, GrowMemory, EmptyElement, EmptyData, altered, with_bytes, with_more_pages, applied}
use Rattle.wz_store.proofs.ChangeLemmas.{get-altered}
use Rattle.wz_machine.specs.declared.questions.HostTarget.TheVariants as target
use Rattle.wz_machine.specs.State.{State, FunctionBody, OwnBody, ImportedBody, NoBody, Callable, callable_at}
use Rattle.wz_machine.specs.Terms.{Inside, Innermost, InLabel, InFrame, Term, Frame, BareValues, Question, AskFloat, AskMemory, AskTable, AskHost, Standing, Runs, Waits}
use Rattle.wz_machine.specs.Outcomes.{Answer, Next, Done, Trap, Ask, Stuck}
use Rattle.wz_machine.specs.BulkSteps.{minus_one}
use Rattle.wz_machine.specs.Step.{step}
use Rattle.wz_machine.specs.Next.{next}
use Rattle.wz_machine.specs.CallSteps.{starting_locals}
use Rattle.wz_machine.specs.Entered.{entered, entered_callable, entered_body}
use Rattle.wz_machine.specs.Replies.{put, put_inside}
use Rattle.wz_init.specs.Run.{StopReason, RunEnd, Returned, Stopped, too_much, within_limits, TableWouldChange, is_granted, granted_growth, growth_value, pages_at, run_question, run_on, run_from, run_standing, run}
use Rattle.wz_machine.specs.Advance.{head_changes_table}
use Rattle.wz_init.specs.declared.order.Phase.{Phase}
use Rattle.wz_init.specs.Ready.{Ready, Reached, phase_end, phases_run}
use Rattle.wz_init.specs.Reached.{IsOwn, AreOwn, HoldsOwn, InsideOwn, TermOwn}
use Rattle.wz_init.proofs.FineLemmas.{IsFine, AnswerFine, step_fine, own_append, own_zeros}
use Rattle.wz_init.proofs.LeftLemmas.{own_on}

abbrev pub IsWhole : Memory → Type 0
IsWhole memory = length memory.bytes ≡ pages_of memory * page_size

abbrev pub AreWhole : List Memory → Type 0
AreWhole memories = (index : ℕ) (memory : Memory) → slice_get memories index ≡ Some memory → IsWhole memory

pub record IsKept (s : State) : Type 0 where
  pub own : HoldsOwn s
  pub whole : AreWhole s.memories

same_size : (one other : Memory) → length one.bytes ≡ length other.bytes → IsWhole one → IsWhole other
same_size one other same h = omega (arith, same, h)

pub whole_written : (ms : List Memory) (number at : ℕ) (bytes : List ℕ) → AreWhole ms
    → ((m : Memory) → slice_get ms number ≡ Some m → at + length bytes ≤ length m.bytes)
    → AreWhole (altered (λ memory. with_bytes at bytes memory) ms number)
whole_written ms number at bytes h fits i m here = by (get-altered (λ memory. with_bytes at bytes memory) ms number i m here)
  where
    by : (x : Memory) × (slice_get ms i ≡ Some x) × ((x ≡ m) ⊎ ((number ≡ i) × (with_bytes at bytes x ≡ m))) → IsWhole m
    by (x, is, inl same) = subst (λ (y : Memory). IsWhole y) same (h i x is)
    by (x, is, inr same) =
        subst (λ (y : Memory). IsWhole y) same.1
        (same_size x (with_bytes at bytes x)
        (sym (length-written x.bytes at bytes (fits x (ap (λ (n : ℕ). slice_get ms n) same.0 ∙ is)))) (h i x is))

whole_grown : (ms : List Memory) (number by : ℕ) → AreWhole ms → AreWhole (altered (λ memory. with_more_pages by memory) ms number)
whole_grown ms number more h i m here = by (get-altered (λ memory. with_more_pages more memory) ms number i m here)
  where
    by : (x : Memory) × (slice_get ms i ≡ Some x) × ((x ≡ m) ⊎ ((number ≡ i) × (with_more_pages more x ≡ m))) → IsWhole m
    by (x, is, inl same) = subst (λ (y : Memory). IsWhole y) same (h i x is)
    by (x, is, inr same) =
        subst (λ (y : Memory). IsWhole y) same.1
        (let old = h i x is in
        let long = length-append x.bytes (replicate (more * page_size) 0) in
        let zeros = length-replicate {A = ℕ} (more * page_size) 0 in omega (arith, old, long, zeros))

whole_on : (s : State) (change : Change) → AreWhole s.memories → IsFine s change → AreWhole (applied change s).memories
whole_on s Nothing h f = h
whole_on s (SetGlobal index value) h f = h
whole_on s (WriteTable index at entries) h f = absurd f
whole_on s (WriteMemory index at bytes) h f = whole_written s.memories index at bytes h f
whole_on s (GrowTable index by reference) h f = absurd f
whole_on s (GrowMemory index by) h f = absurd f
whole_on s (EmptyElement index) h f = h
whole_on s (EmptyData index) h f = h

kept_on : (s : State) (change : Change) → IsKept s → IsFine s change → IsKept (applied change s)
kept_on s change h f = record { own = own_on s change h.own f; whole = whole_on s change h.whole f }

-- ---- growth that is granted

growth_kept : (s : State) (index by : ℕ) → IsKept s → IsKept (applied (granted_growth s index by) s)
growth_kept s index by h = by_test (is_granted s by)
  where
    by_test : (b : Bool) → IsKept (applied (if b then GrowMemory index by else Nothing) s)
    by_test true = record {
      own = record { globals = h.own.globals; tables = h.own.tables };
      whole = whole_grown s.memories index by h.whole;
    }
    by_test false = h

growth_value_own : (s : State) (index by : ℕ) → IsOwn (growth_value s index by)
growth_value_own s index by = by_test (is_granted s by)
  where
    by_test : (b : Bool) → IsOwn (if b then I32 (pages_at (slice_get s.memories index)) else minus_one)
    by_test true = tt
    by_test false = tt

put_own_inside : (values : List Value) (inside : Inside) → AreOwn values → InsideOwn inside → InsideOwn (put_inside values inside)
put_own_inside values (Innermost old code) h k = own_append values old h k
put_own_inside values (InLabel below count again inside rest) h k = (k.0, put_own_inside values inside h k.1)
put_own_inside values (InFrame below count own inside rest) h k = (k.0, k.1, put_own_inside values inside h k.2)

abbrev StandingOwn : Standing → Type 0
StandingOwn (Runs term) = TermOwn term
StandingOwn (Waits question rest) = TermOwn rest

put_own : (values : List Value) (term : Term) → AreOwn values → TermOwn term → TermOwn (put values term)
put_own values (Frame count locals inside) h k = (k.0, put_own_inside values inside h k.1)
put_own values (BareValues old) h k = own_append values old h k

-- ---- a run

-- what goes on from such a state ends in one
abbrev Leads : (State → Term → RunEnd) → State → ℕ → ℕ → Type 0
Leads on last fuel ticks = (s : State) (term : Term) → IsKept s → TermOwn term → on s term ≡ Returned last fuel ticks → IsKept last

question_kept : (on : State → Term → RunEnd) (last : State) (fuel ticks : ℕ) → Leads on last fuel ticks → (s : State) (rest : Term) (q : Question)
    → IsKept s → TermOwn rest → run_question on s rest q ≡ Returned last fuel ticks → IsKept last
question_kept on last fuel ticks lead s rest (AskFloat op operands) h k e = absurd (cc e)
question_kept on last fuel ticks lead s rest (AskMemory index by) h k e =
    lead (applied (granted_growth s index by) s) (put (growth_value s index by ∷ []) rest) (growth_kept s index by h)
    (put_own (growth_value s index by ∷ []) rest (growth_value_own s index by, tt) k) e
question_kept on last fuel ticks lead s rest (AskTable index by reference) h k e = absurd (cc e)
question_kept on last fuel ticks lead s rest (AskHost (target.Import number) arguments type) h k e = absurd (cc e)
question_kept on last fuel ticks lead s rest (AskHost (target.Foreign id) arguments type) h k e = absurd (cc e)

answer_kept : (on : State → Term → RunEnd) (last : State) (fuel ticks left made : ℕ) → Leads on last fuel ticks → (s : State) (a : Answer)
    → IsKept s → AnswerFine s a → run_on on left made s a ≡ Returned last fuel ticks → IsKept last
answer_kept on last fuel ticks left made lead s (Next change term) h k e = by (too_much term) e
  where
    by : (o : Option StopReason) → within_limits (λ new. on (applied change s) new) term o ≡ Returned last fuel ticks → IsKept last
    by None e = lead (applied change s) term (kept_on s change h k.0) k.1 e
    by (Some stop) e = absurd (cc e)
answer_kept on last fuel ticks left made lead s (Done values) h k e =
    let same : s ≡ last = cc e in subst (λ (t : State). IsKept t) same h
answer_kept on last fuel ticks left made lead s (Trap kind) h k e = absurd (cc e)
answer_kept on last fuel ticks left made lead s (Ask question rest) h k e = question_kept on last fuel ticks lead s rest question h k.1 e
answer_kept on last fuel ticks left made lead s Stuck h k e = absurd (cc e)

first_kept : (left made : ℕ) (s : State) (term : Term) (last : State) (fuel ticks : ℕ)
    → Leads (λ now new. run_from left (made + 1) now new) last fuel ticks → IsKept s → TermOwn term → (b : Bool) → head_changes_table (next term) ≡ b
    → (if b then Stopped TableWouldChange else run_on (λ now new. run_from left (made + 1) now new) left (made + 1) s (step s term)) ≡ Returned last fuel ticks
    → IsKept last
first_kept left made s term last fuel ticks lead h k true changes e = absurd (cc e)
first_kept left made s term last fuel ticks lead h k false changes e =
    answer_kept (λ now new. run_from left (made + 1) now new) last fuel ticks left (made + 1) lead s (step s term) h (step_fine s term changes h.own k) e

pub run_from_kept : (left made : ℕ) (s : State) (term : Term) (last : State) (fuel ticks : ℕ) → IsKept s → TermOwn term
    → run_from left made s term ≡ Returned last fuel ticks → IsKept last
unfolding run_from
run_from_kept zero made s term last fuel ticks h k e = absurd (cc e)
run_from_kept (suc left) made s term last fuel ticks h k e =
    first_kept left made s term last fuel ticks (λ now new h k e. run_from_kept left (made + 1) now new last fuel ticks h k e) h k
    (head_changes_table (next term)) refl e

-- ---- the run of a function, and of all phases

standing_kept : (left made : ℕ) (s : State) (o : Option Standing) (last : State) (fuel ticks : ℕ) → IsKept s
    → ((standing : Standing) → o ≡ Some standing → StandingOwn standing) → run_standing left made s o ≡ Returned last fuel ticks → IsKept last
standing_kept left made s None last fuel ticks h own e = absurd (cc e)
standing_kept left made s (Some (Runs term)) last fuel ticks h own e = run_from_kept left made s term last fuel ticks h (own (Runs term) refl) e
standing_kept left made s (Some (Waits question rest)) last fuel ticks h own e =
    question_kept (λ now new. run_from left made now new) last fuel ticks (λ now new h k e. run_from_kept left made now new last fuel ticks h k e) s rest
    question h (own (Waits question rest) refl) e

entered_own : (o : Option Callable) (standing : Standing) → entered_callable o [] ≡ Some standing → StandingOwn standing
entered_own None standing e = absurd (cc e)
entered_own (Some function) standing e = by function.body e
  where
    by : (body : FunctionBody) → entered_body function.type body [] ≡ Some standing → StandingOwn standing
    by (OwnBody locals code) e =
        let same : Runs (Frame (length function.type.results) (starting_locals locals []) (Innermost [] code)) ≡ standing = cc e in
        subst (λ (x : Standing). StandingOwn x) same (own_zeros locals, tt)
    by (ImportedBody number) e =
        let same : Waits (AskHost (target.Import number) [] function.type) (BareValues []) ≡ standing = cc e in
        subst (λ (x : Standing). StandingOwn x) same tt
    by NoBody e = absurd (cc e)

run_kept : (s : State) (function left made : ℕ) (last : State) (fuel ticks : ℕ) → IsKept s → run s function left made ≡ Returned last fuel ticks
    → IsKept last
unfolding run
run_kept s function left made last fuel ticks h e =
    standing_kept left made s (entered s function []) last fuel ticks h (λ standing is. entered_own (callable_at s.types s.functions function) standing is) e

phase_kept : (phase : Phase) (later : State → ℕ → ℕ → Ready) (last : State) (ticks : ℕ) (e : RunEnd)
    → ((now : State) (fuel made : ℕ) → e ≡ Returned now fuel made → later now fuel made ≡ Reached last ticks → IsKept last)
    → phase_end phase later e ≡ Reached last ticks → IsKept last
phase_kept phase later last ticks (Returned now fuel made) lead h = lead now fuel made refl h
phase_kept phase later last ticks (Stopped stop) lead h = absurd (cc h)

pub phases_kept : (ps : List (Phase × ℕ)) (s : State) (fuel made : ℕ) (last : State) (ticks : ℕ) → IsKept s
    → phases_run ps s fuel made ≡ Reached last ticks → IsKept last
unfolding phases_run
phases_kept [] s fuel made last ticks h e = let same : s ≡ last = cc e in subst (λ (t : State). IsKept t) same h
phases_kept (now ∷ later) s fuel made last ticks h e =
    phase_kept now.0 (λ new left made. phases_run later new left made) last ticks (run s now.1 fuel made)
    (λ new left ticks_so_far ran e. phases_kept later new left ticks_so_far last ticks (run_kept s now.1 fuel made new left ticks_so_far h ran) e) e
