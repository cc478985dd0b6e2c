-- What a run keeps of the state that it began with.
use Rattle.std.proofs.Common.{◌≡◌, ℕ, zero, suc, ◌+◌, ◌*◌, ◌/◌, ◌≤◌, ◌⊎◌, inl, inr, List, [], ◌∷◌, ◌++◌, Option, Some, None, Bool, true, false, if◌then◌else◌, length, take, drop, replicate, slice_get, refl, sym, ap, subst, ◌∙◌, arith, length-append, length-drop}
use Rattle.std.proofs.Common.{leb-true}
use Rattle.std.specs.Prelude.{IfSome}
use Rattle.wz_store.specs.Growth.{may_grow}
use Rattle.std.proofs.lemmas.List.Sums.{sum_by-cons}
use Rattle.std.proofs.Math.ListN.{length-replicate}
use Rattle.wz_types.specs.declared.value.Value.{Value}
use Rattle.wz_types.specs.declared.value.Value.TheVariants.{I32}
use Rattle.wz_types.specs.Fits.{Fits}
use Rattle.wz_linear.specs.Bytes.{written}
use Rattle.wz_valid.specs.Profile.{pages_limit}
use Rattle.wz_store.specs.State.{Global, Table, Memory, Element, pages_of, page_size, pages_together}
use Rattle.wz_store.specs.Changes.{Change, Nothing, SetGlobal, WriteTable, WriteMemory, GrowTable, GrowMemory, EmptyElement, EmptyData, altered, with_content, with_bytes, with_more_pages, without_items, applied}
use Rattle.wz_store.proofs.ChangeLemmas.{get-altered}
use Rattle.wz_machine.specs.declared.questions.HostTarget.TheVariants as target
use Rattle.wz_machine.specs.State.{State, LastingParts, lasting_parts, FunctionBody, OwnBody, ImportedBody, NoBody, Callable, callable_at}
use Rattle.wz_machine.specs.Terms.{Inside, Innermost, InLabel, InFrame, Term, Frame, BareValues, Question, AskFloat, AskMemory, AskTable, AskHost, Standing, Runs, Waits}
use Rattle.wz_machine.specs.Outcomes.{Answer, Next, Done, Trap, Ask, Stuck}
use Rattle.wz_machine.specs.BulkSteps.{minus_one}
use Rattle.wz_machine.specs.Step.{step}
use Rattle.wz_machine.specs.Next.{next}
use Rattle.wz_machine.specs.CallSteps.{starting_locals}
use Rattle.wz_machine.specs.Entered.{entered, entered_callable, entered_body}
use Rattle.wz_machine.specs.Replies.{put, put_inside}
use Rattle.wz_machine.proofs.ChangeLemmas.{change_keeps}
use Rattle.wz_machine.specs.Advance.{head_changes_table}
use Rattle.wz_init.specs.Run.{StopReason, RunEnd, Returned, Stopped, too_much, within_limits, TableWouldChange, is_granted, granted_growth, growth_value, pages_at, run_question, run_on, run_from, run_standing, run}
use Rattle.wz_init.specs.declared.order.Phase.{Phase}
use Rattle.wz_init.specs.Ready.{Ready, Reached, phase_end, phases_run}
use Rattle.wz_init.specs.Reached.{IsOwn, AreOwn, InsideOwn, TermOwn, AreOwnReferences, HoldsOwn, GlobalsFit, HasSegmentsOf, AreWithinMaxima, IsLeftOf}
use Rattle.wz_init.proofs.MaximaLemmas.{within_altered, may_grow_within}
use Rattle.wz_init.proofs.FineLemmas.{IsFine, IsAsked, AnswerFine, step_fine, own_append, own_zeros}

-- ---- pages

-- a memory that keeps its size
pages_altered : (alter : Memory → Memory) (ms : List Memory) (i : ℕ) → ((m : Memory) → slice_get ms i ≡ Some m → pages_of (alter m) ≡ pages_of m)
    → pages_together (altered alter ms i) ≡ pages_together ms
pages_altered alter [] i h = refl
pages_altered alter (m ∷ ms) zero h =
    sum_by-cons pages_of (alter m) ms ∙ ap (λ (n : ℕ). n + pages_together ms) (h m refl) ∙ sym (sum_by-cons pages_of m ms)
pages_altered alter (m ∷ ms) (suc i) h =
    sum_by-cons pages_of m (altered alter ms i) ∙ ap (λ (n : ℕ). pages_of m + n) (pages_altered alter ms i h) ∙ sym (sum_by-cons pages_of m ms)

pages_grown : (alter : Memory → Memory) (ms : List Memory) (i by : ℕ) → ((m : Memory) → pages_of (alter m) ≤ pages_of m + by)
    → pages_together (altered alter ms i) ≤ pages_together ms + by
pages_grown alter [] i by h = omega arith
pages_grown alter (m ∷ ms) zero by h = omega (arith, h m, sum_by-cons pages_of (alter m) ms, sum_by-cons pages_of m ms)
pages_grown alter (m ∷ ms) (suc i) by h =
    omega (arith, pages_grown alter ms i by h, sum_by-cons pages_of m (altered alter ms i), sum_by-cons pages_of m ms)

length-take_within : (n : ℕ) (xs : List ℕ) → n ≤ length xs → length (take n xs) ≡ n
length-take_within zero xs h = refl
length-take_within (suc n) [] h = absurd (omega (arith, h))
length-take_within (suc n) (x ∷ xs) h = ap suc (length-take_within n xs (omega (arith, h)))

written_length : (bytes new : List ℕ) (at : ℕ) → at + length new ≤ length bytes → length (written bytes at new) ≡ length bytes
unfolding written
written_length bytes new at fits =
    omega (
      arith,
      length-append (take at bytes ++ new) (drop (at + length new) bytes),
      length-append (take at bytes) new,
      length-drop (at + length new) bytes,
      length-take_within at bytes (omega (arith, fits)),
    )

more_pages : (m : Memory) (by : ℕ) → pages_of (with_more_pages by m) ≤ pages_of m + by
more_pages m by =
    omega (arith, length-append m.bytes (replicate (by * page_size) 0), length-replicate {A = ℕ} (by * page_size) 0)

-- ---- a change of a step

same_tables : (s : State) (change : Change) → IsFine s change → (applied change s).tables ≡ s.tables
same_tables s Nothing f = refl
same_tables s (SetGlobal index value) f = refl
same_tables s (WriteTable index at entries) f = absurd f
same_tables s (WriteMemory index at bytes) f = refl
same_tables s (GrowTable index by reference) f = absurd f
same_tables s (GrowMemory index by) f = absurd f
same_tables s (EmptyElement index) f = refl
same_tables s (EmptyData index) f = refl

pub same_pages : (s : State) (change : Change) → IsFine s change → pages_together (applied change s).memories ≡ pages_together s.memories
same_pages s Nothing f = refl
same_pages s (SetGlobal index value) f = refl
same_pages s (WriteTable index at entries) f = absurd f
same_pages s (WriteMemory index at bytes) f =
    pages_altered (λ memory. with_bytes at bytes memory) s.memories index
    (λ m here. ap (λ (n : ℕ). n / page_size) (written_length m.bytes bytes at (f m here)))
same_pages s (GrowTable index by reference) f = absurd f
same_pages s (GrowMemory index by) f = absurd f
same_pages s (EmptyElement index) f = refl
same_pages s (EmptyData index) f = refl

pub segments_kept : (was s : State) (change : Change) → HasSegmentsOf was s → HasSegmentsOf was (applied change s)
segments_kept was s Nothing h = h
segments_kept was s (SetGlobal index value) h = record { elements = h.elements; datas = h.datas }
segments_kept was s (WriteTable index at entries) h = record { elements = h.elements; datas = h.datas }
segments_kept was s (WriteMemory index at bytes) h = record { elements = h.elements; datas = h.datas }
segments_kept was s (GrowTable index by reference) h = record { elements = h.elements; datas = h.datas }
segments_kept was s (GrowMemory index by) h = record { elements = h.elements; datas = h.datas }
segments_kept was s (EmptyElement index) h = record {
  elements = λ i e here. by i e (get-altered (λ element. without_items element) s.elements index i e here);
  datas = h.datas;
}
  where
    by : (i : ℕ) (e : Element) → (x : Element) × (slice_get s.elements i ≡ Some x) × ((x ≡ e) ⊎ ((index ≡ i) × (without_items x ≡ e)))
        → (slice_get was.elements i ≡ Some e) ⊎ (e.items ≡ [])
    by i e (x, is, inl same) = h.elements i e (is ∙ ap Some same)
    by i e (x, is, inr same) = inr (ap (λ (y : Element). y.items) (sym same.1))
segments_kept was s (EmptyData index) h = record {
  elements = h.elements;
  datas = λ i e here. by i e (get-altered (λ (bytes : List ℕ). []) s.datas index i e here);
}
  where
    by : (i : ℕ) (e : List ℕ) → (x : List ℕ) × (slice_get s.datas i ≡ Some x) × ((x ≡ e) ⊎ ((index ≡ i) × ([] ≡ e)))
        → (slice_get was.datas i ≡ Some e) ⊎ (e ≡ [])
    by i e (x, is, inl same) = h.datas i e (is ∙ ap Some same)
    by i e (x, is, inr same) = inr (sym same.1)

-- globals: a change sets one to what fits and is the instance's own
globals_kept : (s : State) (change : Change) → IsFine s change → GlobalsFit s → HoldsOwn s → (index : ℕ) (global : Global)
    → slice_get (applied change s).globals index ≡ Some global → Fits global.content global.type.value (length s.functions) (length s.types) × IsOwn global.content
globals_kept s Nothing f fit own i g here = (fit i g here, own.globals i g here)
globals_kept s (SetGlobal index value) f fit own i g here = by (get-altered (λ global. with_content value global) s.globals index i g here)
  where
    by : (x : Global) × (slice_get s.globals i ≡ Some x) × ((x ≡ g) ⊎ ((index ≡ i) × (with_content value x ≡ g)))
        → Fits g.content g.type.value (length s.functions) (length s.types) × IsOwn g.content
    by (x, is, inl same) = (fit i g (is ∙ ap Some same), own.globals i g (is ∙ ap Some same))
    by (x, is, inr same) =
        subst (λ (y : Global). Fits y.content y.type.value (length s.functions) (length s.types) × IsOwn y.content) same.1
        (f.1 x (ap (λ (n : ℕ). slice_get s.globals n) same.0 ∙ is), f.0)
globals_kept s (WriteTable index at entries) f fit own i g here = absurd f
globals_kept s (WriteMemory index at bytes) f fit own i g here = (fit i g here, own.globals i g here)
globals_kept s (GrowTable index by reference) f fit own i g here = absurd f
globals_kept s (GrowMemory index by) f fit own i g here = absurd f
globals_kept s (EmptyElement index) f fit own i g here = (fit i g here, own.globals i g here)
globals_kept s (EmptyData index) f fit own i g here = (fit i g here, own.globals i g here)

lasting_sizes : (s now : State) → lasting_parts now ≡ lasting_parts s → (length now.functions ≡ length s.functions) × (length now.types ≡ length s.types)
lasting_sizes s now h = (ap (λ (p : LastingParts). length p.functions) h, ap (λ (p : LastingParts). length p.types) h)

refit : (value : Value) (type : _) (a b c d : ℕ) → a ≡ c → b ≡ d → Fits value type c d → Fits value type a b
refit value type a b c d e e' h = subst (λ (n : ℕ). Fits value type n b) (sym e) (subst (λ (n : ℕ). Fits value type c n) (sym e') h)

pub same_maxima : (s : State) (change : Change) → IsFine s change → AreWithinMaxima s.memories → AreWithinMaxima (applied change s).memories
same_maxima s Nothing f h = h
same_maxima s (SetGlobal index value) f h = h
same_maxima s (WriteTable index at entries) f h = absurd f
same_maxima s (WriteMemory index at bytes) f h =
    within_altered (λ memory. with_bytes at bytes memory) s.memories index
    (λ m here within.
    subst (λ (n : ℕ). IfSome m.maximum (λ max. n ≤ max)) (sym (ap (λ (n : ℕ). n / page_size) (written_length m.bytes bytes at (f m here)))) within)
    h
same_maxima s (GrowTable index by reference) f h = absurd f
same_maxima s (GrowMemory index by) f h = absurd f
same_maxima s (EmptyElement index) f h = h
same_maxima s (EmptyData index) f h = h

pub left_on : (was first s : State) (change : Change) → IsLeftOf was first s → IsFine s change → IsLeftOf was first (applied change s)
left_on was first s change h f =
    let sizes = lasting_sizes s (applied change s) (change_keeps change s) in
    record {
      lasting = change_keeps change s ∙ h.lasting;
      tables = same_tables s change f ∙ h.tables;
      segments = segments_kept was s change h.segments;
      pages = subst (λ (n : ℕ). n ≤ pages_limit) (sym (same_pages s change f)) h.pages;
      sizes = same_maxima s change f h.sizes;
      fitting = λ i g here.
          refit g.content g.type.value (length (applied change s).functions) (length (applied change s).types) (length s.functions) (length s.types) sizes.0 sizes.1
          (globals_kept s change f h.fitting h.own i g here).0;
      own = record {
        globals = λ i g here. (globals_kept s change f h.fitting h.own i g here).1;
        tables = subst (λ (ts : List Table). (index : ℕ) (table : Table) → slice_get ts index ≡ Some table → AreOwnReferences table.entries) (sym (same_tables s change f)) h.own.tables;
      };
    }

-- ---- growth that is granted

grown_left : (was first s : State) (index by : ℕ) → IsLeftOf was first s → IsAsked s (AskMemory index by) → pages_together s.memories + by ≤ pages_limit
    → IsLeftOf was first (applied (GrowMemory index by) s)
grown_left was first s index by h asked room = record {
  lasting = change_keeps (GrowMemory index by) s ∙ h.lasting;
  tables = h.tables;
  segments = record { elements = h.segments.elements; datas = h.segments.datas };
  pages = omega (arith, pages_grown (λ memory. with_more_pages by memory) s.memories index by (λ m. more_pages m by), room);
  sizes = within_altered (λ memory. with_more_pages by memory) s.memories index
      (λ m here within.
      let same : asked.0 ≡ m = cc (asked.1, here) in
      let may = subst (λ (x : Memory). may_grow (pages_of x) x.maximum by ≡ true) same asked.2 in
      may_grow_within m.maximum (pages_of m) by (pages_of (with_more_pages by m)) may (more_pages m by)) h.sizes;
  fitting = h.fitting;
  own = record { globals = h.own.globals; tables = h.own.tables };
}

growth_left : (was first s : State) (index by : ℕ) → IsLeftOf was first s → IsAsked s (AskMemory index by) → IsLeftOf was first (applied (granted_growth s index by) s)
growth_left was first s index by h asked = by_test (is_granted s by) refl
  where
    by_test : (b : Bool) → is_granted s by ≡ b → IsLeftOf was first (applied (if b then GrowMemory index by else Nothing) s)
    by_test true granted = grown_left was first s index by h asked (leb-true (pages_together s.memories + by) pages_limit granted)
    by_test false granted = h

pub growth_value_own : (s : State) (index by : ℕ) → IsOwn (growth_value s index by)
growth_value_own s index by = by_test (is_granted s by)
  where
    by_test : (b : Bool) → IsOwn (if b then I32 (pages_at (slice_get s.memories index)) else minus_one)
    by_test true = tt
    by_test false = tt

put_own_inside : (values : List Value) (inside : Inside) → AreOwn values → InsideOwn inside → InsideOwn (put_inside values inside)
put_own_inside values (Innermost old code) h k = own_append values old h k
put_own_inside values (InLabel below count again inside rest) h k = (k.0, put_own_inside values inside h k.1)
put_own_inside values (InFrame below count own inside rest) h k = (k.0, k.1, put_own_inside values inside h k.2)

abbrev pub StandingFine : State → Standing → Type 0
StandingFine s (Runs term) = TermOwn term
StandingFine s (Waits question rest) = IsAsked s question × TermOwn rest

pub put_own : (values : List Value) (term : Term) → AreOwn values → TermOwn term → TermOwn (put values term)
put_own values (Frame count locals inside) h k = (k.0, put_own_inside values inside h k.1)
put_own values (BareValues old) h k = own_append values old h k

-- ---- a run

-- what goes on from such a state ends in one
abbrev Leads : State → State → (State → Term → RunEnd) → State → ℕ → ℕ → Type 0
Leads was first on last fuel ticks = (s : State) (term : Term) → IsLeftOf was first s → TermOwn term → on s term ≡ Returned last fuel ticks → IsLeftOf was first last

question_left : (was first : State) (on : State → Term → RunEnd) (last : State) (fuel ticks : ℕ) → Leads was first on last fuel ticks → (s : State) (rest : Term) (q : Question)
    → IsLeftOf was first s → IsAsked s q → TermOwn rest → run_question on s rest q ≡ Returned last fuel ticks → IsLeftOf was first last
question_left was first on last fuel ticks lead s rest (AskFloat op operands) h asked k e = absurd (cc e)
question_left was first on last fuel ticks lead s rest (AskMemory index by) h asked k e =
    lead (applied (granted_growth s index by) s) (put (growth_value s index by ∷ []) rest) (growth_left was first s index by h asked)
    (put_own (growth_value s index by ∷ []) rest (growth_value_own s index by, tt) k) e
question_left was first on last fuel ticks lead s rest (AskTable index by reference) h asked k e = absurd (cc e)
question_left was first on last fuel ticks lead s rest (AskHost (target.Import number) arguments type) h asked k e = absurd (cc e)
question_left was first on last fuel ticks lead s rest (AskHost (target.Foreign id) arguments type) h asked k e = absurd (cc e)

answer_left : (was first : State) (on : State → Term → RunEnd) (last : State) (fuel ticks left made : ℕ) → Leads was first on last fuel ticks → (s : State) (a : Answer)
    → IsLeftOf was first s → AnswerFine s a → run_on on left made s a ≡ Returned last fuel ticks → IsLeftOf was first last
answer_left was first on last fuel ticks left made lead s (Next change term) h k e = by (too_much term) e
  where
    by : (o : Option StopReason) → within_limits (λ new. on (applied change s) new) term o ≡ Returned last fuel ticks → IsLeftOf was first last
    by None e = lead (applied change s) term (left_on was first s change h k.0) k.1 e
    by (Some stop) e = absurd (cc e)
answer_left was first on last fuel ticks left made lead s (Done values) h k e =
    let same : s ≡ last = cc e in subst (λ (t : State). IsLeftOf was first t) same h
answer_left was first on last fuel ticks left made lead s (Trap kind) h k e = absurd (cc e)
answer_left was first on last fuel ticks left made lead s (Ask question rest) h k e = question_left was first on last fuel ticks lead s rest question h k.0 k.1 e
answer_left was first on last fuel ticks left made lead s Stuck h k e = absurd (cc e)

first_left : (was first : State) (left made : ℕ) (s : State) (term : Term) (last : State) (fuel ticks : ℕ)
    → Leads was first (λ now new. run_from left (made + 1) now new) last fuel ticks → IsLeftOf was first s → TermOwn term → (b : Bool) → head_changes_table (next term) ≡ b
    → (if b then Stopped TableWouldChange else run_on (λ now new. run_from left (made + 1) now new) left (made + 1) s (step s term)) ≡ Returned last fuel ticks
    → IsLeftOf was first last
first_left was first left made s term last fuel ticks lead h k true changes e = absurd (cc e)
first_left was first left made s term last fuel ticks lead h k false changes e =
    answer_left was first (λ now new. run_from left (made + 1) now new) last fuel ticks left (made + 1) lead s (step s term) h (step_fine s term changes h.own k) e

pub run_from_left : (was first : State) (left made : ℕ) (s : State) (term : Term) (last : State) (fuel ticks : ℕ) → IsLeftOf was first s → TermOwn term
    → run_from left made s term ≡ Returned last fuel ticks → IsLeftOf was first last
unfolding run_from
run_from_left was first zero made s term last fuel ticks h k e = absurd (cc e)
run_from_left was first (suc left) made s term last fuel ticks h k e =
    first_left was first left made s term last fuel ticks (λ now new h k e. run_from_left was first left (made + 1) now new last fuel ticks h k e) h k
    (head_changes_table (next term)) refl e

-- ---- the run of a function, and of all phases

standing_left : (was first : State) (left made : ℕ) (s : State) (o : Option Standing) (last : State) (fuel ticks : ℕ) → IsLeftOf was first s
    → ((standing : Standing) → o ≡ Some standing → StandingFine s standing) → run_standing left made s o ≡ Returned last fuel ticks → IsLeftOf was first last
standing_left was first left made s None last fuel ticks h own e = absurd (cc e)
standing_left was first left made s (Some (Runs term)) last fuel ticks h own e = run_from_left was first left made s term last fuel ticks h (own (Runs term) refl) e
standing_left was first left made s (Some (Waits question rest)) last fuel ticks h own e =
    question_left was first (λ now new. run_from left made now new) last fuel ticks (λ now new h k e. run_from_left was first left made now new last fuel ticks h k e) s rest
    question h (own (Waits question rest) refl).0 (own (Waits question rest) refl).1 e

pub entered_own : (s : State) (o : Option Callable) (standing : Standing) → entered_callable o [] ≡ Some standing → StandingFine s standing
entered_own s None standing e = absurd (cc e)
entered_own s (Some function) standing e = by function.body e
  where
    by : (body : FunctionBody) → entered_body function.type body [] ≡ Some standing → StandingFine s standing
    by (OwnBody locals code) e =
        let same : Runs (Frame (length function.type.results) (starting_locals locals []) (Innermost [] code)) ≡ standing = cc e in
        subst (λ (x : Standing). StandingFine s x) same (own_zeros locals, tt)
    by (ImportedBody number) e =
        let same : Waits (AskHost (target.Import number) [] function.type) (BareValues []) ≡ standing = cc e in
        subst (λ (x : Standing). StandingFine s x) same (tt, tt)
    by NoBody e = absurd (cc e)

pub run_left : (was first s : State) (function left made : ℕ) (last : State) (fuel ticks : ℕ) → IsLeftOf was first s → run s function left made ≡ Returned last fuel ticks
    → IsLeftOf was first last
unfolding run
run_left was first s function left made last fuel ticks h e =
    standing_left was first left made s (entered s function []) last fuel ticks h (λ standing is. entered_own s (callable_at s.types s.functions function) standing is) e

phase_left : (was first : State) (phase : Phase) (later : State → ℕ → ℕ → Ready) (last : State) (ticks : ℕ) (e : RunEnd)
    → ((now : State) (fuel made : ℕ) → e ≡ Returned now fuel made → later now fuel made ≡ Reached last ticks → IsLeftOf was first last)
    → phase_end phase later e ≡ Reached last ticks → IsLeftOf was first last
phase_left was first phase later last ticks (Returned now fuel made) lead h = lead now fuel made refl h
phase_left was first phase later last ticks (Stopped stop) lead h = absurd (cc h)

pub phases_left : (was first : State) (ps : List (Phase × ℕ)) (s : State) (fuel made : ℕ) (last : State) (ticks : ℕ) → IsLeftOf was first s
    → phases_run ps s fuel made ≡ Reached last ticks → IsLeftOf was first last
unfolding phases_run
phases_left was first [] s fuel made last ticks h e = let same : s ≡ last = cc e in subst (λ (t : State). IsLeftOf was first t) same h
phases_left was first (now ∷ later) s fuel made last ticks h e =
    phase_left was first now.0 (λ new left made. phases_run later new left made) last ticks (run s now.1 fuel made)
    (λ new left ticks_so_far ran e. phases_left was first later new left ticks_so_far last ticks (run_left was first s now.1 fuel made new left ticks_so_far h ran) e) e

-- ---- what is the instance's own stays so

own_globals_on : (s : State) (change : Change) → IsFine s change → HoldsOwn s → (index : ℕ) (global : Global) → slice_get (applied change s).globals index ≡ Some global
    → IsOwn global.content
own_globals_on s Nothing f own i g here = own.globals i g here
own_globals_on s (SetGlobal index value) f own i g here = by (get-altered (λ global. with_content value global) s.globals index i g here)
  where
    by : (x : Global) × (slice_get s.globals i ≡ Some x) × ((x ≡ g) ⊎ ((index ≡ i) × (with_content value x ≡ g))) → IsOwn g.content
    by (x, is, inl same) = own.globals i g (is ∙ ap Some same)
    by (x, is, inr same) = subst (λ (y : Global). IsOwn y.content) same.1 f.0
own_globals_on s (WriteTable index at entries) f own i g here = absurd f
own_globals_on s (WriteMemory index at bytes) f own i g here = own.globals i g here
own_globals_on s (GrowTable index by reference) f own i g here = absurd f
own_globals_on s (GrowMemory index by) f own i g here = absurd f
own_globals_on s (EmptyElement index) f own i g here = own.globals i g here
own_globals_on s (EmptyData index) f own i g here = own.globals i g here

pub own_on : (s : State) (change : Change) → HoldsOwn s → IsFine s change → HoldsOwn (applied change s)
own_on s change own f = record {
  globals = λ i g here. own_globals_on s change f own i g here;
  tables = subst (λ (ts : List Table). (index : ℕ) (table : Table) → slice_get ts index ≡ Some table → AreOwnReferences table.entries) (sym (same_tables s change f)) own.tables;
}

pub own_growth : (s : State) (index by : ℕ) → HoldsOwn s → HoldsOwn (applied (granted_growth s index by) s)
own_growth s index by own = by_test (is_granted s by)
  where
    by_test : (b : Bool) → HoldsOwn (applied (if b then GrowMemory index by else Nothing) s)
    by_test true = record { globals = own.globals; tables = own.tables }
    by_test false = own
