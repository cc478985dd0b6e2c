-- A run of a typed state keeps it typed, and each of its steps has a rule.
use Rattle.std.proofs.Common.{◌≡◌, ℕ, zero, suc, ◌+◌, ◌^◌, ◌≤◌, nat_lt, List, [], ◌∷◌, ◌++◌, Option, Some, None, Bool, true, false, if◌then◌else◌, IsSomeAnd, IsTrue, slice_get, option_map, refl, sym, ap, subst, ◌∙◌, arith, leb-true, lt-ltb}
use Rattle.std.proofs.lemmas.Option.{slice_get-map}
use Rattle.wz_types.specs.declared.types.ValType.{ValType}
use Rattle.wz_types.specs.declared.types.ValType.TheVariants as valtype
use Rattle.wz_types.specs.declared.value.Reference.{Reference}
use Rattle.wz_types.specs.declared.value.Reference.TheVariants.{Null, Fn, Foreign}
use Rattle.wz_types.specs.declared.value.Value.{Value}
use Rattle.wz_types.specs.declared.value.Value.TheVariants.{I32, I64, F32, F64, Ref}
use Rattle.wz_types.specs.FunctionType.{FunctionType}
use Rattle.wz_module.specs.Module.{Module}
use Rattle.wz_valid_code.specs.Context.{TypingContext}
use Rattle.wz_valid.specs.Validity.{IsValid}
use Rattle.wz_valid.specs.Profile.{IsInProfile, pages_limit}
use Rattle.wz_valid.specs.Indices.{all_functions}
use Rattle.wz_valid.specs.Laws.{StartTakesNothing, GlobalsAreOk, ElementsAreOk}
use Rattle.wz_store.specs.State.{Memory, pages_of, pages_together}
use Rattle.wz_store.specs.Changes.{Change, Nothing, GrowMemory, applied}
use Rattle.wz_machine.specs.declared.questions.HostTarget.TheVariants as target
use Rattle.wz_machine.specs.State.{State, LastingParts, lasting_parts, FunctionBody, OwnBody, ImportedBody, NoBody, FunctionInstance, callable_of, callable_from, callable_at}
use Rattle.wz_machine.specs.Terms.{Term, Question, AskFloat, AskMemory, AskTable, AskHost, Standing, Runs, Waits}
use Rattle.wz_machine.specs.Outcomes.{Answer, Next, Done, Trap, Ask, Stuck}
use Rattle.wz_machine.specs.BulkSteps.{minus_one}
use Rattle.wz_machine.specs.Step.{step}
use Rattle.wz_machine.specs.Next.{next}
use Rattle.wz_machine.specs.Advance.{head_changes_table}
use Rattle.wz_machine.specs.Frames.{frame_count, local_count}
use Rattle.wz_machine.specs.Entered.{entered}
use Rattle.wz_machine.specs.Replies.{put, takes_values}
use Rattle.wz_machine.specs.TypedState.{state_context, HasType, BodyTyped}
use Rattle.wz_machine.specs.TypedTerms.{IsStandingTyped}
use Rattle.wz_machine.specs.TypedSteps.{IsChangeTyped, IsAnswerTyped}
use Rattle.wz_machine.specs.TypedLaws.{ChangeKeepsTyping, EntryIsTyped, StepKeepsTyping}
use Rattle.wz_machine.specs.Laws.{ContextLasts}
use Rattle.wz_machine.specs.References.{is_own, TakesOwn, ValueHolds, AllAre, StateHolds, ChangeHolds, TermHolds, QuestionHolds, StandingHolds, AnswerHolds, StepAddsNoReference, ChangeAddsNoReference, EntryAddsNoReference, PutAddsNoReference}
use Rattle.wz_machine.proofs.ChangeLemmas.{change_keeps}
use Rattle.wz_machine.proofs.LeafLemmas.{if-both}
use Rattle.wz_init.specs.declared.order.Phase.{Phase}
use Rattle.wz_init.specs.declared.order.Phase.TheVariants as phase
use Rattle.wz_init.specs.declared.order.RunOrder.{RunOrder}
use Rattle.wz_init.specs.Functions.{functions_in}
use Rattle.wz_init.specs.Instances.{Instance, ElementUnfit, DataUnfit, NoInstance, Fresh}
use Rattle.wz_init.specs.Instantiation.{fresh}
use Rattle.wz_init.specs.Orders.{IsPlainFunction, IsPlainWhereGiven, IsRunnable}
use Rattle.wz_init.specs.Reached.{IsOwn, AreOwnReferences, lasting_of}
use Rattle.wz_init.specs.Run.{StopReason, FuelIsSpent, TableWouldChange, FramesAreTooMany, LocalsAreTooMany, StepTraps, NoRuleFits, FloatIsAsked, ImportIsCalled, RunEnd, Returned, Stopped, frames_limit, all_locals_limit, too_much, within_limits, is_granted, granted_growth, pages_at, growth_value, run_question, run_on, run_from, run_standing, run}
use Rattle.wz_init.specs.Ready.{Ready, Reached, StoppedIn, UnfitElement, UnfitData, NeverMade, phase_of, phases, phase_end, phases_run, ready_from, ready}
use Rattle.wz_init.specs.Typed.{DatasHoldBytes, FreshIsTyped, RunIsTyped, RunIsNeverStuck}
use Rattle.wz_init.proofs.FreshLemmas.{was_allocated}
use Rattle.wz_init.proofs.FirstLemmas.{IsFirst, was_first, was_lasting, some_state, segments_first}
use Rattle.wz_init.proofs.LawLemmas.{memories_ok}
use Rattle.wz_init.proofs.SmallLemmas.{type_at, type_in}
use Rattle.wz_init.proofs.TypedModules.{FunctionLaws, functions_by}
use Rattle.wz_init.proofs.TypedFresh.{IsSelfTyped, IsInstanceTyped, pages_at_most, allocated_typed, segments_run_typed}

-- what is said of steps and of valid modules
pub record TypingLaws : Type 0 where
  pub changes : ChangeKeepsTyping
  pub context : ContextLasts
  pub entries : EntryIsTyped
  pub steps : StepKeepsTyping
  pub own_steps : StepAddsNoReference
  pub own_changes : ChangeAddsNoReference
  pub own_entries : EntryAddsNoReference
  pub own_answers : PutAddsNoReference
  pub own_test : TakesOwn is_own
  pub start : StartTakesNothing
  pub globals : GlobalsAreOk
  pub elements : ElementsAreOk
  pub functions : FunctionLaws

-- ---- what a run keeps

-- a typed state that has the module's parts, and no reference to something of the host
pub record IsTypedInstance (m : Module) (s : State) : Type 0 where
  pub typed : IsSelfTyped s
  pub own : StateHolds is_own s
  pub parts : lasting_parts s ≡ lasting_of m

abbrev IsTermKept : State → Term → Type 0
IsTermKept s term = IsStandingTyped (state_context s) (Runs term) × TermHolds is_own term

-- why a run stops where each step has a rule
abbrev HasRule : StopReason → Type 0
HasRule FuelIsSpent = Unit {0}
HasRule TableWouldChange = Unit {0}
HasRule FramesAreTooMany = Unit {0}
HasRule LocalsAreTooMany = Unit {0}
HasRule (StepTraps kind) = Unit {0}
HasRule NoRuleFits = ⊥
HasRule (FloatIsAsked op) = Unit {0}
HasRule (ImportIsCalled import) = Unit {0}

abbrev IsEndKept : Module → RunEnd → Type 0
IsEndKept m (Returned s fuel ticks) = IsTypedInstance m s
IsEndKept m (Stopped stop) = HasRule stop

abbrev IsReadyKept : Module → Ready → Type 0
IsReadyKept m (Reached s ticks) = IsTypedInstance m s
IsReadyKept m (StoppedIn phase stop) = HasRule stop
IsReadyKept m (UnfitElement index) = Unit {0}
IsReadyKept m (UnfitData index) = Unit {0}
IsReadyKept m NeverMade = Unit {0}

-- ---- growth that is asked for

growth_typed : (s : State) (index by : ℕ) → IsChangeTyped s (granted_growth s index by)
growth_typed s index by = by_test (is_granted s by) refl
  where
    by_test : (b : Bool) → is_granted s by ≡ b → IsChangeTyped s (if b then GrowMemory index by else Nothing)
    by_test true granted =
        λ memory here.
        let all : pages_together s.memories + by ≤ 16384 = leb-true (pages_together s.memories + by) pages_limit granted in
        let few = pages_at_most s.memories index memory here in omega (arith, all, few)
    by_test false granted = tt

growth_own : (s : State) (index by : ℕ) → ChangeHolds is_own (granted_growth s index by)
growth_own s index by = if-both (λ (change : Change). ChangeHolds is_own change) (is_granted s by) (GrowMemory index by) Nothing tt tt

pages_typed : (s : State) (index : ℕ) (o : Option Memory) → IsSelfTyped s → slice_get s.memories index ≡ o → HasType (state_context s) (I32 (pages_at o)) valtype.I32
pages_typed s index None typed here = refl
pages_typed s index (Some memory) typed here = lt-ltb (pages_of memory) (2 ^ 32) (typed.pages index memory here)

growth_value_typed : (s : State) (index by : ℕ) → IsSelfTyped s → HasType (state_context s) (growth_value s index by) valtype.I32
growth_value_typed s index by typed =
    if-both (λ (value : Value). HasType (state_context s) value valtype.I32) (is_granted s by) (I32 (pages_at (slice_get s.memories index))) minus_one
    (pages_typed s index (slice_get s.memories index) typed refl) refl

growth_value_holds : (s : State) (index by : ℕ) → ValueHolds is_own (growth_value s index by)
growth_value_holds s index by =
    if-both (λ (value : Value). ValueHolds is_own value) (is_granted s by) (I32 (pages_at (slice_get s.memories index))) minus_one tt tt

-- ---- a function that takes nothing

abbrev nullary : FunctionType
nullary = record { params = []; results = [] }

-- it may be entered without arguments
pub plain_takes : (m : Module) (s : State) (function : ℕ) → IsSelfTyped s → lasting_parts s ≡ lasting_of m → IsPlainFunction m function
    → IsTrue (takes_values s (callable_at s.types s.functions function) [])
plain_takes m s function typed parts plain =
    let at : slice_get (all_functions m) function ≡ option_map (λ (f : FunctionInstance). f.signature) (slice_get s.functions function) =
    ap (λ (fs : List ℕ). slice_get fs function) (sym (functions_by s m parts)) ∙ slice_get-map (λ (f : FunctionInstance). f.signature) s.functions function in
    let type : type_at s.types (option_map (λ (f : FunctionInstance). f.signature) (slice_get s.functions function)) ≡ Some nullary =
    ap (λ (p : LastingParts). type_at p.types (option_map (λ (f : FunctionInstance). f.signature) (slice_get s.functions function))) parts
    ∙ sym (type_in m function (option_map (λ (f : FunctionInstance). f.signature) (slice_get s.functions function)) at) ∙ plain in
    there (slice_get s.functions function) refl type
  where
    body : (o : Option FunctionType) (b : FunctionBody) → o ≡ Some nullary → IsSomeAnd o (λ type. BodyTyped (state_context s) type b)
        → IsTrue (takes_values s (callable_of o b) [])
    body None b e h = absurd h
    body (Some type) (OwnBody locals code) e h =
        let same : nullary ≡ type = cc e in
        subst (λ (t : FunctionType). IsTrue (takes_values s (callable_of (Some t) (OwnBody locals code)) [])) same refl
    body (Some type) (ImportedBody number) e h =
        let same : nullary ≡ type = cc e in
        subst (λ (t : FunctionType). IsTrue (takes_values s (callable_of (Some t) (ImportedBody number)) [])) same refl
    body (Some type) NoBody e h = absurd h

    there : (o : Option FunctionInstance) → slice_get s.functions function ≡ o
        → type_at s.types (option_map (λ (f : FunctionInstance). f.signature) o) ≡ Some nullary
        → IsTrue (takes_values s (callable_from s.types o) [])
    there None here e = absurd (cc e)
    there (Some f) here e = body (slice_get s.types f.signature) f.body e (typed.functions function f here)

-- ---- the run

module _ (laws : TypingLaws) (m : Module) where
  kept_on : (s : State) (change : Change) → IsTypedInstance m s → IsChangeTyped s change → ChangeHolds is_own change → IsTypedInstance m (applied change s)
  kept_on s change kept typed own = record {
    typed = laws.changes s change kept.typed typed;
    own = laws.own_changes is_own s change kept.own own;
    parts = change_keeps change s ∙ kept.parts;
  }

  -- what is typed rests on what no change touches
  term_on : (s : State) (change : Change) (term : Term) → IsTermKept s term → IsTermKept (applied change s) term
  term_on s change term kept =
      (subst (λ (context : TypingContext). IsStandingTyped context (Runs term)) (sym (laws.context change s)) kept.0, kept.1)

  -- what goes on from a state and a term that are kept ends so
  abbrev Leads : (State → Term → RunEnd) → Type 0
  Leads on = (s : State) (term : Term) → IsTypedInstance m s → IsTermKept s term → IsEndKept m (on s term)

  question_kept : (on : State → Term → RunEnd) → Leads on → (s : State) (rest : Term) (question : Question) → IsTypedInstance m s
      → IsStandingTyped (state_context s) (Waits question rest) → QuestionHolds is_own question × TermHolds is_own rest → IsEndKept m (run_question on s rest question)
  question_kept on lead s rest (AskFloat op operands) kept typed own = tt
  question_kept on lead s rest (AskMemory index by) kept typed own =
      let value = growth_value s index by in
      lead (applied (granted_growth s index by) s) (put (value ∷ []) rest)
      (kept_on s (granted_growth s index by) kept (growth_typed s index by) (growth_own s index by))
      (term_on s (granted_growth s index by) (put (value ∷ []) rest) (
        (typed.0, typed.1.answered (value ∷ []) (growth_value_typed s index by kept.typed, tt)),
        laws.own_answers is_own (value ∷ []) rest (growth_value_holds s index by, tt) own.1,
      ))
  question_kept on lead s rest (AskTable index by reference) kept typed own = tt
  question_kept on lead s rest (AskHost (target.Import number) arguments type) kept typed own = tt
  question_kept on lead s rest (AskHost (target.Foreign id) arguments type) kept typed own = absurd (cc own.0.0.1)

  limits_kept : (on : Term → RunEnd) (term : Term) → IsEndKept m (on term) → IsEndKept m (within_limits on term (too_much term))
  limits_kept on term kept =
      if-both (λ (o : Option StopReason). IsEndKept m (within_limits on term o)) (nat_lt frames_limit (frame_count term)) (Some FramesAreTooMany)
      (if nat_lt all_locals_limit (local_count term) then Some LocalsAreTooMany else None) tt
      (if-both (λ (o : Option StopReason). IsEndKept m (within_limits on term o)) (nat_lt all_locals_limit (local_count term)) (Some LocalsAreTooMany) None tt kept)

  answer_kept : (on : State → Term → RunEnd) → Leads on → (fuel ticks : ℕ) (s : State) (results : List ValType) (answer : Answer) → IsTypedInstance m s
      → IsAnswerTyped s results answer → AnswerHolds is_own answer → IsEndKept m (run_on on fuel ticks s answer)
  answer_kept on lead fuel ticks s results (Next change term) kept typed own =
      limits_kept (λ new. on (applied change s) new) term
      (lead (applied change s) term (kept_on s change kept typed.0 own.0) (term_on s change term ((results, typed.1), own.1)))
  answer_kept on lead fuel ticks s results (Done values) kept typed own = kept
  answer_kept on lead fuel ticks s results (Trap kind) kept typed own = tt
  answer_kept on lead fuel ticks s results (Ask question rest) kept typed own = question_kept on lead s rest question kept (results, typed) own
  answer_kept on lead fuel ticks s results Stuck kept typed own = absurd typed

  run_from_kept : (fuel ticks : ℕ) → Leads (λ s term. run_from fuel ticks s term)
  unfolding run_from
  run_from_kept zero ticks s term kept h = tt
  run_from_kept (suc fuel) ticks s term kept h =
      if-both (λ (e : RunEnd). IsEndKept m e) (head_changes_table (next term)) (Stopped TableWouldChange)
      (run_on (λ now new. run_from fuel (ticks + 1) now new) fuel (ticks + 1) s (step s term)) tt
      (answer_kept (λ now new. run_from fuel (ticks + 1) now new) (run_from_kept fuel (ticks + 1)) fuel (ticks + 1) s h.0.0 (step s term) kept
      (laws.steps s term h.0.0 kept.typed h.0.1) (laws.own_steps is_own s term laws.own_test kept.own h.1))

  standing_kept : (fuel ticks : ℕ) (s : State) (o : Option Standing) → IsTypedInstance m s → IsSomeAnd o (λ standing. IsStandingTyped (state_context s) standing)
      → StandingHolds is_own o → IsEndKept m (run_standing fuel ticks s o)
  standing_kept fuel ticks s None kept typed own = absurd typed
  standing_kept fuel ticks s (Some (Runs term)) kept typed own = run_from_kept fuel ticks s term kept (typed, own)
  standing_kept fuel ticks s (Some (Waits question rest)) kept typed own =
      question_kept (λ now new. run_from fuel ticks now new) (run_from_kept fuel ticks) s rest question kept typed own

  run_kept : (s : State) (function fuel ticks : ℕ) → IsTypedInstance m s → IsPlainFunction m function → IsEndKept m (run s function fuel ticks)
  unfolding run
  run_kept s function fuel ticks kept plain =
      standing_kept fuel ticks s (entered s function []) kept (laws.entries s function [] kept.typed (plain_takes m s function kept.typed kept.parts plain))
      (laws.own_entries is_own s function [] laws.own_test tt)

  -- ---- all phases

  abbrev ArePlain : List (Phase × ℕ) → Type 0
  ArePlain [] = Unit {0}
  ArePlain (now ∷ later) = IsPlainFunction m now.1 × ArePlain later

  phase_kept : (phase : Phase) (later : State → ℕ → ℕ → Ready) (e : RunEnd) → ((s : State) (fuel ticks : ℕ) → IsTypedInstance m s → IsReadyKept m (later s fuel ticks))
      → IsEndKept m e → IsReadyKept m (phase_end phase later e)
  phase_kept phase later (Returned s fuel ticks) on kept = on s fuel ticks kept
  phase_kept phase later (Stopped stop) on kept = kept

  phases_kept : (ps : List (Phase × ℕ)) (s : State) (fuel ticks : ℕ) → ArePlain ps → IsTypedInstance m s → IsReadyKept m (phases_run ps s fuel ticks)
  unfolding phases_run
  phases_kept [] s fuel ticks plain kept = kept
  phases_kept (now ∷ later) s fuel ticks plain kept =
      phase_kept now.0 (λ new left made. phases_run later new left made) (run s now.1 fuel ticks) (λ new left made kept. phases_kept later new left made plain.1 kept)
      (run_kept s now.1 fuel ticks kept plain.0)

  phases_plain : (start reactor : Option ℕ) (function : ℕ) → IsPlainWhereGiven m start → IsPlainWhereGiven m reactor → IsPlainFunction m function
      → ArePlain (phase_of phase.Start start ++ (phase_of phase.Reactor reactor ++ (phase.Init, function) ∷ []))
  phases_plain None None function s r h = (h, tt)
  phases_plain None (Some reactor) function s r h = (r, (h, tt))
  phases_plain (Some start) None function s r h = (s, (h, tt))
  phases_plain (Some start) (Some reactor) function s r h = (s, (r, (h, tt)))

  start_plain : IsValid m → (start : Option ℕ) → m.start ≡ start → IsPlainWhereGiven m start
  start_plain valid None is = tt
  start_plain valid (Some function) is = laws.start m function valid is

  -- ---- the fresh instance

  value_holds : (value : Value) → IsOwn value → ValueHolds is_own value
  value_holds (I32 bits) h = tt
  value_holds (I64 bits) h = tt
  value_holds (F32 bits) h = tt
  value_holds (F64 bits) h = tt
  value_holds (Ref (Null kind)) h = refl
  value_holds (Ref (Fn index)) h = refl
  value_holds (Ref (Foreign id sort)) h = absurd h

  references_hold : (references : List Reference) → AreOwnReferences references → AllAre is_own references
  references_hold [] h at reference here = absurd (cc here)
  references_hold (Null kind ∷ references) h zero reference here = let same : Null kind ≡ reference = cc here in subst (λ (r : Reference). IsTrue (is_own r)) same refl
  references_hold (Fn index ∷ references) h zero reference here = let same : Fn index ≡ reference = cc here in subst (λ (r : Reference). IsTrue (is_own r)) same refl
  references_hold (Foreign id sort ∷ references) h zero reference here = absurd h.0
  references_hold (other ∷ references) h (suc at) reference here = references_hold references h.1 at reference here

  first_holds : (was s : State) → IsFirst was s → StateHolds is_own s
  first_holds was s first = record {
    globals = λ i global here. value_holds global.content (first.globals i global here);
    tables = λ i table here. references_hold table.entries (first.tables i table here);
    elements = λ i element here. references_hold element.items (first.elements i element here);
  }

  pub fresh_kept : IsValid m → IsInProfile m → DatasHoldBytes m → (s : State) → fresh m ≡ Instance s → IsTypedInstance m s
  fresh_kept valid profile datas s e =
      let made = some_state m s e in
      let was = was_allocated m (functions_in m) made.0 made.1 in
      let begun = was_first m made.0 profile (memories_ok m valid) (laws.globals m valid) (laws.elements m valid) was in
      let first = segments_first made.0 m made.0 s begun made.2 in
      let parts = was_lasting m made.0 was in
      let typed = allocated_typed m made.0 profile parts laws.functions valid datas (laws.elements m valid) was begun in
      record {
        typed = subst (λ (f : Fresh). IsInstanceTyped f) made.2 (segments_run_typed laws.changes m made.0 typed);
        own = first_holds made.0 s first;
        parts = first.lasting ∙ parts;
      }

  -- ---- the whole

  pub ready_kept : (order : RunOrder) → IsValid m → IsInProfile m → DatasHoldBytes m → IsRunnable m order → IsReadyKept m (ready m order)
  unfolding ready
  ready_kept order valid profile datas runnable = by (fresh m) refl
    where
      by : (f : Fresh) → fresh m ≡ f → IsReadyKept m (ready_from m order f)
      by (Instance s) is =
          phases_kept (phases m.start order) s order.fuel 0
          (phases_plain m.start order.reactor order.function (start_plain valid m.start refl) runnable.reactor_function runnable.init_function)
          (fresh_kept valid profile datas s is)
      by (ElementUnfit index) is = tt
      by (DataUnfit index) is = tt
      by NoInstance is = tt

-- ---- the laws

pub fresh_is_typed : TypingLaws → FreshIsTyped
fresh_is_typed laws m s valid profile datas e = (fresh_kept laws m valid profile datas s e).typed

pub run_is_typed : TypingLaws → RunIsTyped
run_is_typed laws m order s ticks valid profile datas runnable e =
    let kept : IsTypedInstance m s = subst (λ (r : Ready). IsReadyKept m r) e (ready_kept laws m order valid profile datas runnable) in kept.typed

pub run_is_never_stuck : TypingLaws → RunIsNeverStuck
run_is_never_stuck laws m order phase valid profile datas runnable e =
    subst (λ (r : Ready). IsReadyKept m r) e (ready_kept laws m order valid profile datas runnable)
