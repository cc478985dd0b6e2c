-- What a turn is to the run.
use Rattle.std.proofs.Common.{◌≡◌, ℕ, zero, suc, ◌+◌, ◌-◌, ◌<◌, ◌≤◌, nat_le, ◌==◌, List, [], ◌∷◌, ◌++◌, Option, Some, None, false, length, take, drop, reverse, slice_get, refl, sym, ap, subst, ◌∙◌, arith}
use Rattle.wz_types.specs.declared.trap.TrapKind.{TrapKind}
use Rattle.wz_types.specs.declared.value.Value.{Value}
use Rattle.wz_types.specs.FunctionType.{FunctionType}
use Rattle.wz_code.specs.Trees.{Code, End, Then, InBlock, InLoop, InIf}
use Rattle.wz_store.specs.Changes.{Nothing, applied}
use Rattle.wz_machine.specs.State.{State}
use Rattle.wz_machine.specs.Terms.{Inside, Innermost, InLabel, InFrame, Term, Frame, BareValues, Question, AskFloat, AskMemory, AskTable, AskHost, Standing, Runs}
use Rattle.wz_machine.specs.Outcomes.{Yields, Poses, Fails, HasNoRule, Outcome, Does, SetsLocals, Jumps, Quits, Calls, Reduct, Goes, Finishes, Branches, Returns, Pauses, Traps, Sticks, Answer, Next, Done, Trap, Ask, Stuck}
use Rattle.wz_machine.specs.InstrSteps.{leaf_step}
use Rattle.wz_machine.specs.BlockSteps.{block_type, label_types, block_entry, if_entry, arrival, label_reduct, frame_left, frame_reduct}
use Rattle.wz_machine.specs.Step.{outcome_reduct, code_reduct, inside_reduct, frame_answer, step}
use Rattle.wz_machine.specs.Next.{next}
use Rattle.wz_machine.specs.Frames.{frames_inside, locals_inside, frame_count, local_count}
use Rattle.wz_machine.specs.Replies.{put, put_inside}
use Rattle.wz_machine.specs.TypedTerms.{IsMachineTyped}
use Rattle.wz_machine.proofs.LeafLemmas.{if-both}
use Rattle.wz_types.specs.declared.value.Value.TheVariants.{I32}
use Rattle.wz_init.specs.Run.{StopReason, FramesAreTooMany, LocalsAreTooMany, RunEnd, Returned, Stopped, TableWouldChange, StepTraps, FloatIsAsked, ImportIsCalled, too_much, within_limits, granted_growth, growth_value, run_from}
use Rattle.wz_code.specs.declared.numeric.NumOp.{NumOp}
use Rattle.wz_machine.specs.declared.questions.HostTarget.TheVariants as target
use Rattle.wz_init.specs.declared.turn.Turned.TheVariants as turned
use Rattle.wz_init.specs.declared.order.Phase.{Phase}
use Rattle.wz_init.specs.declared.faults.InitFault.{InitFault}
use Rattle.wz_init.specs.declared.faults.InitFault.TheVariants as fault
use Rattle.wz_init.specs.Reached.{HoldsOwn, TermOwn}
use Rattle.wz_init.specs.Turns.{top_term, IsWithinLimits, IsTicked, StopsBy, IsRunning, HasEnded, IsAskedHere, IsBeyond, IsAlone}
use Rattle.wz_init.proofs.FineLemmas.{AnswerFine, step_fine}
use Rattle.wz_init.proofs.LeftLemmas.{own_on, own_growth, put_own, growth_value_own}
use Rattle.wz_machine.specs.Advance.{head_changes_table, Reaches, ReachesEntry}
use Rattle.wz_init.proofs.RunLemmas.{nothing_too_much, run_step, reaches_within, reaches_run, entry_run, reaches_own, entry_own}

-- ---- a question leaves frames and locals as they are

abbrev PausesSame : ℕ → ℕ → Reduct → Type 0
PausesSame frames locals (Goes change new inside) = Unit {0}
PausesSame frames locals (Finishes values) = Unit {0}
PausesSame frames locals (Branches label values) = Unit {0}
PausesSame frames locals (Returns values) = Unit {0}
PausesSame frames locals (Pauses question inside) = (frames_inside inside ≡ frames) × (locals_inside inside ≡ locals)
PausesSame frames locals (Traps kind) = Unit {0}
PausesSame frames locals Sticks = Unit {0}

outcome_pauses : (locals : List Value) (rest : Code) (o : Outcome) → PausesSame 0 0 (outcome_reduct locals rest o)
outcome_pauses locals rest (Does (Yields change values)) = tt
outcome_pauses locals rest (Does (Poses question values)) = (refl, refl)
outcome_pauses locals rest (Does (Fails kind)) = tt
outcome_pauses locals rest (Does HasNoRule) = tt
outcome_pauses locals rest (SetsLocals new values) = tt
outcome_pauses locals rest (Jumps label values) = tt
outcome_pauses locals rest (Quits values) = tt
outcome_pauses locals rest (Calls count inner code values) = tt

block_pauses : (locals : List Value) (type : Option FunctionType) (again : Option Code) (inner : Code) (values : List Value) (rest : Code)
    → PausesSame 0 0 (block_entry locals type again inner values rest)
block_pauses locals None again inner values rest = tt
block_pauses locals (Some type) again inner values rest =
    if-both (λ (r : Reduct). PausesSame 0 0 r) (nat_le (length type.params) (length values))
    (Goes Nothing locals
    (InLabel (drop (length type.params) values) (length (label_types type again)) again (Innermost (take (length type.params) values) inner) rest)) Sticks tt tt

if_pauses : (locals : List Value) (type : Option FunctionType) (first second : Code) (values : List Value) (rest : Code)
    → PausesSame 0 0 (if_entry locals type first second values rest)
if_pauses locals type first second (I32 (suc c) ∷ values) rest = block_pauses locals type None first values rest
if_pauses locals type first second (I32 zero ∷ values) rest = block_pauses locals type None second values rest
if_pauses locals type first second values rest = tt

code_pauses : (s : State) (locals values : List Value) (code : Code) → PausesSame 0 0 (code_reduct s locals values code)
code_pauses s locals values End = tt
code_pauses s locals values (Then leaf rest) = outcome_pauses locals rest (leaf_step s locals leaf values)
code_pauses s locals values (InBlock shape inner rest) = block_pauses locals (block_type s.types shape) None inner values rest
code_pauses s locals values (InLoop shape inner rest) = block_pauses locals (block_type s.types shape) (Some inner) inner values rest
code_pauses s locals values (InIf shape first second rest) = if_pauses locals (block_type s.types shape) first second values rest

label_pauses : (locals below : List Value) (count : ℕ) (again : Option Code) (rest : Code) (f l : ℕ) (r : Reduct) → PausesSame f l r
    → PausesSame f l (label_reduct locals below count again rest r)
label_pauses locals below count again rest f l (Goes change new inside) h = tt
label_pauses locals below count again rest f l (Finishes values) h = tt
label_pauses locals below count again rest f l (Branches zero values) h =
    if-both (λ (r : Reduct). PausesSame f l r) (nat_le count (length values)) (Goes Nothing locals (arrival below count again rest (take count values))) Sticks tt tt
label_pauses locals below count again rest f l (Branches (suc label) values) h = tt
label_pauses locals below count again rest f l (Returns values) h = tt
label_pauses locals below count again rest f l (Pauses question inside) h = h
label_pauses locals below count again rest f l (Traps kind) h = tt
label_pauses locals below count again rest f l Sticks h = tt

left_pauses : (locals below : List Value) (count : ℕ) (rest : Code) (values : List Value) (f l : ℕ) → PausesSame f l (frame_left locals below count rest values)
left_pauses locals below count rest values f l =
    if-both (λ (r : Reduct). PausesSame f l r) (nat_le count (length values)) (Goes Nothing locals (Innermost (take count values ++ below) rest)) Sticks tt tt

frame_pauses : (locals below : List Value) (count : ℕ) (own : List Value) (rest : Code) (f l : ℕ) (r : Reduct) → PausesSame f l r
    → PausesSame (1 + f) (length own + l) (frame_reduct locals below count own rest r)
frame_pauses locals below count own rest f l (Goes change new inside) h = tt
frame_pauses locals below count own rest f l (Finishes values) h =
    if-both (λ (r : Reduct). PausesSame (1 + f) (length own + l) r) (length values == count) (Goes Nothing locals (Innermost (values ++ below) rest)) Sticks tt tt
frame_pauses locals below count own rest f l (Branches zero values) h = left_pauses locals below count rest values (1 + f) (length own + l)
frame_pauses locals below count own rest f l (Branches (suc label) values) h = tt
frame_pauses locals below count own rest f l (Returns values) h = left_pauses locals below count rest values (1 + f) (length own + l)
frame_pauses locals below count own rest f l (Pauses question inside) h = (ap (λ (n : ℕ). 1 + n) h.0, ap (λ (n : ℕ). length own + n) h.1)
frame_pauses locals below count own rest f l (Traps kind) h = tt
frame_pauses locals below count own rest f l Sticks h = tt

inside_pauses : (s : State) (locals : List Value) (inside : Inside) → PausesSame (frames_inside inside) (locals_inside inside) (inside_reduct s locals inside)
inside_pauses s locals (Innermost values code) = code_pauses s locals values code
inside_pauses s locals (InLabel below count again inside rest) =
    label_pauses locals below count again rest (frames_inside inside) (locals_inside inside) (inside_reduct s locals inside) (inside_pauses s locals inside)
inside_pauses s locals (InFrame below count own inside rest) =
    frame_pauses locals below count own rest (frames_inside inside) (locals_inside inside) (inside_reduct s own inside) (inside_pauses s own inside)

abbrev AsksSame : ℕ → ℕ → Answer → Type 0
AsksSame frames locals (Next change term) = Unit {0}
AsksSame frames locals (Done values) = Unit {0}
AsksSame frames locals (Trap kind) = Unit {0}
AsksSame frames locals (Ask question rest) = (frame_count rest ≡ frames) × (local_count rest ≡ locals)
AsksSame frames locals Stuck = Unit {0}

answer_asks : (count : ℕ) (locals : List Value) (f l : ℕ) (r : Reduct) → PausesSame f l r → AsksSame (1 + f) (length locals + l) (frame_answer count locals r)
answer_asks count locals f l (Goes change new inside) h = tt
answer_asks count locals f l (Finishes values) h =
    if-both (λ (a : Answer). AsksSame (1 + f) (length locals + l) a) (length values == count) (Done (reverse values)) Stuck tt tt
answer_asks count locals f l (Branches zero values) h =
    if-both (λ (a : Answer). AsksSame (1 + f) (length locals + l) a) (nat_le count (length values)) (Done (reverse (take count values))) Stuck tt tt
answer_asks count locals f l (Branches (suc label) values) h = tt
answer_asks count locals f l (Returns values) h =
    if-both (λ (a : Answer). AsksSame (1 + f) (length locals + l) a) (nat_le count (length values)) (Done (reverse (take count values))) Stuck tt tt
answer_asks count locals f l (Pauses question inside) h = (ap (λ (n : ℕ). 1 + n) h.0, ap (λ (n : ℕ). length locals + n) h.1)
answer_asks count locals f l (Traps kind) h = tt
answer_asks count locals f l Sticks h = tt

step_asks : (s : State) (term : Term) → AsksSame (frame_count term) (local_count term) (step s term)
step_asks s (Frame count locals inside) =
    answer_asks count locals (frames_inside inside) (locals_inside inside) (inside_reduct s locals inside) (inside_pauses s locals inside)
step_asks s (BareValues values) = tt

put_same_inside : (values : List Value) (inside : Inside) → (frames_inside (put_inside values inside) ≡ frames_inside inside) × (locals_inside (put_inside values inside) ≡ locals_inside inside)
put_same_inside values (Innermost old code) = (refl, refl)
put_same_inside values (InLabel below count again inside rest) = put_same_inside values inside
put_same_inside values (InFrame below count own inside rest) =
    let same = put_same_inside values inside in (ap (λ (n : ℕ). 1 + n) same.0, ap (λ (n : ℕ). length own + n) same.1)

put_same : (values : List Value) (term : Term) → (frame_count (put values term) ≡ frame_count term) × (local_count (put values term) ≡ local_count term)
put_same values (Frame count locals inside) =
    let same = put_same_inside values inside in (ap (λ (n : ℕ). 1 + n) same.0, ap (λ (n : ℕ). length locals + n) same.1)
put_same values (BareValues old) = (refl, refl)

-- what is left of a term that asked, with an answer, is within the limits as the term was
pub put_within : (s : State) (term rest : Term) (question : Question) (values : List Value) → step s term ≡ Ask question rest → IsWithinLimits term
    → IsWithinLimits (put values rest)
put_within s term rest question values is within =
    let asks = subst (λ (a : Answer). AsksSame (frame_count term) (local_count term) a) is (step_asks s term) in
    let same = put_same values rest in
    record { frames = omega (arith, same.0, asks.0, within.frames); locals = omega (arith, same.1, asks.1, within.locals) }

-- ---- a turn

module _ (s after : State) (stack : List Standing) (term : Term) (spares : head_changes_table (next term) ≡ false) where
  pub went_run : IsTicked s term turned.Went after stack → IsWithinLimits (top_term stack) → (fuel ticks : ℕ)
      → run_from (suc fuel) ticks s term ≡ run_from fuel (ticks + 1) after (top_term stack)
  went_run t within fuel ticks =
      run_step fuel ticks s term (Next t.0 (top_term stack)) spares t.1
      ∙ ap (λ (o : Option StopReason). within_limits (λ new. run_from fuel (ticks + 1) (applied t.0 s) new) (top_term stack) o) (nothing_too_much (top_term stack) within)
      ∙ ap (λ (x : State). run_from fuel (ticks + 1) x (top_term stack)) (sym t.2)

  pub went_beyond : IsTicked s term turned.Went after stack → (phase : Phase) (fault : InitFault) → IsBeyond (top_term stack) fault → (fuel ticks : ℕ)
      → StopsBy phase (run_from (suc fuel) ticks s term) fault
  went_beyond t phase (fault.ElementOutOfBounds index) h fuel ticks = absurd h
  went_beyond t phase (fault.DataOutOfBounds index) h fuel ticks = absurd h
  went_beyond t phase (fault.Trap other kind) h fuel ticks = absurd h
  went_beyond t phase fault.OutOfFuel h fuel ticks = absurd h
  went_beyond t phase (fault.ImportCalled import) h fuel ticks = absurd h
  went_beyond t phase (fault.FloatUsed op) h fuel ticks = absurd h
  went_beyond t phase fault.TableChanged h fuel ticks = absurd h
  went_beyond t phase fault.TooManyFrames h fuel ticks =
      run_step fuel ticks s term (Next t.0 (top_term stack)) spares t.1
      ∙ ap (λ (o : Option StopReason). within_limits (λ new. run_from fuel (ticks + 1) (applied t.0 s) new) (top_term stack) o) h
  went_beyond t phase fault.TooManyFrameLocals h fuel ticks =
      run_step fuel ticks s term (Next t.0 (top_term stack)) spares t.1
      ∙ ap (λ (o : Option StopReason). within_limits (λ new. run_from fuel (ticks + 1) (applied t.0 s) new) (top_term stack) o) h
  went_beyond t phase fault.NoMemory h fuel ticks = absurd h

  pub went_running : IsTicked s term turned.Went after stack → IsMachineTyped after stack → IsWithinLimits (top_term stack) → HoldsOwn s → TermOwn term
      → IsRunning after stack
  went_running t typed within own holds =
      let fine = subst (λ (a : Answer). AnswerFine s a) t.1 (step_fine s term spares own holds) in
      record {
        typed = typed;
        alone = t.3;
        within = within;
        own = subst (λ (x : State). HoldsOwn x) (sym t.2) (own_on s t.0 own fine.0);
        holds = fine.1;
      }

  pub ended_run : IsTicked s term turned.Ended after stack → (fuel ticks : ℕ) → run_from (suc fuel) ticks s term ≡ Returned after fuel (ticks + 1)
  ended_run t fuel ticks = run_step fuel ticks s term (Done t.0) spares t.1 ∙ ap (λ (x : State). Returned x fuel (ticks + 1)) (sym t.2)

  pub ended : IsTicked s term turned.Ended after stack → IsMachineTyped after stack → HoldsOwn s → HasEnded after stack
  ended t typed own = record { typed = typed; own = subst (λ (x : State). HoldsOwn x) (sym t.2) own; empty = t.3 }

  pub asked_here : (index by : ℕ) → IsTicked s term (turned.Memory index by) after stack → HoldsOwn s → TermOwn term → IsAskedHere after stack index by
  asked_here index by t own holds =
      let fine = subst (λ (a : Answer). AnswerFine s a) t.1 (step_fine s term spares own holds) in
      record {
        rest = t.0;
        waits = t.3;
        memory = fine.0.0;
        there = ap (λ (x : State). slice_get x.memories index) t.2 ∙ fine.0.1;
        fits = fine.0.2;
      }

  pub grown_run : (index by : ℕ) (last : State) (now : List Standing) → IsTicked s term (turned.Memory index by) after stack
      → last ≡ applied (granted_growth after index by) after → now ≡ Runs (put (growth_value after index by ∷ []) (top_term stack)) ∷ [] → (fuel ticks : ℕ)
      → run_from (suc fuel) ticks s term ≡ run_from fuel (ticks + 1) last (top_term now)
  grown_run index by last now t e e' fuel ticks =
      let rest : top_term stack ≡ t.0 = ap (λ (x : List Standing). top_term x) t.3 in
      run_step fuel ticks s term (Ask (AskMemory index by) t.0) spares t.1
      ∙ ap (λ (x : State). run_from fuel (ticks + 1) (applied (granted_growth x index by) x) (put (growth_value x index by ∷ []) t.0)) (sym t.2)
      ∙ ap (λ (x : State). run_from fuel (ticks + 1) x (put (growth_value after index by ∷ []) t.0)) (sym e)
      ∙ ap (λ (x : Term). run_from fuel (ticks + 1) last (put (growth_value after index by ∷ []) x)) (sym rest)
      ∙ ap (λ (x : List Standing). run_from fuel (ticks + 1) last (top_term x)) (sym e')

  pub grown_running : (index by : ℕ) (last : State) (now : List Standing) → IsTicked s term (turned.Memory index by) after stack
      → last ≡ applied (granted_growth after index by) after → now ≡ Runs (put (growth_value after index by ∷ []) (top_term stack)) ∷ []
      → IsMachineTyped last now → IsWithinLimits term → HoldsOwn s → TermOwn term → IsRunning last now
  grown_running index by last now t e e' typed within own holds =
      let fine = subst (λ (a : Answer). AnswerFine s a) t.1 (step_fine s term spares own holds) in
      let rest : top_term stack ≡ t.0 = ap (λ (x : List Standing). top_term x) t.3 in
      let top : top_term now ≡ put (growth_value after index by ∷ []) t.0 =
      ap (λ (x : List Standing). top_term x) e' ∙ ap (λ (x : Term). put (growth_value after index by ∷ []) x) rest in
      record {
        typed = typed;
        alone = e' ∙ ap (λ (x : Term). Runs x ∷ []) (sym (ap (λ (x : List Standing). top_term x) e'));
        within = subst (λ (x : Term). IsWithinLimits x) (sym top)
            (put_within s term t.0 (AskMemory index by) (growth_value after index by ∷ []) t.1 within);
        own = subst (λ (x : State). HoldsOwn x) (sym e) (own_growth after index by (subst (λ (x : State). HoldsOwn x) (sym t.2) own));
        holds = subst (λ (x : Term). TermOwn x) (sym top)
            (put_own (growth_value after index by ∷ []) t.0 (growth_value_own after index by, tt) fine.1);
      }

  pub trapped_run : (kind : TrapKind) → IsTicked s term (turned.Trapped kind) after stack → (fuel ticks : ℕ) → run_from (suc fuel) ticks s term ≡ Stopped (StepTraps kind)
  trapped_run kind t fuel ticks = run_step fuel ticks s term (Trap kind) spares t

  pub float_run : (op : NumOp) → IsTicked s term (turned.Float op) after stack → (fuel ticks : ℕ) → run_from (suc fuel) ticks s term ≡ Stopped (FloatIsAsked op)
  float_run op t fuel ticks = run_step fuel ticks s term (Ask (AskFloat op t.0) t.1) spares t.2

  pub table_run : IsTicked s term turned.Table after stack → (fuel ticks : ℕ) → run_from (suc fuel) ticks s term ≡ Stopped TableWouldChange
  table_run t fuel ticks = run_step fuel ticks s term (Ask (AskTable t.0 t.1 t.2) t.3) spares t.4

  pub import_run : (import : ℕ) → IsTicked s term (turned.Import import) after stack → (fuel ticks : ℕ)
      → run_from (suc fuel) ticks s term ≡ Stopped (ImportIsCalled import)
  import_run import t fuel ticks = run_step fuel ticks s term (Ask (AskHost (target.Import import) t.0 t.1) t.2) spares t.3

  -- no reference leads to a function of the host
  pub foreign_never : (id : ℕ) → IsTicked s term (turned.Foreign id) after stack → HoldsOwn s → TermOwn term → ⊥
  foreign_never id t own holds = (subst (λ (a : Answer). AnswerFine s a) t.3 (step_fine s term spares own holds)).0

-- ---- many ticks, none of which entered a function

module _ (made : ℕ) (s after : State) (term : Term) (stack : List Standing) (ticked : Reaches made s term after (top_term stack)) (within : IsWithinLimits term) where
  pub reached_run : (fuel left : ℕ) → fuel ≡ made + left → (ticks : ℕ) → run_from fuel ticks s term ≡ run_from left (ticks + made) after (top_term stack)
  reached_run fuel left e ticks = ap (λ (n : ℕ). run_from n ticks s term) e ∙ reaches_run made s after term (top_term stack) ticked within left ticks

  pub reached_running : IsMachineTyped after stack → IsAlone stack → HoldsOwn s → TermOwn term → IsRunning after stack
  reached_running typed alone own holds =
      let both = reaches_own made s after term (top_term stack) ticked own holds in
      record { typed = typed; alone = alone; within = reaches_within made s after term (top_term stack) ticked within; own = both.0; holds = both.1 }

-- ---- many ticks, the last of which entered a function

pub entry_some : (made : ℕ) (s after : State) (term new : Term) → ReachesEntry made s term after new → 0 < made
entry_some zero s after term new h = absurd h
entry_some (suc made) s after term new h = omega arith

module _ (made : ℕ) (s after : State) (term : Term) (stack : List Standing) (ticked : ReachesEntry made s term after (top_term stack)) (within : IsWithinLimits term) where
  by_limits : (fuel left ticks : ℕ) (o : Option StopReason) → fuel ≡ made + left → too_much (top_term stack) ≡ o
      → run_from fuel ticks s term ≡ within_limits (λ t. run_from left (ticks + made) after t) (top_term stack) o
  by_limits fuel left ticks o e is =
      ap (λ (n : ℕ). run_from n ticks s term) e ∙ entry_run made s after term (top_term stack) ticked within left ticks
      ∙ ap (λ (x : Option StopReason). within_limits (λ t. run_from left (ticks + made) after t) (top_term stack) x) is

  pub entered_run : (fuel left : ℕ) → fuel ≡ made + left → IsWithinLimits (top_term stack) → (ticks : ℕ)
      → run_from fuel ticks s term ≡ run_from left (ticks + made) after (top_term stack)
  entered_run fuel left e there ticks = by_limits fuel left ticks None e (nothing_too_much (top_term stack) there)

  pub entered_beyond : (fuel left : ℕ) → fuel ≡ made + left → (phase : Phase) (fault : InitFault) → IsBeyond (top_term stack) fault → (ticks : ℕ)
      → StopsBy phase (run_from fuel ticks s term) fault
  entered_beyond fuel left e phase (fault.ElementOutOfBounds index) b ticks = absurd b
  entered_beyond fuel left e phase (fault.DataOutOfBounds index) b ticks = absurd b
  entered_beyond fuel left e phase (fault.Trap other kind) b ticks = absurd b
  entered_beyond fuel left e phase fault.OutOfFuel b ticks = absurd b
  entered_beyond fuel left e phase (fault.ImportCalled import) b ticks = absurd b
  entered_beyond fuel left e phase (fault.FloatUsed op) b ticks = absurd b
  entered_beyond fuel left e phase fault.TableChanged b ticks = absurd b
  entered_beyond fuel left e phase fault.TooManyFrames b ticks = by_limits fuel left ticks (Some FramesAreTooMany) e b
  entered_beyond fuel left e phase fault.TooManyFrameLocals b ticks = by_limits fuel left ticks (Some LocalsAreTooMany) e b
  entered_beyond fuel left e phase fault.NoMemory b ticks = absurd b

  pub entered_running : IsMachineTyped after stack → IsAlone stack → IsWithinLimits (top_term stack) → HoldsOwn s → TermOwn term → IsRunning after stack
  entered_running typed alone there own holds =
      let both = entry_own made s after term (top_term stack) ticked own holds in record { typed = typed; alone = alone; within = there; own = both.0; holds = both.1 }

-- all the fuel was used
pub round_spent : (fuel made ticks : ℕ) (s after : State) (term new : Term) → fuel - made ≡ 0 → made ≤ fuel
    → run_from fuel ticks s term ≡ run_from (fuel - made) (ticks + made) after new → run_from fuel ticks s term ≡ run_from 0 (ticks + (fuel - 0)) after new
round_spent fuel made ticks s after term new none few e =
    let all : ticks + made ≡ ticks + (fuel - 0) = omega (arith, none, few) in
    e ∙ ap (λ (n : ℕ). run_from n (ticks + made) after new) none ∙ ap (λ (n : ℕ). run_from 0 n after new) all

-- and one tick more was made
pub round_then : (fuel made rest ticks : ℕ) (s mid : State) (term new : Term) (end : RunEnd) → rest ≡ fuel - made - 1 → made < fuel
    → run_from fuel ticks s term ≡ run_from (fuel - made) (ticks + made) mid new
    → run_from (suc rest) (ticks + made) mid new ≡ end → run_from fuel ticks s term ≡ end
round_then fuel made rest ticks s mid term new end is less e turned =
    let one : fuel - made ≡ suc rest = omega (arith, is, less) in
    e ∙ ap (λ (n : ℕ). run_from n (ticks + made) mid new) one ∙ turned
