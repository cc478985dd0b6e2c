-- What steps come to has no instructions but those of what was there.
use Rattle.std.proofs.Common.{ℕ, zero, suc, List, [], ◌∷◌, ◌++◌, Option, Some, None, Bool, true, false, IsTrue, if◌then◌else◌, ◌==◌, nat_le, slice_get, length, take, drop, reverse}
use Rattle.wz_types.specs.declared.trap.TrapKind.TheVariants.{IndirectType}
use Rattle.wz_types.specs.declared.value.Sort.{Sort}
use Rattle.wz_types.specs.declared.value.Sort.TheVariants as sort
use Rattle.wz_types.specs.declared.value.Reference.{Reference}
use Rattle.wz_types.specs.declared.value.Reference.TheVariants.{Null, Fn, Foreign}
use Rattle.wz_types.specs.declared.value.Value.{Value}
use Rattle.wz_types.specs.declared.value.Value.TheVariants.{I32}
use Rattle.wz_types.specs.FunctionType.{FunctionType}
use Rattle.wz_types.specs.SameType.{same_function_type}
use Rattle.wz_code.specs.declared.instr.Instr.{Instr}
use Rattle.wz_code.specs.declared.instr.Instr.TheVariants.{BrIf, Call, CallIndirect, LocalSet, LocalTee}
use Rattle.wz_code.specs.Trees.{Code, End, Then, InBlock, InLoop, InIf, Leaf, Plain, TableBranch, TypedSelect}
use Rattle.wz_store.specs.State.{Table}
use Rattle.wz_store.specs.Changes.{Nothing}
use Rattle.wz_machine.specs.State.{FunctionBody, OwnBody, ImportedBody, NoBody, FunctionInstance, Callable, callable_of, callable_from, callable_at, State}
use Rattle.wz_machine.specs.declared.questions.HostTarget.TheVariants as target
use Rattle.wz_machine.specs.Terms.{Inside, Innermost, InLabel, InFrame, Term, Frame, BareValues, AskHost}
use Rattle.wz_machine.specs.Outcomes.{Effect, Yields, Poses, Fails, HasNoRule, Outcome, Does, SetsLocals, Jumps, Quits, Calls, Reduct, Goes, Finishes, Branches, Returns, Pauses, Traps, Sticks, Answer, Done, Stuck}
use Rattle.wz_machine.specs.VariableSteps.{local_set_step, local_tee_step}
use Rattle.wz_machine.specs.ControlSteps.{br_if_step, listed_jump, br_table_step}
use Rattle.wz_machine.specs.CallSteps.{invocation, with_arguments, call_step, expected_call, host_call, foreign_call, sort_call, entry_call, call_indirect_step}
use Rattle.wz_machine.specs.InstrSteps.{instr_step, leaf_step}
use Rattle.wz_machine.specs.BlockSteps.{block_type, label_types, block_entry, if_entry, arrival, label_reduct, frame_left, frame_reduct}
use Rattle.wz_machine.specs.Step.{effect_reduct, outcome_reduct, code_reduct, inside_reduct, results_answer, frame_answer, step}
use Rattle.wz_machine.specs.Leaves.{CodeHas, AgainHas, InsideHas, TermHas, BodyHas, FunctionsHave, OutcomeHas, ReductHas, AnswerHas}
use Rattle.wz_machine.specs.Within.{NamesIn}
use Rattle.wz_machine.specs.Laws.{StepAddsNone, StepNames}

-- what holds of both arms
pub if-both : {A : Type 0} (P : A → Type 0) (b : Bool) (x y : A) → P x → P y → P (if b then x else y)
if-both P true x y h k = h
if-both P false x y h k = k

-- ---- from one property of instructions to another

module _ (Is Will : Leaf → Type 0) (on : (leaf : Leaf) → Is leaf → Will leaf) where
  code-on : (code : Code) → CodeHas Is code → CodeHas Will code
  code-on End h = tt
  code-on (Then leaf rest) h = (on leaf h.0, code-on rest h.1)
  code-on (InBlock shape inner rest) h = (code-on inner h.0, code-on rest h.1)
  code-on (InLoop shape inner rest) h = (code-on inner h.0, code-on rest h.1)
  code-on (InIf shape first second rest) h = (code-on first h.0, code-on second h.1, code-on rest h.2)

  again-on : (again : Option Code) → AgainHas Is again → AgainHas Will again
  again-on None h = tt
  again-on (Some again) h = code-on again h

  inside-on : (inside : Inside) → InsideHas Is inside → InsideHas Will inside
  inside-on (Innermost values code) h = code-on code h
  inside-on (InLabel below count again inside rest) h = (again-on again h.0, inside-on inside h.1, code-on rest h.2)
  inside-on (InFrame below count own inside rest) h = (inside-on inside h.0, code-on rest h.1)

  pub term-on : (term : Term) → TermHas Is term → TermHas Will term
  term-on (Frame count locals inside) h = inside-on inside h
  term-on (BareValues values) h = tt

-- ---- functions

-- a function that can be called has such a body
abbrev pub CallableHas : (Leaf → Type 0) → Option Callable → Type 0
CallableHas Is None = Unit {0}
CallableHas Is (Some function) = BodyHas Is function.body

abbrev FunctionHas : (Leaf → Type 0) → Option FunctionInstance → Type 0
FunctionHas Is None = Unit {0}
FunctionHas Is (Some function) = BodyHas Is function.body

module _ (Is : Leaf → Type 0) where
  function-has : (functions : List FunctionInstance) (index : ℕ) → FunctionsHave Is functions → FunctionHas Is (slice_get functions index)
  function-has [] index h = tt
  function-has (function ∷ functions) zero h = h.0
  function-has (function ∷ functions) (suc index) h = function-has functions index h.1

  of-has : (type : Option FunctionType) (body : FunctionBody) → BodyHas Is body → CallableHas Is (callable_of type body)
  of-has None body h = tt
  of-has (Some type) NoBody h = tt
  of-has (Some type) (OwnBody locals code) h = h
  of-has (Some type) (ImportedBody number) h = tt

  from-has : (types : List FunctionType) (function : Option FunctionInstance) → FunctionHas Is function → CallableHas Is (callable_from types function)
  from-has types None h = tt
  from-has types (Some function) h = of-has (slice_get types function.signature) function.body h

  pub callable-has : (types : List FunctionType) (functions : List FunctionInstance) (index : ℕ) → FunctionsHave Is functions → CallableHas Is (callable_at types functions index)
  callable-has types functions index h = from-has types (slice_get functions index) (function-has functions index h)

  -- ---- instructions that hold no others

  invocation-has : (type : FunctionType) (body : FunctionBody) (arguments values : List Value) → BodyHas Is body → OutcomeHas Is (invocation type body arguments values)
  invocation-has type (OwnBody locals code) arguments values h = h
  invocation-has type (ImportedBody number) arguments values h = tt
  invocation-has type NoBody arguments values h = tt

  arguments-has : (type : FunctionType) (outcome : List Value → List Value → Outcome) (values : List Value)
      → ((arguments below : List Value) → OutcomeHas Is (outcome arguments below)) → OutcomeHas Is (with_arguments type outcome values)
  arguments-has type outcome values h =
      let n : ℕ = length type.params in
      if-both (λ (o : Outcome). OutcomeHas Is o) (nat_le n (length values)) (outcome (reverse (take n values)) (drop n values)) (Does HasNoRule)
      (h (reverse (take n values)) (drop n values)) tt

  call-has : (function : Option Callable) (values : List Value) → CallableHas Is function → OutcomeHas Is (call_step function values)
  call-has None values h = tt
  call-has (Some function) values h =
      arguments-has function.type (λ arguments below. invocation function.type function.body arguments below) values
      (λ arguments below. invocation-has function.type function.body arguments below h)

  expected-has : (type : FunctionType) (function : Option Callable) (values : List Value) → CallableHas Is function → OutcomeHas Is (expected_call type function values)
  expected-has type None values h = tt
  expected-has type (Some function) values h =
      if-both (λ (o : Outcome). OutcomeHas Is o) (same_function_type function.type type) (call_step (Some function) values) (Does (Fails IndirectType))
      (call-has (Some function) values h) tt

  host-has : (type : FunctionType) (id : ℕ) (values : List Value) → OutcomeHas Is (host_call type id values)
  host-has type id values = arguments-has type (λ arguments below. Does (Poses (AskHost (target.Foreign id) arguments type) below)) values (λ arguments below. tt)

  foreign-has : (type : FunctionType) (id : ℕ) (actual : Option FunctionType) (values : List Value) → OutcomeHas Is (foreign_call type id actual values)
  foreign-has type id None values = tt
  foreign-has type id (Some actual) values =
      if-both (λ (o : Outcome). OutcomeHas Is o) (same_function_type actual type) (host_call type id values) (Does (Fails IndirectType)) (host-has type id values) tt

  sort-has : (types : List FunctionType) (type : FunctionType) (id : ℕ) (sort : Sort) (values : List Value) → OutcomeHas Is (sort_call types type id sort values)
  sort-has types type id sort.Extern values = tt
  sort-has types type id (sort.Func number) values = foreign-has type id (slice_get types number) values
  sort-has types type id sort.OtherFunc values = tt

  module _ (s : State) (names : FunctionsHave Is s.functions) where
    entry-has : (type : FunctionType) (reference : Option Reference) (values : List Value) → OutcomeHas Is (entry_call s.types s.functions type reference values)
    entry-has type None values = tt
    entry-has type (Some (Null kind)) values = tt
    entry-has type (Some (Fn index)) values = expected-has type (callable_at s.types s.functions index) values (callable-has s.types s.functions index names)
    entry-has type (Some (Foreign id sort)) values = sort-has s.types type id sort values

    indirect-has : (type : Option FunctionType) (table : Option Table) (values : List Value) → OutcomeHas Is (call_indirect_step s.types s.functions type table values)
    indirect-has (Some type) (Some table) (I32 at ∷ values) = entry-has type (slice_get table.entries at) values
    indirect-has type table values = tt

    br_if-has : (label : ℕ) (values : List Value) → OutcomeHas Is (br_if_step label values)
    br_if-has label (I32 zero ∷ values) = tt
    br_if-has label (I32 (suc c) ∷ values) = tt
    br_if-has label values = tt

    set-has : (locals : List Value) (index : ℕ) (old : Option Value) (values : List Value) → OutcomeHas Is (local_set_step locals index old values)
    set-has locals index (Some old) (value ∷ values) = tt
    set-has locals index old values = tt

    tee-has : (locals : List Value) (index : ℕ) (old : Option Value) (values : List Value) → OutcomeHas Is (local_tee_step locals index old values)
    tee-has locals index (Some old) (value ∷ values) = tt
    tee-has locals index old values = tt

    listed-has : (label : Option ℕ) (last : ℕ) (values : List Value) → OutcomeHas Is (listed_jump label last values)
    listed-has None last values = tt
    listed-has (Some label) last values = tt

    br_table-has : (labels : List ℕ) (last : ℕ) (values : List Value) → OutcomeHas Is (br_table_step labels last values)
    br_table-has labels last (I32 number ∷ values) = listed-has (slice_get labels number) last values
    br_table-has labels last values = tt

    instr-has : (locals : List Value) (instr : Instr) (values : List Value) → OutcomeHas Is (instr_step s locals instr values)
    instr-has locals (BrIf label) values = br_if-has label values
    instr-has locals (Call function) values = call-has (callable_at s.types s.functions function) values (callable-has s.types s.functions function names)
    instr-has locals (CallIndirect signature table) values = indirect-has (slice_get s.types signature) (slice_get s.tables table) values
    instr-has locals (LocalSet index) values = set-has locals index (slice_get locals index) values
    instr-has locals (LocalTee index) values = tee-has locals index (slice_get locals index) values
    instr-has locals instr values = tt

    leaf-has : (locals : List Value) (leaf : Leaf) (values : List Value) → OutcomeHas Is (leaf_step s locals leaf values)
    leaf-has locals (Plain instr) values = instr-has locals instr values
    leaf-has locals (TableBranch labels last) values = br_table-has labels last values
    leaf-has locals (TypedSelect types) values = tt

    -- ---- what stands around them

    effect-has : (locals : List Value) (rest : Code) (effect : Effect) → CodeHas Is rest → ReductHas Is (effect_reduct locals rest effect)
    effect-has locals rest (Yields change values) h = h
    effect-has locals rest (Poses question values) h = h
    effect-has locals rest (Fails kind) h = tt
    effect-has locals rest HasNoRule h = tt

    outcome-has : (locals : List Value) (rest : Code) (outcome : Outcome) → CodeHas Is rest → OutcomeHas Is outcome → ReductHas Is (outcome_reduct locals rest outcome)
    outcome-has locals rest (Does effect) h o = effect-has locals rest effect h
    outcome-has locals rest (SetsLocals new values) h o = h
    outcome-has locals rest (Jumps label values) h o = tt
    outcome-has locals rest (Quits values) h o = tt
    outcome-has locals rest (Calls count inner code values) h o = (o, h)

    block-has : (locals : List Value) (type : Option FunctionType) (again : Option Code) (inner : Code) (values : List Value) (rest : Code)
        → AgainHas Is again → CodeHas Is inner → CodeHas Is rest → ReductHas Is (block_entry locals type again inner values rest)
    block-has locals None again inner values rest a i r = tt
    block-has locals (Some type) again inner values rest a i r =
        let n : ℕ = length type.params in
        if-both (λ (f : Reduct). ReductHas Is f) (nat_le n (length values))
        (Goes Nothing locals (InLabel (drop n values) (length (label_types type again)) again (Innermost (take n values) inner) rest)) Sticks (a, i, r) tt

    if-has : (locals : List Value) (type : Option FunctionType) (first second : Code) (values : List Value) (rest : Code)
        → CodeHas Is first → CodeHas Is second → CodeHas Is rest → ReductHas Is (if_entry locals type first second values rest)
    if-has locals type first second (I32 zero ∷ values) rest f g r = block-has locals type None second values rest tt g r
    if-has locals type first second (I32 (suc c) ∷ values) rest f g r = block-has locals type None first values rest tt f r
    if-has locals type first second values rest f g r = tt

    code-has : (locals values : List Value) (code : Code) → CodeHas Is code → ReductHas Is (code_reduct s locals values code)
    code-has locals values End h = tt
    code-has locals values (Then leaf rest) h = outcome-has locals rest (leaf_step s locals leaf values) h.1 (leaf-has locals leaf values)
    code-has locals values (InBlock shape inner rest) h = block-has locals (block_type s.types shape) None inner values rest tt h.0 h.1
    code-has locals values (InLoop shape inner rest) h = block-has locals (block_type s.types shape) (Some inner) inner values rest h.0 h.0 h.1
    code-has locals values (InIf shape first second rest) h = if-has locals (block_type s.types shape) first second values rest h.0 h.1 h.2

    arrival-has : (below : List Value) (count : ℕ) (again : Option Code) (rest : Code) (carried : List Value) → AgainHas Is again → CodeHas Is rest
        → InsideHas Is (arrival below count again rest carried)
    arrival-has below count None rest carried a r = r
    arrival-has below count (Some again) rest carried a r = (a, a, r)

    label-has : (locals below : List Value) (count : ℕ) (again : Option Code) (rest : Code) (reduct : Reduct) → AgainHas Is again → CodeHas Is rest
        → ReductHas Is reduct → ReductHas Is (label_reduct locals below count again rest reduct)
    label-has locals below count again rest (Goes change new inside) a r f = (a, f, r)
    label-has locals below count again rest (Finishes values) a r f = r
    label-has locals below count again rest (Branches zero values) a r f =
        if-both (λ (f : Reduct). ReductHas Is f) (nat_le count (length values)) (Goes Nothing locals (arrival below count again rest (take count values))) Sticks
        (arrival-has below count again rest (take count values) a r) tt
    label-has locals below count again rest (Branches (suc label) values) a r f = tt
    label-has locals below count again rest (Returns values) a r f = tt
    label-has locals below count again rest (Pauses question inside) a r f = (a, f, r)
    label-has locals below count again rest (Traps kind) a r f = tt
    label-has locals below count again rest Sticks a r f = tt

    left-has : (locals below : List Value) (count : ℕ) (rest : Code) (values : List Value) → CodeHas Is rest → ReductHas Is (frame_left locals below count rest values)
    left-has locals below count rest values r =
        if-both (λ (f : Reduct). ReductHas Is f) (nat_le count (length values)) (Goes Nothing locals (Innermost (take count values ++ below) rest)) Sticks r tt

    frame-has : (locals below : List Value) (count : ℕ) (own : List Value) (rest : Code) (reduct : Reduct) → CodeHas Is rest
        → ReductHas Is reduct → ReductHas Is (frame_reduct locals below count own rest reduct)
    frame-has locals below count own rest (Goes change new inside) r f = (f, r)
    frame-has locals below count own rest (Finishes values) r f =
        if-both (λ (f : Reduct). ReductHas Is f) (length values == count) (Goes Nothing locals (Innermost (values ++ below) rest)) Sticks r tt
    frame-has locals below count own rest (Branches zero values) r f = left-has locals below count rest values r
    frame-has locals below count own rest (Branches (suc label) values) r f = tt
    frame-has locals below count own rest (Returns values) r f = left-has locals below count rest values r
    frame-has locals below count own rest (Pauses question inside) r f = (f, r)
    frame-has locals below count own rest (Traps kind) r f = tt
    frame-has locals below count own rest Sticks r f = tt

    inside-has : (locals : List Value) (inside : Inside) → InsideHas Is inside → ReductHas Is (inside_reduct s locals inside)
    inside-has locals (Innermost values code) h = code-has locals values code h
    inside-has locals (InLabel below count again inside rest) h =
        label-has locals below count again rest (inside_reduct s locals inside) h.0 h.2 (inside-has locals inside h.1)
    inside-has locals (InFrame below count own inside rest) h =
        frame-has locals below count own rest (inside_reduct s own inside) h.1 (inside-has own inside h.0)

    results-has : (count : ℕ) (values : List Value) → AnswerHas Is (results_answer count values)
    results-has count values = if-both (λ (a : Answer). AnswerHas Is a) (nat_le count (length values)) (Done (reverse (take count values))) Stuck tt tt

    answer-has : (count : ℕ) (locals : List Value) (reduct : Reduct) → ReductHas Is reduct → AnswerHas Is (frame_answer count locals reduct)
    answer-has count locals (Goes change new inside) f = f
    answer-has count locals (Finishes values) f = if-both (λ (a : Answer). AnswerHas Is a) (length values == count) (Done (reverse values)) Stuck tt tt
    answer-has count locals (Branches zero values) f = results-has count values
    answer-has count locals (Branches (suc label) values) f = tt
    answer-has count locals (Returns values) f = results-has count values
    answer-has count locals (Pauses question inside) f = f
    answer-has count locals (Traps kind) f = tt
    answer-has count locals Sticks f = tt

    pub step-has : (term : Term) → TermHas Is term → AnswerHas Is (step s term)
    step-has (Frame count locals inside) h = answer-has count locals (inside_reduct s locals inside) (inside-has locals inside h)
    step-has (BareValues values) h = tt

pub step_names : StepNames
step_names s term names h = step-has (λ leaf. NamesIn s leaf) s names term h

pub step_adds_none : StepAddsNone
step_adds_none is s term functions h = step-has (λ leaf. IsTrue (is leaf)) s functions term h
