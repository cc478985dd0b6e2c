-- What holds of steps and of sessions (section 4.4 of the Core Specification), for the proofs above.
use Rattle.std.specs.Prelude.{◌≡◌, ℕ, List, Some, length, Bool, IsTrue}
use Rattle.wz_types.specs.declared.value.Value.{Value}
use Rattle.wz_code.specs.BodyParts.{BodyParts}
use Rattle.wz_code.specs.Trees.{Leaf}
use Rattle.wz_store.specs.declared.function.Function.{Function}
use Rattle.wz_store.specs.State.{Global, Table, Memory, Element, StateOf, pages_of}
use Rattle.wz_store.specs.Changes.{Change, applied}
use Rattle.wz_machine.specs.State.{State, lasting_parts, state_of}
use Rattle.wz_machine.specs.Terms.{Term}
use Rattle.wz_machine.specs.TableSteps.{table_grow_step}
use Rattle.wz_machine.specs.MemorySteps.{memory_grow_step}
use Rattle.wz_machine.specs.InstrSteps.{leaf_step}
use Rattle.wz_machine.specs.Step.{step}
use Rattle.wz_machine.specs.Exports.{ExportInstance}
use Rattle.wz_machine.specs.Moves.{Move}
use Rattle.wz_machine.specs.Sessions.{observe}
use Rattle.wz_machine.specs.Leaves.{TermHas, FunctionsHave, AnswerHas}
use Rattle.wz_machine.specs.TypedState.{state_context, IsStateTyped}
use Rattle.wz_machine.specs.Within.{with_parts, LeafLooksAlike, LeafWithin, NamesIn, NamesWithin, with_more}

-- ---- what is read

-- an instruction looks at nothing but types, functions, locals, values and what it names
abbrev pub LeafReads : Type 0
LeafReads = (s : State) (globals : List Global) (tables : List Table) (memories : List Memory) (elements : List Element) (datas : List (List ℕ))
    (locals : List Value) (leaf : Leaf) (values : List Value) → LeafLooksAlike (with_parts s globals tables memories elements datas) s leaf
    → leaf_step (with_parts s globals tables memories elements datas) locals leaf values ≡ leaf_step s locals leaf values

-- nor does a step
abbrev pub StepReads : Type 0
StepReads = (s : State) (globals : List Global) (tables : List Table) (memories : List Memory) (elements : List Element) (datas : List (List ℕ))
    (term : Term) → TermHas (LeafLooksAlike (with_parts s globals tables memories elements datas) s) term
    → step (with_parts s globals tables memories elements datas) term ≡ step s term

-- of a memory, growth looks at its present size and its maximum alone
abbrev pub MemoryGrowthReads : Type 0
MemoryGrowthReads = (index : ℕ) (one other : Memory) (values : List Value) → pages_of one ≡ pages_of other → one.maximum ≡ other.maximum
    → memory_grow_step index (Some one) values ≡ memory_grow_step index (Some other) values

-- and of a table, beside its kind
abbrev pub TableGrowthReads : Type 0
TableGrowthReads = (index : ℕ) (one other : Table) (values : List Value) → one.kind ≡ other.kind → length one.entries ≡ length other.entries
    → one.maximum ≡ other.maximum → table_grow_step index (Some one) values ≡ table_grow_step index (Some other) values

-- ---- what is written

-- what no change touches
abbrev pub ChangeKeeps : Type 0
ChangeKeeps = (change : Change) (s : State) → lasting_parts (applied change s) ≡ lasting_parts s

-- a change of a store, whose functions name their bodies by number, is the change of its state
abbrev pub ChangeReachesState : Type 0
ChangeReachesState = (bodies : List BodyParts) (store : StateOf Function) (change : Change)
    → state_of bodies (applied change store) ≡ applied change (state_of bodies store)

-- ---- what code there is

-- what a step comes to has no instructions but those of the term and of the functions, whatever is asked of them
abbrev pub StepAddsNone : Type 0
StepAddsNone = (is : Leaf → Bool) (s : State) (term : Term) → FunctionsHave (λ leaf. IsTrue (is leaf)) s.functions
    → TermHas (λ leaf. IsTrue (is leaf)) term → AnswerHas (λ leaf. IsTrue (is leaf)) (step s term)

-- so it names no more segments
abbrev pub StepNames : Type 0
StepNames = (s : State) (term : Term) → NamesWithin s → TermHas (NamesIn s) term → AnswerHas (NamesIn s) (step s term)

-- ---- more segments than are named

abbrev pub LeafSame : Type 0
LeafSame = (s : State) (elements : List Element) (datas : List (List ℕ)) (locals : List Value) (leaf : Leaf) (values : List Value)
    → LeafWithin (length s.elements) (length s.datas) leaf → leaf_step (with_more s elements datas) locals leaf values ≡ leaf_step s locals leaf values

abbrev pub StepSame : Type 0
StepSame = (s : State) (elements : List Element) (datas : List (List ℕ)) (term : Term)
    → TermHas (NamesIn s) term → step (with_more s elements datas) term ≡ step s term

-- where no function names a segment that isn't there, what is seen of an instance is the same with more segments
abbrev pub ObservesSame : Type 0
ObservesSame = (s : State) (elements : List Element) (datas : List (List ℕ)) (exports : List ExportInstance) (moves : List Move)
    → NamesWithin s → observe (with_more s elements datas) exports moves ≡ observe s exports moves

-- in a typed state no function names a segment that isn't there
abbrev pub TypedNames : Type 0
TypedNames = (s : State) → IsStateTyped (state_context s) s → NamesWithin s

-- a typed state's context is made of what lasts
abbrev pub ContextLasts : Type 0
ContextLasts = (change : Change) (s : State) → state_context (applied change s) ≡ state_context s
