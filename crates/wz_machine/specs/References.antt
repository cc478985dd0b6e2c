-- Which references there are in a state (section 4.2.3 of the Core Specification) and in terms, by a test. Steps keep this where null and
-- the instance's own functions pass the test: all other references that they put anywhere were there before.
use Rattle.std.specs.Prelude.{◌≡◌, ℕ, List, [], ◌∷◌, Option, Some, None, Bool, true, false, IsTrue, slice_get}
use Rattle.wz_types.specs.declared.types.RefKind.{RefKind}
use Rattle.wz_types.specs.declared.value.Sort.{Sort}
use Rattle.wz_types.specs.declared.value.Reference.{Reference}
use Rattle.wz_types.specs.declared.value.Reference.TheVariants.{Null, Fn, Foreign}
use Rattle.wz_types.specs.declared.value.Value.{Value}
use Rattle.wz_types.specs.declared.value.Value.TheVariants.{I32, I64, F32, F64, Ref}
use Rattle.wz_store.specs.State.{Global, Table, Element}
use Rattle.wz_store.specs.Changes.{Change, Nothing, SetGlobal, WriteTable, WriteMemory, GrowTable, GrowMemory, EmptyElement, EmptyData, applied}
use Rattle.wz_machine.specs.declared.questions.HostTarget.TheVariants as target
use Rattle.wz_machine.specs.State.{State}
use Rattle.wz_machine.specs.Terms.{Inside, Innermost, InLabel, InFrame, Term, Frame, BareValues, Question, AskFloat, AskMemory, AskTable, AskHost, Standing, Runs, Waits}
use Rattle.wz_machine.specs.Outcomes.{Answer, Next, Done, Trap, Ask, Stuck}
use Rattle.wz_machine.specs.Step.{step}
use Rattle.wz_machine.specs.Entered.{entered}
use Rattle.wz_machine.specs.Replies.{put}

-- null passes the test, and each of the instance's own functions
pub record TakesOwn (is : Reference → Bool) : Type 0 where
  pub null : (kind : RefKind) → IsTrue (is (Null kind))
  pub own : (index : ℕ) → IsTrue (is (Fn index))

-- the test that references of the host fail
abbrev pub is_own : Reference → Bool
is_own (Null kind) = true
is_own (Fn index) = true
is_own (Foreign id sort) = false

-- ---- values and states

abbrev pub ValueHolds : (Reference → Bool) → Value → Type 0
ValueHolds is (I32 bits) = Unit {0}
ValueHolds is (I64 bits) = Unit {0}
ValueHolds is (F32 bits) = Unit {0}
ValueHolds is (F64 bits) = Unit {0}
ValueHolds is (Ref reference) = IsTrue (is reference)

abbrev pub ValuesHold : (Reference → Bool) → List Value → Type 0
ValuesHold is [] = Unit {0}
ValuesHold is (value ∷ values) = ValueHolds is value × ValuesHold is values

abbrev pub AllAre : (Reference → Bool) → List Reference → Type 0
AllAre is references = (at : ℕ) (reference : Reference) → slice_get references at ≡ Some reference → IsTrue (is reference)

pub record StateHolds (is : Reference → Bool) (s : State) : Type 0 where
  pub globals : (index : ℕ) (global : Global) → slice_get s.globals index ≡ Some global → ValueHolds is global.content
  pub tables : (index : ℕ) (table : Table) → slice_get s.tables index ≡ Some table → AllAre is table.entries
  pub elements : (index : ℕ) (element : Element) → slice_get s.elements index ≡ Some element → AllAre is element.items

-- what comes into a state
abbrev pub ChangeHolds : (Reference → Bool) → Change → Type 0
ChangeHolds is Nothing = Unit {0}
ChangeHolds is (SetGlobal index value) = ValueHolds is value
ChangeHolds is (WriteTable index at new) = AllAre is new
ChangeHolds is (WriteMemory index at bytes) = Unit {0}
ChangeHolds is (GrowTable index by reference) = IsTrue (is reference)
ChangeHolds is (GrowMemory index pages) = Unit {0}
ChangeHolds is (EmptyElement index) = Unit {0}
ChangeHolds is (EmptyData index) = Unit {0}

-- ---- terms

abbrev pub InsideHolds : (Reference → Bool) → Inside → Type 0
InsideHolds is (Innermost values code) = ValuesHold is values
InsideHolds is (InLabel below count again inside rest) = ValuesHold is below × InsideHolds is inside
InsideHolds is (InFrame below count own inside rest) = ValuesHold is below × ValuesHold is own × InsideHolds is inside

abbrev pub TermHolds : (Reference → Bool) → Term → Type 0
TermHolds is (Frame count locals inside) = ValuesHold is locals × InsideHolds is inside
TermHolds is (BareValues values) = ValuesHold is values

-- what is asked of the host by a reference to one of its functions passes as that reference does
abbrev pub QuestionHolds : (Reference → Bool) → Question → Type 0
QuestionHolds is (AskFloat op operands) = Unit {0}
QuestionHolds is (AskMemory index by) = Unit {0}
QuestionHolds is (AskTable index by reference) = IsTrue (is reference)
QuestionHolds is (AskHost (target.Import number) arguments type) = ValuesHold is arguments
QuestionHolds is (AskHost (target.Foreign id) arguments type) = ((sort : Sort) × IsTrue (is (Foreign id sort))) × ValuesHold is arguments

abbrev pub StandingHolds : (Reference → Bool) → Option Standing → Type 0
StandingHolds is None = Unit {0}
StandingHolds is (Some (Runs term)) = TermHolds is term
StandingHolds is (Some (Waits question rest)) = QuestionHolds is question × TermHolds is rest

abbrev pub AnswerHolds : (Reference → Bool) → Answer → Type 0
AnswerHolds is (Next change new) = ChangeHolds is change × TermHolds is new
AnswerHolds is (Done values) = ValuesHold is values
AnswerHolds is (Trap kind) = Unit {0}
AnswerHolds is (Ask question rest) = QuestionHolds is question × TermHolds is rest
AnswerHolds is Stuck = Unit {0}

-- ---- the laws

abbrev pub StepAddsNoReference : Type 0
StepAddsNoReference = (is : Reference → Bool) (s : State) (term : Term) → TakesOwn is → StateHolds is s → TermHolds is term → AnswerHolds is (step s term)

abbrev pub ChangeAddsNoReference : Type 0
ChangeAddsNoReference = (is : Reference → Bool) (s : State) (change : Change) → StateHolds is s → ChangeHolds is change → StateHolds is (applied change s)

abbrev pub EntryAddsNoReference : Type 0
EntryAddsNoReference = (is : Reference → Bool) (s : State) (function : ℕ) (values : List Value) → TakesOwn is → ValuesHold is values
    → StandingHolds is (entered s function values)

-- the values that answer a question go to what is left of the term
abbrev pub PutAddsNoReference : Type 0
PutAddsNoReference = (is : Reference → Bool) (values : List Value) (rest : Term) → ValuesHold is values → TermHolds is rest → TermHolds is (put values rest)
