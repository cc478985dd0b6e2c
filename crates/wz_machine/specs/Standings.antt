-- What stands in a machine (sections 4.2.14 and 4.2.15 of the Core Specification): the stack of terms, each as flat stacks or as values
-- alone, and what it waits for. Operands of a question stay on top of the values until it is answered.
use Rattle.std.specs.Prelude.{◌≡◌, ◌≤◌, ℕ, ◌+◌, List, [], ◌∷◌, Option, Some, None, map, length, reverse}
use Rattle.wz_types.specs.declared.value.Reference.{Reference}
use Rattle.wz_types.specs.declared.value.Value.{Value}
use Rattle.wz_types.specs.FunctionType.{FunctionType}
use Rattle.wz_code.specs.declared.numeric.NumOp.{NumOp}
use Rattle.wz_machine.specs.declared.questions.HostTarget.{HostTarget}
use Rattle.wz_machine.specs.Terms.{Term, BareValues, Question, AskFloat, AskMemory, AskTable, AskHost, Standing, Runs, Waits}
use Rattle.wz_machine.specs.Stacks.{StackParts, stacks_term, last_values, first_values, without}

-- a term: its stacks, or values alone in the order of pushing
pub data WorkParts : Type 0 where
  StacksWork : StackParts → WorkParts
  ValuesWork : List Value → WorkParts

-- a question without its operands
pub data Asking : Type 0 where
  AskingFloat : NumOp → Asking
  AskingMemory : ℕ → ℕ → Asking
  AskingTable : ℕ → ℕ → Reference → Asking
  AskingHost : HostTarget → FunctionType → Asking

-- a term that runs, or one that waits, whose last values are so many operands
pub record StandingParts : Type 0 where
  pub work : WorkParts
  pub question : Option Asking
  pub count : ℕ

-- ---- as terms

abbrev pub work_term : WorkParts → Term
work_term (StacksWork stacks) = stacks_term stacks
work_term (ValuesWork values) = BareValues (reverse values)

abbrev pub values_in : WorkParts → List Value
values_in (StacksWork stacks) = stacks.values
values_in (ValuesWork values) = values

-- without so many of the last values
abbrev pub work_without : ℕ → WorkParts → WorkParts
work_without count (StacksWork stacks) = StacksWork (without count stacks)
work_without count (ValuesWork values) = ValuesWork (first_values count values)

-- with its operands, in the order of pushing
abbrev pub question_of : Asking → List Value → Question
question_of (AskingFloat op) operands = AskFloat op operands
question_of (AskingMemory index by) operands = AskMemory index by
question_of (AskingTable index by reference) operands = AskTable index by reference
question_of (AskingHost target type) operands = AskHost target operands type

abbrev pub standing_from : Option Asking → ℕ → WorkParts → Standing
standing_from None count work = Runs (work_term work)
standing_from (Some asking) count work = Waits (question_of asking (last_values count (values_in work))) (work_term (work_without count work))

abbrev pub standing_of : StandingParts → Standing
standing_of parts = standing_from parts.question parts.count parts.work

-- what is left of it without its operands
abbrev pub rest_of : StandingParts → Term
rest_of parts = work_term (work_without parts.count parts.work)

-- the topmost one is the last
abbrev pub stack_of : List StandingParts → List Standing
stack_of standings = map standing_of (reverse standings)

-- ---- what always holds

-- so many operands are there, above all that is open
abbrev pub HasOperands : ℕ → WorkParts → Type 0
HasOperands count (StacksWork stacks) = stacks.top.height + count ≤ length stacks.values
HasOperands count (ValuesWork values) = count ≡ length values

-- the answer is one value, which takes the place of an operand
abbrev pub HasPlace : ℕ → WorkParts → Type 0
HasPlace count (StacksWork stacks) = 1 ≤ count
HasPlace count (ValuesWork values) = ⊥

abbrev pub IsAnswerable : Asking → ℕ → WorkParts → Type 0
IsAnswerable (AskingFloat op) count work = HasPlace count work
IsAnswerable (AskingMemory index by) count work = HasPlace count work
IsAnswerable (AskingTable index by reference) count work = HasPlace count work
IsAnswerable (AskingHost target type) count work = Unit {0}

abbrev pub IsStandingFrom : Option Asking → ℕ → WorkParts → Type 0
IsStandingFrom None count work = Unit {0}
IsStandingFrom (Some asking) count work = HasOperands count work × IsAnswerable asking count work

abbrev pub IsStanding : StandingParts → Type 0
IsStanding parts = IsStandingFrom parts.question parts.count parts.work

-- an answer to it takes the place of an operand, so it needs no memory
abbrev pub TakesOne : Option Asking → Type 0
TakesOne None = ⊥
TakesOne (Some (AskingFloat op)) = Unit {0}
TakesOne (Some (AskingMemory index by)) = Unit {0}
TakesOne (Some (AskingTable index by reference)) = Unit {0}
TakesOne (Some (AskingHost target type)) = ⊥

-- ---- what a stack waits for

abbrev pub asking_in : Question → Asking
asking_in (AskFloat op operands) = AskingFloat op
asking_in (AskMemory index by) = AskingMemory index by
asking_in (AskTable index by reference) = AskingTable index by reference
asking_in (AskHost target arguments type) = AskingHost target type

abbrev pub asking_of_top : List Standing → Option Asking
asking_of_top [] = None
asking_of_top (Runs term ∷ below) = None
asking_of_top (Waits question rest ∷ below) = Some (asking_in question)
