-- What the machine says of a step of its stacks that may ask: of a call, of growth, of a float operation.
use Rattle.std.specs.Prelude.{◌≡◌, ◌≤◌, ℕ, ◌+◌, List, [], ◌∷◌, ◌++◌, Option, Some, None, length, drop, reverse}
use Rattle.wz_types.specs.declared.value.Reference.{Reference}
use Rattle.wz_types.specs.declared.value.Value.TheVariants.{I32, Ref}
use Rattle.wz_types.specs.declared.value.Value.{Value}
use Rattle.wz_code.specs.declared.instr.Instr.{Instr}
use Rattle.wz_code.specs.declared.numeric.NumOp.{NumOp}
use Rattle.wz_code.specs.Numeric.{types_of}
use Rattle.wz_code.specs.Trees.{code_in}
use Rattle.wz_store.specs.Changes.{Nothing}
use Rattle.wz_machine.specs.declared.asking.AskTurn.{AskTurn}
use Rattle.wz_machine.specs.declared.asking.AskTurn.TheVariants as turn
use Rattle.wz_machine.specs.State.{State}
use Rattle.wz_machine.specs.Terms.{AskFloat}
use Rattle.wz_machine.specs.Outcomes.{Poses, Outcome, Answer, Next, Trap, Ask, Stuck}
use Rattle.wz_machine.specs.BulkSteps.{minus_one}
use Rattle.wz_machine.specs.NumericSteps.{operation_step}
use Rattle.wz_machine.specs.Step.{outcome_reduct, step}
use Rattle.wz_machine.specs.Contexts.{content_reduct}
use Rattle.wz_machine.specs.Flat.{locals_in, content_of}
use Rattle.wz_machine.specs.Stacks.{StackParts, opened_of, flat_of, stacks_term, last_values, first_values, without}
use Rattle.wz_machine.specs.Standings.{Asking, StacksWork, question_of, HasOperands, IsAnswerable}
use Rattle.wz_machine.specs.Keeping.{asking_of}
use Rattle.wz_machine.specs.Opening.{stepped}

-- the term waits with this question, whose operands are so many of the last values
pub record HasAsked (answer : Answer) (asking : Asking) (count : ℕ) (now : StackParts) : Type 0 where
  pub asks : answer ≡ Ask (question_of asking (last_values count now.values)) (stacks_term (without count now))
  pub operands : HasOperands count (StacksWork now)
  pub answerable : IsAnswerable asking count (StacksWork now)

-- the same, where the stacks still stand before the instruction, of whose values so many stay
pub record AskedAt (answer : Answer) (asking : Asking) (count have : ℕ) (before : StackParts) (rest : List Instr) (now : StackParts) : Type 0 where
  pub asked : HasAsked answer asking count (stepped before rest have)
  pub own : before.top.height ≤ have
  pub values : have ≤ length before.values
  pub same : now ≡ before

-- the answer that a step comes to, and the stacks then; where it doesn't go on they are as they were
abbrev pub AskTurned : Answer → StackParts → List Instr → AskTurn → StackParts → Type 0
AskTurned answer before rest turn.Went now = answer ≡ Next Nothing (stacks_term now)
AskTurned answer before rest (turn.Asks pending count have) now = AskedAt answer (asking_of pending) count have before rest now
AskTurned answer before rest (turn.Trapped kind) now = (answer ≡ Trap kind) × (now ≡ before)
AskTurned answer before rest turn.NoRule now = (answer ≡ Stuck) × (now ≡ before)

-- the innermost code comes to this, in any state
abbrev pub ComesTo : State → StackParts → List Instr → Outcome → Type 0
ComesTo st s rest outcome = content_reduct st (content_of (flat_of s)) ≡ outcome_reduct (locals_in (opened_of s.top) s.values) (code_in s.top.body rest) outcome

-- what the machine says where the innermost code comes to this
abbrev pub OutcomeTurned : StackParts → List Instr → Outcome → AskTurn → StackParts → Type 0
OutcomeTurned before rest outcome result now = (st : State) → ComesTo st before rest outcome → AskTurned (step st (stacks_term before)) before rest result now

-- behind an instruction that gives -1 in the place of so many operands: growth that fails
abbrev pub failed_growth : StackParts → List Instr → ℕ → StackParts
failed_growth s rest count = record { top = record s.top { rest = rest }; outer = s.outer; values = first_values count s.values ++ minus_one ∷ [] }

-- what the innermost block has of its own, the last pushed first
abbrev pub own_stack : StackParts → List Value
own_stack s = reverse (drop s.top.height s.values)

-- an operand of a number of 32 bits, and of such a number above a reference
abbrev pub top_number : List Value → Option ℕ
top_number (I32 bits ∷ values) = Some bits
top_number values = None

abbrev pub top_growth : List Value → Option (ℕ × Reference)
top_growth (I32 by ∷ Ref reference ∷ values) = Some (by, reference)
top_growth values = None

-- a float operation whose result the surroundings answer, with so many operands
pub record AsksFloat (op : NumOp) (count : ℕ) (s : StackParts) : Type 0 where
  pub operands : s.top.height + count ≤ length s.values
  pub some : 1 ≤ count
  pub asks : operation_step op (types_of op).second (own_stack s)
      ≡ Poses (AskFloat op (last_values count s.values)) (reverse (drop s.top.height (first_values count s.values)))
