-- What the machine says of a step of its stacks.
use Rattle.std.specs.Prelude.{◌≡◌, ◌≤◌, ℕ, zero, suc, ◌+◌, ◌-◌, List, [], ◌∷◌, Option, None, Some, Bool, true, false, length, take, drop, reverse}
use Rattle.wz_types.specs.declared.value.Value.{Value}
use Rattle.wz_types.specs.declared.value.Value.TheVariants.{I32, I64, F32, F64, Ref}
use Rattle.wz_types.specs.FunctionType.{FunctionType}
use Rattle.wz_code.specs.declared.instr.Instr.{Instr}
use Rattle.wz_code.specs.declared.instr.Shape.{Shape}
use Rattle.wz_code.specs.Trees.{Code, code_in}
use Rattle.wz_store.specs.Changes.{Nothing, range_of}
use Rattle.wz_machine.specs.declared.turn.Turn.{Turn}
use Rattle.wz_machine.specs.declared.turn.Turn.TheVariants as turn
use Rattle.wz_machine.specs.State.{State}
use Rattle.wz_machine.specs.Outcomes.{Branches, Returns, Answer, Next, Done, Trap, Stuck}
use Rattle.wz_machine.specs.Step.{step}
use Rattle.wz_machine.specs.Contexts.{content_reduct}
use Rattle.wz_machine.specs.BlockSteps.{block_type, block_entry}
use Rattle.wz_machine.specs.Flat.{content_of, locals_in}
use Rattle.wz_machine.specs.Stacks.{StackParts, opened_of, flat_of, stacks_term}

-- the term is done with so many values from a place on, and the stacks are as they were
pub record Ended (answer : Answer) (before : StackParts) (at count : ℕ) (now : StackParts) : Type 0 where
  pub done : answer ≡ Done (range_of before.values at count)
  pub within : at + count ≤ length before.values
  pub same : now ≡ before

-- the answer that a step comes to, and the stacks then; where it doesn't go on they are as they were
abbrev pub Turned : Answer → StackParts → Turn → StackParts → Type 0
Turned answer before turn.Went now = answer ≡ Next Nothing (stacks_term now)
Turned answer before (turn.Ends at count) now = Ended answer before at count now
Turned answer before (turn.Trapped kind) now = (answer ≡ Trap kind) × (now ≡ before)
Turned answer before turn.NoRule now = (answer ≡ Stuck) × (now ≡ before)

-- the same of a step that reads nothing of the state
abbrev pub TurnedAnywhere : StackParts → Turn → StackParts → Type 0
TurnedAnywhere before result now = (st : State) → Turned (step st (stacks_term before)) before result now

-- the innermost block's own values among the first so many, the last pushed first
abbrev pub own_of : StackParts → ℕ → List Value
own_of s have = reverse (drop s.top.height (take have s.values))

-- ---- where the innermost code comes to something, in any state

-- it branches to this label, with what its block has of so many values
abbrev pub JumpTurned : StackParts → ℕ → ℕ → Turn → StackParts → Type 0
JumpTurned before label have result now =
    (st : State) → content_reduct st (content_of (flat_of before)) ≡ Branches label (own_of before have) → Turned (step st (stacks_term before)) before result now

-- it returns
abbrev pub ReturnTurned : StackParts → ℕ → Turn → StackParts → Type 0
ReturnTurned before have result now =
    (st : State) → content_reduct st (content_of (flat_of before)) ≡ Returns (own_of before have) → Turned (step st (stacks_term before)) before result now

-- it enters a block of this shape and with this code, a loop or not, with what the block around has of so many values
abbrev pub again_of : Bool → Code → Option Code
again_of false code = None
again_of true code = Some code

abbrev pub EntryTurned : StackParts → List FunctionType → Shape → Bool → List Instr → List Instr → ℕ → Turn → StackParts → Type 0
EntryTurned before types shape loops code rest have result now =
    (st : State) → content_reduct st (content_of (flat_of before))
    ≡ block_entry (locals_in (opened_of before.top) before.values) (block_type types shape) (again_of loops (code_in before.top.body code)) (code_in before.top.body code)
    (own_of before have) (code_in before.top.body rest)
    → Turned (step st (stacks_term before)) before result now

-- the arm of an if that this number chooses
abbrev pub arm_chosen : ℕ → Code → Code → Code
arm_chosen zero first second = second
arm_chosen (suc n) first second = first

-- ---- the same of a step that reads the types of the state

abbrev pub TurnedByTypes : List FunctionType → StackParts → Turn → StackParts → Type 0
TurnedByTypes types before result now = (st : State) → st.types ≡ types → Turned (step st (stacks_term before)) before result now

-- ---- the last own value

-- no number of 32 bits stands in front
abbrev pub NoNumber : List Value → Type 0
NoNumber [] = Unit {0}
NoNumber (I32 n ∷ values) = ⊥
NoNumber (I64 n ∷ values) = Unit {0}
NoNumber (F32 n ∷ values) = Unit {0}
NoNumber (F64 n ∷ values) = Unit {0}
NoNumber (Ref r ∷ values) = Unit {0}

-- a number of 32 bits stands in front of what the innermost block has
pub record HasFrontNumber (s : StackParts) (n : ℕ) : Type 0 where
  pub own : own_of s (length s.values) ≡ I32 n ∷ own_of s (length s.values - 1)
  pub within : s.top.height + 1 ≤ length s.values
