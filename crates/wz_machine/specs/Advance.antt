-- Many steps of one term that plainly go on (section 4.4 of the Core Specification), as a run makes them.
use Rattle.std.specs.Prelude.{◌≡◌, ◌≤◌, ◌<◌, ◌⊎◌, ℕ, zero, suc, List, [], ◌∷◌, Option, Some, None, Bool, true, false, IsTrue, IsFalse}
use Rattle.wz_code.specs.Trees.{Leaf, Plain, TableBranch, TypedSelect}
use Rattle.wz_store.specs.Changes.{Change, applied}
use Rattle.wz_machine.specs.State.{State}
use Rattle.wz_machine.specs.Terms.{Term, Standing, Runs, Waits}
use Rattle.wz_machine.specs.Outcomes.{Answer, Next, Done, Trap, Ask, Stuck}
use Rattle.wz_machine.specs.Step.{step}
use Rattle.wz_machine.specs.Next.{Head, LeafHead, BlockHead, LoopHead, IfHead, next}
use Rattle.wz_machine.specs.Frames.{frame_count, local_count}
use Rattle.wz_machine.specs.Straight.{changes_table}
use Rattle.wz_machine.specs.Stacks.{StackParts, stacks_term}
use Rattle.wz_machine.specs.Turns.{TurnedAnywhere}
use Rattle.wz_machine.specs.declared.turn.Turn.TheVariants as turn
use Rattle.wz_machine.specs.declared.advance.Onward.{Onward}
use Rattle.wz_machine.specs.declared.advance.Onward.TheVariants as onward

-- ---- instructions that change a table

abbrev pub leaf_changes_table : Leaf → Bool
leaf_changes_table (Plain instr) = changes_table instr
leaf_changes_table (TableBranch labels last) = false
leaf_changes_table (TypedSelect types) = false

abbrev pub head_changes_table : Option Head → Bool
head_changes_table None = false
head_changes_table (Some (LeafHead leaf)) = leaf_changes_table leaf
head_changes_table (Some (BlockHead shape)) = false
head_changes_table (Some (LoopHead shape)) = false
head_changes_table (Some (IfHead shape)) = false

-- ---- one step

-- The term goes on, by no instruction that changes a table.
pub record StepsOn (s : State) (term : Term) (after : State) (new : Term) : Type 0 where
  pub change : Change
  pub goes : step s term ≡ Next change new
  pub state : after ≡ applied change s
  pub spares : IsFalse (head_changes_table (next term))

-- It enters no function: there are no more frames than before, nor locals in them.
pub record EntersNone (term new : Term) : Type 0 where
  pub frames : frame_count new ≤ frame_count term
  pub locals : local_count new ≤ local_count term

-- It enters one: there are more frames, or more locals in them.
abbrev pub Enters : Term → Term → Type 0
Enters term new = (frame_count term < frame_count new) ⊎ (local_count term < local_count new)

-- ---- a step that reads nothing of the state and enters no function

-- the next step, in any state
pub record StaysWithin (before now : StackParts) : Type 0 where
  pub turned : TurnedAnywhere before turn.Went now
  pub spares : IsFalse (head_changes_table (next (stacks_term before)))
  pub none : EntersNone (stacks_term before) (stacks_term now)

-- ---- many steps

-- So many steps lead from one state and term to the others; none changes a table or enters a function.
abbrev pub Reaches : ℕ → State → Term → State → Term → Type 0
Reaches zero s term after new = (after ≡ s) × (new ≡ term)
Reaches (suc n) s term after new =
    (between : State) × (middle : Term) × Reaches n s term between middle × StepsOn between middle after new × EntersNone middle new

-- The same, but the last of them enters a function.
abbrev pub ReachesEntry : ℕ → State → Term → State → Term → Type 0
ReachesEntry zero s term after new = ⊥
ReachesEntry (suc n) s term after new =
    (between : State) × (middle : Term) × Reaches n s term between middle × StepsOn between middle after new × Enters middle new

-- ---- where it ends early

-- what a step comes to that doesn't go on
abbrev pub GoesNot : Answer → Type 0
GoesNot (Next change term) = ⊥
GoesNot (Done values) = Unit {0}
GoesNot (Trap kind) = Unit {0}
GoesNot (Ask question rest) = Unit {0}
GoesNot Stuck = Unit {0}

-- the next step changes a table or doesn't go on
abbrev pub HaltsNext : State → Term → Type 0
HaltsNext s term = IsTrue (head_changes_table (next term)) ⊎ GoesNot (step s term)

-- whether one more step was made, or isn't, since it changes a table or doesn't go on
abbrev pub IsStepOn : Bool → State → Term → State → Term → Type 0
IsStepOn true s term after new = StepsOn s term after new
IsStepOn false s term after new = (after ≡ s) × (new ≡ term) × HaltsNext s term

-- what one more step comes to: it isn't made, or it enters no function, or it enters one
abbrev pub IsOnward : Onward → State → Term → State → Term → Type 0
IsOnward onward.Halts s term after new = (after ≡ s) × (new ≡ term) × HaltsNext s term
IsOnward onward.Went s term after new = StepsOn s term after new × EntersNone term new
IsOnward onward.Entered s term after new = StepsOn s term after new × Enters term new

-- ---- an advance

-- So many steps were made, as many as were asked for or up to where the next one doesn't plainly go on; or the last one entered a
-- function, and none before it did.
abbrev pub IsAdvance : Bool → ℕ → ℕ → State → Term → State → Term → Type 0
IsAdvance true limit made s term after new = ReachesEntry made s term after new
IsAdvance false limit made s term after new = Reaches made s term after new × ((made ≡ limit) ⊎ HaltsNext after new)

-- the same of what stands: one that waits makes no step
abbrev pub StandingAdvanced : Bool → ℕ → ℕ → State → Standing → State → Standing → Type 0
StandingAdvanced entered limit made s (Runs term) after new = (now : Term) × (new ≡ Runs now) × IsAdvance entered limit made s term after now
StandingAdvanced entered limit made s (Waits question rest) after new = (made ≡ 0) × (after ≡ s) × (new ≡ Waits question rest)

-- and of a stack, whose topmost term makes the steps
abbrev pub StackAdvanced : Bool → ℕ → ℕ → State → List Standing → State → List Standing → Type 0
StackAdvanced entered limit made s [] after new = (made ≡ 0) × (after ≡ s) × (new ≡ [])
StackAdvanced entered limit made s (top ∷ below) after new =
    (now : Standing) × (new ≡ now ∷ below) × StandingAdvanced entered limit made s top after now

-- ---- an advance that memory was refused to

-- Some of the steps were made, as by one that fewer steps were asked of.
abbrev pub IsAdvancePart : ℕ → State → Term → State → Term → Type 0
IsAdvancePart limit s term after new = (made : ℕ) × (made ≤ limit) × IsAdvance false made made s term after new

abbrev pub StandingAdvancedPart : ℕ → State → Standing → State → Standing → Type 0
StandingAdvancedPart limit s standing after new = (made : ℕ) × (made ≤ limit) × StandingAdvanced false made made s standing after new

abbrev pub StackAdvancedPart : ℕ → State → List Standing → State → List Standing → Type 0
StackAdvancedPart limit s stack after new = (made : ℕ) × (made ≤ limit) × StackAdvanced false made made s stack after new
