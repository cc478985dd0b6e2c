-- Steps that are told by one bit: whether the step was made (sections 4.4.8 to 4.4.10 of the Core Specification).
use Rattle.std.specs.Prelude.{◌≡◌, List, Bool, true, false, IsFalse}
use Rattle.wz_types.specs.FunctionType.{FunctionType}
use Rattle.wz_store.specs.Changes.{Nothing}
use Rattle.wz_machine.specs.State.{State}
use Rattle.wz_machine.specs.Outcomes.{Answer, Next}
use Rattle.wz_machine.specs.Step.{step}
use Rattle.wz_machine.specs.Next.{next}
use Rattle.wz_machine.specs.Stacks.{StackParts, stacks_term}
use Rattle.wz_machine.specs.Advance.{head_changes_table}

-- where it was made the term goes on, and where it wasn't nothing is changed
abbrev pub MadeBy : Answer → Bool → StackParts → StackParts → Type 0
MadeBy answer true before now = answer ≡ Next Nothing (stacks_term now)
MadeBy answer false before now = now ≡ before

-- of a step that reads nothing of the state, and of one that reads its types
abbrev pub MadeAnywhere : Bool → StackParts → StackParts → Type 0
MadeAnywhere made before now = (st : State) → MadeBy (step st (stacks_term before)) made before now

abbrev pub MadeByTypes : List FunctionType → Bool → StackParts → StackParts → Type 0
MadeByTypes types made before now = (st : State) → st.types ≡ types → MadeBy (step st (stacks_term before)) made before now

-- it was made by no instruction that changes a table
abbrev pub SparesTables : Bool → StackParts → Type 0
SparesTables true before = IsFalse (head_changes_table (next (stacks_term before)))
SparesTables false before = Unit {0}
