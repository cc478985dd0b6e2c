-- What one step of a term's stacks comes to, whatever instruction stands in front.
use Rattle.std.specs.Prelude.{◌≡◌, ◌≤◌, ℕ, List, length}
use Rattle.wz_code.specs.declared.instr.Instr.{Instr}
use Rattle.wz_store.specs.Made.{StoreState}
use Rattle.wz_store.specs.Changes.{Change, applied}
use Rattle.wz_machine.specs.declared.stride.Stride.{Stride}
use Rattle.wz_machine.specs.declared.stride.Stride.TheVariants as stride
use Rattle.wz_machine.specs.Outcomes.{Answer, Next, Trap, Stuck}
use Rattle.wz_machine.specs.Stacks.{StackParts, stacks_term}
use Rattle.wz_machine.specs.Keeping.{asking_of}
use Rattle.wz_machine.specs.Turns.{Ended}
use Rattle.wz_machine.specs.Asks.{HasAsked}
use Rattle.wz_machine.specs.Opening.{stepped}
use Rattle.wz_machine.specs.Standings.{Asking}

-- the term goes on, with this change of the store
pub record GoesOnWith (answer : Answer) (s : StoreState) (now : StackParts) (t : StoreState) : Type 0 where
  pub change : Change
  pub goes : answer ≡ Next change (stacks_term now)
  pub store : t ≡ applied change s

-- The term will wait with this question as soon as it is stepped over the instruction: this is left then, and so many values stay.
pub record WillAsk (answer : Answer) (before : StackParts) (asking : Asking) (count : ℕ) (rest : List Instr) (have : ℕ) : Type 0 where
  pub asked : HasAsked answer asking count (stepped before rest have)
  pub own : before.top.height ≤ have
  pub values : have ≤ length before.values

-- the answer that a step comes to, and the stacks and the store then; where it doesn't go on the store is as it was
abbrev pub Strode : Answer → StoreState → StackParts → Stride → StackParts → StoreState → Type 0
Strode answer s before stride.Went now t = GoesOnWith answer s now t
Strode answer s before (stride.Ends at count) now t = Ended answer before at count now × (t ≡ s)
Strode answer s before (stride.Trapped kind) now t = (answer ≡ Trap kind) × (now ≡ before) × (t ≡ s)
Strode answer s before stride.NoRule now t = (answer ≡ Stuck) × (now ≡ before) × (t ≡ s)
Strode answer s before (stride.Asks pending count rest have) now t = WillAsk answer before (asking_of pending) count rest.now have × (now ≡ before) × (t ≡ s)
