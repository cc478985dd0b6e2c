-- A plain instruction on the machine's stacks is a step of the term.
use Rattle.std.specs.Prelude.{◌≡◌, List}
use Rattle.wz_code.specs.declared.instr.Instr.{Instr}
use Rattle.wz_code.specs.declared.instr.Instr.TheVariants.{Block, Loop, If, Br, BrIf, BrTable, Return, Call, CallIndirect, TableGrow, MemoryGrow, Num}
use Rattle.wz_code.specs.BodyParts.{BodyParts}
use Rattle.wz_store.specs.declared.function.Function.{Function}
use Rattle.wz_store.specs.State.{StateOf}
use Rattle.wz_store.specs.Changes.{Change, applied}
use Rattle.wz_machine.specs.declared.plain.Plain.{Plain}
use Rattle.wz_machine.specs.declared.plain.Plain.TheVariants.{Went, Trapped, NoRule, Special}
use Rattle.wz_machine.specs.State.{state_of}
use Rattle.wz_machine.specs.Outcomes.{Next, Trap}
use Rattle.wz_machine.specs.Outcomes as outcome
use Rattle.wz_machine.specs.Step.{step}
use Rattle.wz_machine.specs.Stacks.{StackParts, stacks_term}
use Rattle.wz_machine.specs.PlainSteps.{count_of}
use Rattle.wz_machine.specs.Asks.{AsksFloat}

-- the step goes on, with this change of the store
pub record PlainWent (bodies : List BodyParts) (store : StateOf Function) (before : StackParts) (after : StateOf Function) (now : StackParts) : Type 0 where
  pub change : Change
  pub goes : step (state_of bodies store) (stacks_term before) ≡ Next change (stacks_term now)
  pub changed : after ≡ applied change store

-- what is no plain instruction; a float operation asks with the last of the values
abbrev pub IsSpecialTurn : Instr → StackParts → Type 0
IsSpecialTurn (Block shape body) before = Unit {0}
IsSpecialTurn (Loop shape body) before = Unit {0}
IsSpecialTurn (If shape first second) before = Unit {0}
IsSpecialTurn (Br label) before = Unit {0}
IsSpecialTurn (BrIf label) before = Unit {0}
IsSpecialTurn (BrTable first count last) before = Unit {0}
IsSpecialTurn Return before = Unit {0}
IsSpecialTurn (Call function) before = Unit {0}
IsSpecialTurn (CallIndirect signature table) before = Unit {0}
IsSpecialTurn (TableGrow table) before = Unit {0}
IsSpecialTurn (MemoryGrow memory) before = Unit {0}
IsSpecialTurn (Num op) before = AsksFloat op (count_of op) before
IsSpecialTurn instr before = ⊥

-- what the code answers to the instruction that comes next; where it doesn't go on, nothing is changed
abbrev pub PlainTurned : Plain → Instr → StateOf Function → StackParts → StateOf Function → StackParts → Type 0
PlainTurned (Went n) instr store before after now = (bodies : List BodyParts) → PlainWent bodies store before after now
PlainTurned (Trapped kind) instr store before after now =
    ((bodies : List BodyParts) → step (state_of bodies store) (stacks_term before) ≡ Trap kind) × (now ≡ before) × (after ≡ store)
PlainTurned NoRule instr store before after now =
    ((bodies : List BodyParts) → step (state_of bodies store) (stacks_term before) ≡ outcome.Stuck) × (now ≡ before) × (after ≡ store)
PlainTurned Special instr store before after now = IsSpecialTurn instr before × (now ≡ before) × (after ≡ store)
