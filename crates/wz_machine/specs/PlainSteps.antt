-- What a machine's code for one plain instruction answers and leaves, beside the step that section 4.4 of the Core Specification has for
-- it. The code works in place: on the locals of a frame, on the values of the innermost block in the order of pushing, behind which
-- there is room, and on a store. A plain instruction leaves blocks and calls alone and asks nothing.
use Rattle.std.specs.Prelude.{◌≡◌, ◌≤◌, ◌<◌, ◌+◌, ◌-◌, ℕ, List, ◌∷◌, Option, Some, None, take, drop, reverse, length, slice_set}
use Rattle.wz_types.specs.declared.types.ValType.{ValType}
use Rattle.wz_types.specs.declared.value.Value.{Value}
use Rattle.wz_code.specs.declared.numeric.NumOp.{NumOp}
use Rattle.wz_code.specs.declared.instr.Instr.{Instr}
use Rattle.wz_code.specs.declared.instr.Instr.TheVariants.{Block, Loop, If, Br, BrIf, BrTable, Return, Call, CallIndirect, TableGrow, MemoryGrow, Num}
use Rattle.wz_code.specs.BodyParts.{BodyParts}
use Rattle.wz_code.specs.Numeric.{types_of}
use Rattle.wz_code.specs.Trees.{Code, Then, leaf_in, headed_in}
use Rattle.wz_num.specs.declared.answer.NumAnswer.{NumAnswer}
use Rattle.wz_num.specs.declared.answer.NumAnswer.TheVariants as answer
use Rattle.wz_store.specs.declared.function.Function.{Function}
use Rattle.wz_store.specs.State.{StateOf}
use Rattle.wz_store.specs.Changes.{Change, Nothing, applied}
use Rattle.wz_machine.specs.declared.plain.Plain.{Plain}
use Rattle.wz_machine.specs.declared.plain.Plain.TheVariants.{Went, Trapped, NoRule, Special}
use Rattle.wz_machine.specs.State.{state_of}
use Rattle.wz_machine.specs.Terms.{AskFloat}
use Rattle.wz_machine.specs.Outcomes.{Effect, Yields, Poses, Fails, HasNoRule, Outcome, Does, SetsLocals}
use Rattle.wz_machine.specs.NumericSteps.{operation_step}
use Rattle.wz_machine.specs.InstrSteps.{leaf_step}

-- so many of a block's values, the last pushed first
abbrev pub used : ℕ → List Value → List Value
used have own = reverse (take have own)

-- ---- rules that look at values alone

-- The rule comes to this effect where `have` of the values `own` are used, and `new` is what stands in their place afterwards.
abbrev pub ValueReply : Plain → Effect → ℕ → List Value → List Value → Type 0
ValueReply (Went n) effect have own new = (n ≤ have + 1) × (effect ≡ Yields Nothing (used n new))
ValueReply (Trapped kind) effect have own new = (effect ≡ Fails kind) × (new ≡ own)
ValueReply NoRule effect have own new = (effect ≡ HasNoRule) × (new ≡ own)
ValueReply Special effect have own new = ⊥

-- ---- numeric operations, which may ask

-- the answer of an operation whose operands stand above so many values, which its result takes the place of
abbrev pub AnswerReply : Plain → NumAnswer → ℕ → List Value → List Value → Type 0
AnswerReply (Went n) given below own new = (n ≡ below + 1) × ((value : Value) × (given ≡ answer.Gives value) × (used n new ≡ value ∷ used below own))
AnswerReply (Trapped kind) given below own new = (given ≡ answer.Trap kind) × (new ≡ own)
AnswerReply NoRule given below own new = (given ≡ answer.Stuck) × (new ≡ own)
AnswerReply Special given below own new = (given ≡ answer.Ask) × (new ≡ own)

-- how many operands an operation takes, by its second type
abbrev pub operand_count : Option ValType → ℕ
operand_count None = 1
operand_count (Some type) = 2

abbrev pub count_of : NumOp → ℕ
count_of op = operand_count (types_of op).second

-- a float operation that the surroundings answer: it asks with the last of the values, above those below them
pub record IsAsked (op : NumOp) (have : ℕ) (own : List Value) : Type 0 where
  pub operands : count_of op ≤ have
  pub asks : operation_step op (types_of op).second (used have own)
      ≡ Poses (AskFloat op (drop (have - count_of op) (take have own))) (used (have - count_of op) own)

abbrev pub NumberReply : Plain → NumOp → ℕ → List Value → List Value → Type 0
NumberReply (Went n) op have own new = (n ≤ have + 1) × (operation_step op (types_of op).second (used have own) ≡ Yields Nothing (used n new))
NumberReply (Trapped kind) op have own new = (operation_step op (types_of op).second (used have own) ≡ Fails kind) × (new ≡ own)
NumberReply NoRule op have own new = (operation_step op (types_of op).second (used have own) ≡ HasNoRule) × (new ≡ own)
NumberReply Special op have own new = IsAsked op have own × (new ≡ own)

-- ---- rules that change the store: they take values away and give none

pub record ChangedBy (effect : Effect) (n : ℕ) (own : List Value) (store after : StateOf Function) : Type 0 where
  pub change : Change
  pub yields : effect ≡ Yields change (used n own)
  pub leaves : after ≡ applied change store

abbrev pub StoreReply : Plain → Effect → ℕ → List Value → StateOf Function → StateOf Function → Type 0
StoreReply (Went n) effect have own store after = (n ≤ have) × ChangedBy effect n own store after
StoreReply (Trapped kind) effect have own store after = (effect ≡ Fails kind) × (after ≡ store)
StoreReply NoRule effect have own store after = (effect ≡ HasNoRule) × (after ≡ store)
StoreReply Special effect have own store after = ⊥

-- ---- rules that set a local

-- one local is another value, and the rule gives the frame these locals
pub record SetsOneLocal (outcome : Outcome) (n : ℕ) (own locals new : List Value) : Type 0 where
  pub index : ℕ
  pub value : Value
  pub found : index < length locals
  pub set : new ≡ slice_set locals index value
  pub sets : outcome ≡ SetsLocals new (used n own)

abbrev pub LocalReply : Plain → Outcome → ℕ → List Value → List Value → List Value → Type 0
LocalReply (Went n) outcome have own locals new = (n ≤ have) × SetsOneLocal outcome n own locals new
LocalReply (Trapped kind) outcome have own locals new = (outcome ≡ Does (Fails kind)) × (new ≡ locals)
LocalReply NoRule outcome have own locals new = (outcome ≡ Does HasNoRule) × (new ≡ locals)
LocalReply Special outcome have own locals new = ⊥

-- ---- any plain instruction

-- what the code works on: locals, own values with the room behind them, and the store
pub record Site : Type 0 where
  pub locals : List Value
  pub own : List Value
  pub store : StateOf Function

abbrev pub site : List Value → List Value → StateOf Function → Site
site locals own store = record { locals = locals; own = own; store = store }

-- the step of this instruction of a body, where `have` of the own values are used, and functions have these bodies
abbrev pub step_at : BodyParts → Instr → ℕ → Site → List BodyParts → Outcome
step_at body instr have at bodies = leaf_step (state_of bodies at.store) at.locals (leaf_in body instr) (used have at.own)

-- The instruction went: its step changes the store so, or sets a local, and leaves the first n of the own values.
pub data WentOn (outcome : Outcome) (n : ℕ) (old new : Site) : Type 0 where
  Yielded : (change : Change) → outcome ≡ Does (Yields change (used n new.own)) → new.store ≡ applied change old.store
      → new.locals ≡ old.locals → WentOn outcome n old new
  SetLocal : SetsOneLocal outcome n new.own old.locals new.locals → new.store ≡ old.store → WentOn outcome n old new

-- the instruction holds no others
abbrev pub HoldsNone : BodyParts → Instr → Type 0
HoldsNone body instr = (rest : Code) → headed_in body instr rest ≡ Then (leaf_in body instr) rest

-- what is no plain instruction: blocks, branches, calls and growth, and a float operation that asks
abbrev pub IsSpecial : Instr → ℕ → List Value → Type 0
IsSpecial (Block shape body) have own = Unit {0}
IsSpecial (Loop shape body) have own = Unit {0}
IsSpecial (If shape first second) have own = Unit {0}
IsSpecial (Br label) have own = Unit {0}
IsSpecial (BrIf label) have own = Unit {0}
IsSpecial (BrTable first count last) have own = Unit {0}
IsSpecial Return have own = Unit {0}
IsSpecial (Call function) have own = Unit {0}
IsSpecial (CallIndirect signature table) have own = Unit {0}
IsSpecial (TableGrow table) have own = Unit {0}
IsSpecial (MemoryGrow memory) have own = Unit {0}
IsSpecial (Num op) have own = IsAsked op have own
IsSpecial instr have own = ⊥

-- what the code answers and leaves; where it doesn't go on, nothing is changed
abbrev pub PlainReply : Plain → BodyParts → Instr → ℕ → Site → Site → Type 0
PlainReply (Went n) body instr have old new =
    HoldsNone body instr × (n ≤ have + 1) × ((bodies : List BodyParts) → WentOn (step_at body instr have old bodies) n old new)
PlainReply (Trapped kind) body instr have old new =
    HoldsNone body instr × ((bodies : List BodyParts) → step_at body instr have old bodies ≡ Does (Fails kind)) × (new ≡ old)
PlainReply NoRule body instr have old new =
    HoldsNone body instr × ((bodies : List BodyParts) → step_at body instr have old bodies ≡ Does HasNoRule) × (new ≡ old)
PlainReply Special body instr have old new = IsSpecial instr have old.own × (new ≡ old)
