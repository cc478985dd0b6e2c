-- Section 7.5 of the Core Specification (soundness, in the appendix): what a typed state may change by, and what a step of a typed term and
-- a move from outside come to. To be stuck is none of it.
use Rattle.std.specs.Prelude.{◌≡◌, ◌≤◌, ◌<◌, ◌^◌, ◌+◌, List, [], ◌∷◌, Some, slice_get, length}
use Rattle.wz_types.specs.declared.types.ValType.{ValType}
use Rattle.wz_types.specs.declared.value.Value.TheVariants.{Ref}
use Rattle.wz_types.specs.Fits.{type_of_kind}
use Rattle.wz_store.specs.State.{Global, Table, Memory, pages_of}
use Rattle.wz_store.specs.Changes.{Change, Nothing, SetGlobal, WriteTable, WriteMemory, GrowTable, GrowMemory, EmptyElement, EmptyData, applied}
use Rattle.wz_machine.specs.State.{State}
use Rattle.wz_machine.specs.Outcomes.{Answer, Next, Done, Trap, Ask, Stuck}
use Rattle.wz_machine.specs.Step.{step}
use Rattle.wz_machine.specs.Terms.{Standing, Runs, Waits}
use Rattle.wz_machine.specs.Exports.{ExportInstance}
use Rattle.wz_machine.specs.Moves.{Move}
use Rattle.wz_machine.specs.Replies.{Reply}
use Rattle.wz_machine.specs.Sessions.{move_reply}
use Rattle.wz_machine.specs.TypedState.{state_context, HasType, HaveKind, HoldsBytes}
use Rattle.wz_machine.specs.TypedTerms.{HaveTypes, as_operands, IsTermTyped, IsWaitingTyped, IsMachineTyped}

-- ---- changes

-- what comes into a state fits there; what is written lies within, and sizes stay numbers of 32 bits
abbrev pub IsChangeTyped : State → Change → Type 0
IsChangeTyped s Nothing = Unit {0}
IsChangeTyped s (SetGlobal index value) =
    (global : Global) → slice_get s.globals index ≡ Some global → HasType (state_context s) value global.type.value
IsChangeTyped s (WriteTable index at new) =
    (table : Table) → slice_get s.tables index ≡ Some table
    → HaveKind (state_context s) table.kind new × (at + length new ≤ length table.entries)
IsChangeTyped s (WriteMemory index at bytes) =
    HoldsBytes bytes × ((memory : Memory) → slice_get s.memories index ≡ Some memory → at + length bytes ≤ length memory.bytes)
IsChangeTyped s (GrowTable index by reference) =
    (table : Table) → slice_get s.tables index ≡ Some table
    → HasType (state_context s) (Ref reference) (type_of_kind table.kind) × (length table.entries + by < 2 ^ 32)
IsChangeTyped s (GrowMemory index pages) =
    (memory : Memory) → slice_get s.memories index ≡ Some memory → pages_of memory + pages < 2 ^ 32
IsChangeTyped s (EmptyElement index) = Unit {0}
IsChangeTyped s (EmptyData index) = Unit {0}

-- ---- steps

-- what a step of a term that gives these results comes to; to be stuck is no such answer
abbrev pub IsAnswerTyped : State → List ValType → Answer → Type 0
IsAnswerTyped s results (Next change new) = IsChangeTyped s change × IsTermTyped (state_context s) new results
IsAnswerTyped s results (Done values) = HaveTypes (state_context s) values (as_operands results)
IsAnswerTyped s results (Trap kind) = Unit {0}
IsAnswerTyped s results (Ask question rest) = IsWaitingTyped (state_context s) question rest results
IsAnswerTyped s results Stuck = ⊥

-- ---- moves

-- what a move comes to in a state: a change that fits, and an instance in which typed terms stand
pub record IsReplyTyped (s : State) (reply : Reply) : Type 0 where
  pub change : IsChangeTyped s reply.change
  pub machine : IsMachineTyped (applied reply.change s) reply.stack

-- ---- to be stuck

-- where a term runs, its next step has a rule
abbrev pub StepHasRule : State → Standing → Type 0
StepHasRule s (Runs term) = step s term ≡ Stuck → ⊥
StepHasRule s (Waits question rest) = Unit {0}

-- it is the topmost that makes steps
abbrev pub IsNotStuck : State → List Standing → Type 0
IsNotStuck s [] = Unit {0}
IsNotStuck s (top ∷ below) = StepHasRule s top

-- before each of these moves, and behind the last
abbrev pub NoneStuckFrom : List ExportInstance → State → List Standing → List Move → Type 0
NoneStuckFrom exports s stack [] = IsNotStuck s stack
NoneStuckFrom exports s stack (move ∷ moves) =
    IsNotStuck s stack
    × NoneStuckFrom exports (applied (move_reply exports s stack move).change s) (move_reply exports s stack move).stack moves

-- where no term stands yet
abbrev pub NoneStuck : State → List ExportInstance → List Move → Type 0
NoneStuck s exports moves = NoneStuckFrom exports s [] moves
