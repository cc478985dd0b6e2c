-- What can be done with an instance from outside, and what is seen of it: calls and their steps (section 4.5.5 of the Core
-- Specification), answers to what they ask, and accesses to what is exported (section 7.1, embedding, in the appendix).
use Rattle.std.specs.Prelude.{ℕ, List, Option, Bool}
use Rattle.wz_types.specs.declared.trap.TrapKind.{TrapKind}
use Rattle.wz_types.specs.declared.value.Value.{Value}
use Rattle.wz_code.specs.declared.numeric.NumOp.{NumOp}
use Rattle.wz_machine.specs.declared.questions.HostTarget.{HostTarget}
use Rattle.wz_machine.specs.declared.questions.Growth.{Growth}
use Rattle.wz_machine.specs.declared.questions.FloatReply.{FloatReply}

-- a name is that of an export, and values stand in the order of pushing
pub data Move : Type 0 where
  -- enters a function with these values
  CallMove : List ℕ → List Value → Move
  -- makes one step of the topmost term
  TickMove : Move
  -- answer its question: with a float operation's result or a trap; that growth is granted or not; with what the host's function
  -- gives; or that it never returns
  FloatAnswer : FloatReply → Move
  GrowAnswer : Bool → Move
  ReturnMove : List Value → Move
  AbortMove : Move
  -- so many bytes of a memory from a place on, and these bytes to a place
  ReadMove : List ℕ → ℕ → ℕ → Move
  WriteMove : List ℕ → ℕ → List ℕ → Move
  -- the size of a memory in pages, or of a table in entries; and by so many more, for a table with a reference to fill it with
  SizeMove : List ℕ → Move
  EnlargeMove : List ℕ → ℕ → Option Value → Move
  -- a global, or a table's entry at a place
  GetMove : List ℕ → Option ℕ → Move
  SetMove : List ℕ → Option ℕ → Value → Move

pub data Event : Type 0 where
  -- the move doesn't fit, and nothing has changed
  Refused : Event
  -- all went on, and there is nothing to see
  Went : Event
  -- the topmost term ended, with these values
  DoneEvent : List Value → Event
  Trapped : TrapKind → Event
  -- it waits: for the host's function with these arguments, for the result of a float operation, for growth
  HostCall : HostTarget → List Value → Event
  FloatAsked : NumOp → List Value → Event
  GrowAsked : Growth → Event
  -- what an access sees
  BytesRead : List ℕ → Event
  HeldSize : ℕ → Event
  HeldValue : Value → Event
