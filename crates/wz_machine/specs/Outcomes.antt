-- The head of section 4.4 of the Core Specification: what a step comes to, from the instruction outwards. Each of these says what a
-- rule does where it applies; what stands around it, and what follows it, is no part of it.
use Rattle.std.specs.Prelude.{ℕ, List}
use Rattle.wz_types.specs.declared.trap.TrapKind.{TrapKind}
use Rattle.wz_types.specs.declared.value.Value.{Value}
use Rattle.wz_code.specs.Trees.{Code}
use Rattle.wz_store.specs.Changes.{Change}
use Rattle.wz_machine.specs.Terms.{Inside, Term, Question}

-- What an instruction does that leaves labels, frames and locals alone. Its operands are taken away from the values.
pub data Effect : Type 0 where
  -- changes the state, and leaves these values
  Yields : Change → List Value → Effect
  -- asks, above these values
  Poses : Question → List Value → Effect
  Fails : TrapKind → Effect
  -- no rule of section 4.4 applies
  HasNoRule : Effect

-- What any instruction does that holds no others.
pub data Outcome : Type 0 where
  Does : Effect → Outcome
  -- gives the frame these locals, and leaves these values
  SetsLocals : List Value → List Value → Outcome
  -- branches to the label of this number
  Jumps : ℕ → List Value → Outcome
  -- returns from the frame
  Quits : List Value → Outcome
  -- a frame with so many results, these locals and this code, above these values
  Calls : ℕ → List Value → Code → List Value → Outcome

-- What a step of what stands in a frame comes to: the change of the state, the frame's locals and what stands in it then; or what the
-- label or frame around it has to answer.
pub data Reduct : Type 0 where
  Goes : Change → List Value → Inside → Reduct
  -- no instruction is left above these values
  Finishes : List Value → Reduct
  Branches : ℕ → List Value → Reduct
  Returns : List Value → Reduct
  Pauses : Question → Inside → Reduct
  Traps : TrapKind → Reduct
  Sticks : Reduct

-- What a step of a term comes to. Values that are done stand in the order of pushing.
pub data Answer : Type 0 where
  Next : Change → Term → Answer
  Done : List Value → Answer
  Trap : TrapKind → Answer
  Ask : Question → Term → Answer
  Stuck : Answer
