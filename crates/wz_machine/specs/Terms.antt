-- Sections 4.2.14 (stack) and 4.2.15 (administrative instructions) of the Core Specification: what is being computed, as nested terms.
-- Values stand last pushed first, so a rule of section 4.4 is a pattern: an instruction's last operand is the list's first item.
use Rattle.std.specs.Prelude.{ℕ, List, Option}
use Rattle.wz_types.specs.declared.value.Reference.{Reference}
use Rattle.wz_types.specs.declared.value.Value.{Value}
use Rattle.wz_types.specs.FunctionType.{FunctionType}
use Rattle.wz_code.specs.declared.numeric.NumOp.{NumOp}
use Rattle.wz_code.specs.Trees.{Code}
use Rattle.wz_machine.specs.declared.questions.HostTarget.{HostTarget}

-- Values and the instructions behind them, the first of which may be a label or a frame that holds an inside.
pub data Inside : Type 0 where
  -- no label and no frame stands in front of these instructions
  Innermost : List Value → Code → Inside
  -- label_n{instr*}: the values below it, n, a loop's instructions for instr* (none, where a branch ends the block), what stands in
  -- it, and the instructions behind its end
  InLabel : List Value → ℕ → Option Code → Inside → Code → Inside
  -- frame_n{locals}: the values below it, n, its locals, what stands in it, and the instructions behind its end
  InFrame : List Value → ℕ → List Value → Inside → Code → Inside

-- The outermost frame with the number of its results, its locals (the parameters first) and what stands in it; or values alone. The
-- outermost label of a function belongs to its frame, so there is none for it.
pub data Term : Type 0 where
  Frame : ℕ → List Value → Inside → Term
  BareValues : List Value → Term

-- What a term waits for. Operands and arguments stand in the order of pushing.
pub data Question : Type 0 where
  -- the result of a float operation
  AskFloat : NumOp → List Value → Question
  -- whether this memory grows by so many pages
  AskMemory : ℕ → ℕ → Question
  -- whether this table grows by so many entries, which hold this reference then
  AskTable : ℕ → ℕ → Reference → Question
  -- what a function of the host gives, by its type
  AskHost : HostTarget → List Value → FunctionType → Question

-- A term that runs, or one that waits: what is left of it, and the question whose answer goes to its innermost values.
pub data Standing : Type 0 where
  Runs : Term → Standing
  Waits : Question → Term → Standing
