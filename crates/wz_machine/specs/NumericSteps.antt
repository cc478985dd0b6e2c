-- Section 4.4.1 of the Core Specification: numeric instructions. They read values alone.
use Rattle.std.specs.Prelude.{List, [], ◌∷◌, Option, Some, None}
use Rattle.wz_types.specs.declared.types.ValType.{ValType}
use Rattle.wz_types.specs.declared.value.Value.{Value}
use Rattle.wz_code.specs.declared.numeric.NumOp.{NumOp}
use Rattle.wz_num.specs.declared.answer.NumAnswer.{NumAnswer}
use Rattle.wz_num.specs.declared.answer.NumAnswer.TheVariants as answer
use Rattle.wz_num.specs.Number.{number}
use Rattle.wz_store.specs.Changes.{Nothing}
use Rattle.wz_machine.specs.Terms.{AskFloat}
use Rattle.wz_machine.specs.Outcomes.{Effect, Yields, Poses, Fails, HasNoRule}

-- t.const c
abbrev pub const_step : Value → List Value → Effect
const_step value values = Yields Nothing (value ∷ values)

-- t.unop, t.binop, t.testop, t.relop and t2.cvtop_t1: where the operation has a result, where it has none, where it is a float
-- operation, whose result the surroundings answer, and where the operands aren't of its types
abbrev pub result_effect : NumOp → List Value → List Value → NumAnswer → Effect
result_effect op operands values (answer.Gives result) = Yields Nothing (result ∷ values)
result_effect op operands values (answer.Trap kind) = Fails kind
result_effect op operands values answer.Ask = Poses (AskFloat op operands) values
result_effect op operands values answer.Stuck = HasNoRule

-- an operation of one operand, and one of two, which has a second type
abbrev pub operation_step : NumOp → Option ValType → List Value → Effect
operation_step op None (a ∷ values) = result_effect op (a ∷ []) values (number op (a ∷ []))
operation_step op (Some type) (b ∷ a ∷ values) = result_effect op (a ∷ b ∷ []) values (number op (a ∷ b ∷ []))
operation_step op second values = HasNoRule
