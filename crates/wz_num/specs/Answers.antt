-- Section 4.4.1 of the Core Specification, for a machine: a small answer, and the types of the operands by their number and type.
use Rattle.std.specs.Prelude.{Option, Some, None}
use Rattle.wz_types.specs.declared.types.ValType.{ValType}
use Rattle.wz_types.specs.declared.types.ValType.TheVariants as type
use Rattle.wz_types.specs.declared.value.Value.TheVariants as value
use Rattle.wz_num.specs.declared.answer.NumAnswer.{NumAnswer}
use Rattle.wz_num.specs.declared.answer.NumAnswer.TheVariants as answer
use Rattle.wz_num.specs.declared.answer.NumResult.{NumResult}
use Rattle.wz_num.specs.declared.answer.NumResult.TheVariants.{I32, I64, F32, F64, Trap, Ask, NoRule}
use Rattle.wz_num.specs.declared.shapes.OperandShape.{OperandShape}
use Rattle.wz_num.specs.declared.shapes.OperandShape.TheVariants as shape

-- the answer that the small one stands for
abbrev pub answer_of : NumResult → NumAnswer
answer_of (I32 a) = answer.Gives (value.I32 a)
answer_of (I64 a) = answer.Gives (value.I64 a)
answer_of (F32 a) = answer.Gives (value.F32 a)
answer_of (F64 a) = answer.Gives (value.F64 a)
answer_of (Trap kind) = answer.Trap kind
answer_of Ask = answer.Ask
answer_of NoRule = answer.Stuck

-- the type of the operand that was pushed first, and of the second one
abbrev pub first_of : OperandShape → ValType
first_of shape.OneI32 = type.I32
first_of shape.OneI64 = type.I64
first_of shape.OneF32 = type.F32
first_of shape.OneF64 = type.F64
first_of shape.TwoI32 = type.I32
first_of shape.TwoI64 = type.I64
first_of shape.TwoF32 = type.F32
first_of shape.TwoF64 = type.F64

abbrev pub second_of : OperandShape → Option ValType
second_of shape.OneI32 = None
second_of shape.OneI64 = None
second_of shape.OneF32 = None
second_of shape.OneF64 = None
second_of shape.TwoI32 = Some type.I32
second_of shape.TwoI64 = Some type.I64
second_of shape.TwoF32 = Some type.F32
second_of shape.TwoF64 = Some type.F64
