-- Section 5.4.7 of the Core Specification (which opcode stands for which numeric instruction), with the types of section 3.3.1.
use Rattle.std.specs.Prelude.{◌≡◌, ℕ, Bool, true, false, ◌==◌, ◌&&◌, find, List, [], ◌∷◌, Option, Some, None}
use Rattle.wz_types.specs.declared.types.ValType.{ValType}
use Rattle.wz_types.specs.declared.types.ValType.TheVariants.{I32, I64, F32, F64}
use Rattle.wz_code.specs.declared.numeric.NumOp.{NumOp}
use Rattle.wz_code.specs.declared.numeric.NumOp.TheVariants as op
use Rattle.wz_code.specs.declared.numeric.OpTypes.{OpTypes}

-- a row of the table: the opcode, the number behind it, the operands' types in the order of pushing, and the result's
pub record Row : Type 0 where
  pub opcode : ℕ × Option ℕ
  pub types : OpTypes

abbrev pub row : ℕ → Option ℕ → ValType → Option ValType → ValType → Row
row byte number first second result = record { opcode = (byte, number); types = record { first = first; second = second; result = result } }

-- the table
abbrev pub row_of : NumOp → Row
row_of op.I32Eqz = row 0x45 None I32 None I32
row_of op.I32Eq = row 0x46 None I32 (Some I32) I32
row_of op.I32Ne = row 0x47 None I32 (Some I32) I32
row_of op.I32LtS = row 0x48 None I32 (Some I32) I32
row_of op.I32LtU = row 0x49 None I32 (Some I32) I32
row_of op.I32GtS = row 0x4A None I32 (Some I32) I32
row_of op.I32GtU = row 0x4B None I32 (Some I32) I32
row_of op.I32LeS = row 0x4C None I32 (Some I32) I32
row_of op.I32LeU = row 0x4D None I32 (Some I32) I32
row_of op.I32GeS = row 0x4E None I32 (Some I32) I32
row_of op.I32GeU = row 0x4F None I32 (Some I32) I32
row_of op.I64Eqz = row 0x50 None I64 None I32
row_of op.I64Eq = row 0x51 None I64 (Some I64) I32
row_of op.I64Ne = row 0x52 None I64 (Some I64) I32
row_of op.I64LtS = row 0x53 None I64 (Some I64) I32
row_of op.I64LtU = row 0x54 None I64 (Some I64) I32
row_of op.I64GtS = row 0x55 None I64 (Some I64) I32
row_of op.I64GtU = row 0x56 None I64 (Some I64) I32
row_of op.I64LeS = row 0x57 None I64 (Some I64) I32
row_of op.I64LeU = row 0x58 None I64 (Some I64) I32
row_of op.I64GeS = row 0x59 None I64 (Some I64) I32
row_of op.I64GeU = row 0x5A None I64 (Some I64) I32
row_of op.F32Eq = row 0x5B None F32 (Some F32) I32
row_of op.F32Ne = row 0x5C None F32 (Some F32) I32
row_of op.F32Lt = row 0x5D None F32 (Some F32) I32
row_of op.F32Gt = row 0x5E None F32 (Some F32) I32
row_of op.F32Le = row 0x5F None F32 (Some F32) I32
row_of op.F32Ge = row 0x60 None F32 (Some F32) I32
row_of op.F64Eq = row 0x61 None F64 (Some F64) I32
row_of op.F64Ne = row 0x62 None F64 (Some F64) I32
row_of op.F64Lt = row 0x63 None F64 (Some F64) I32
row_of op.F64Gt = row 0x64 None F64 (Some F64) I32
row_of op.F64Le = row 0x65 None F64 (Some F64) I32
row_of op.F64Ge = row 0x66 None F64 (Some F64) I32
row_of op.I32Clz = row 0x67 None I32 None I32
row_of op.I32Ctz = row 0x68 None I32 None I32
row_of op.I32Popcnt = row 0x69 None I32 None I32
row_of op.I32Add = row 0x6A None I32 (Some I32) I32
row_of op.I32Sub = row 0x6B None I32 (Some I32) I32
row_of op.I32Mul = row 0x6C None I32 (Some I32) I32
row_of op.I32DivS = row 0x6D None I32 (Some I32) I32
row_of op.I32DivU = row 0x6E None I32 (Some I32) I32
row_of op.I32RemS = row 0x6F None I32 (Some I32) I32
row_of op.I32RemU = row 0x70 None I32 (Some I32) I32
row_of op.I32And = row 0x71 None I32 (Some I32) I32
row_of op.I32Or = row 0x72 None I32 (Some I32) I32
row_of op.I32Xor = row 0x73 None I32 (Some I32) I32
row_of op.I32Shl = row 0x74 None I32 (Some I32) I32
row_of op.I32ShrS = row 0x75 None I32 (Some I32) I32
row_of op.I32ShrU = row 0x76 None I32 (Some I32) I32
row_of op.I32Rotl = row 0x77 None I32 (Some I32) I32
row_of op.I32Rotr = row 0x78 None I32 (Some I32) I32
row_of op.I64Clz = row 0x79 None I64 None I64
row_of op.I64Ctz = row 0x7A None I64 None I64
row_of op.I64Popcnt = row 0x7B None I64 None I64
row_of op.I64Add = row 0x7C None I64 (Some I64) I64
row_of op.I64Sub = row 0x7D None I64 (Some I64) I64
row_of op.I64Mul = row 0x7E None I64 (Some I64) I64
row_of op.I64DivS = row 0x7F None I64 (Some I64) I64
row_of op.I64DivU = row 0x80 None I64 (Some I64) I64
row_of op.I64RemS = row 0x81 None I64 (Some I64) I64
row_of op.I64RemU = row 0x82 None I64 (Some I64) I64
row_of op.I64And = row 0x83 None I64 (Some I64) I64
row_of op.I64Or = row 0x84 None I64 (Some I64) I64
row_of op.I64Xor = row 0x85 None I64 (Some I64) I64
row_of op.I64Shl = row 0x86 None I64 (Some I64) I64
row_of op.I64ShrS = row 0x87 None I64 (Some I64) I64
row_of op.I64ShrU = row 0x88 None I64 (Some I64) I64
row_of op.I64Rotl = row 0x89 None I64 (Some I64) I64
row_of op.I64Rotr = row 0x8A None I64 (Some I64) I64
row_of op.F32Abs = row 0x8B None F32 None F32
row_of op.F32Neg = row 0x8C None F32 None F32
row_of op.F32Ceil = row 0x8D None F32 None F32
row_of op.F32Floor = row 0x8E None F32 None F32
row_of op.F32Trunc = row 0x8F None F32 None F32
row_of op.F32Nearest = row 0x90 None F32 None F32
row_of op.F32Sqrt = row 0x91 None F32 None F32
row_of op.F32Add = row 0x92 None F32 (Some F32) F32
row_of op.F32Sub = row 0x93 None F32 (Some F32) F32
row_of op.F32Mul = row 0x94 None F32 (Some F32) F32
row_of op.F32Div = row 0x95 None F32 (Some F32) F32
row_of op.F32Min = row 0x96 None F32 (Some F32) F32
row_of op.F32Max = row 0x97 None F32 (Some F32) F32
row_of op.F32Copysign = row 0x98 None F32 (Some F32) F32
row_of op.F64Abs = row 0x99 None F64 None F64
row_of op.F64Neg = row 0x9A None F64 None F64
row_of op.F64Ceil = row 0x9B None F64 None F64
row_of op.F64Floor = row 0x9C None F64 None F64
row_of op.F64Trunc = row 0x9D None F64 None F64
row_of op.F64Nearest = row 0x9E None F64 None F64
row_of op.F64Sqrt = row 0x9F None F64 None F64
row_of op.F64Add = row 0xA0 None F64 (Some F64) F64
row_of op.F64Sub = row 0xA1 None F64 (Some F64) F64
row_of op.F64Mul = row 0xA2 None F64 (Some F64) F64
row_of op.F64Div = row 0xA3 None F64 (Some F64) F64
row_of op.F64Min = row 0xA4 None F64 (Some F64) F64
row_of op.F64Max = row 0xA5 None F64 (Some F64) F64
row_of op.F64Copysign = row 0xA6 None F64 (Some F64) F64
row_of op.I32WrapI64 = row 0xA7 None I64 None I32
row_of op.I32TruncF32S = row 0xA8 None F32 None I32
row_of op.I32TruncF32U = row 0xA9 None F32 None I32
row_of op.I32TruncF64S = row 0xAA None F64 None I32
row_of op.I32TruncF64U = row 0xAB None F64 None I32
row_of op.I64ExtendI32S = row 0xAC None I32 None I64
row_of op.I64ExtendI32U = row 0xAD None I32 None I64
row_of op.I64TruncF32S = row 0xAE None F32 None I64
row_of op.I64TruncF32U = row 0xAF None F32 None I64
row_of op.I64TruncF64S = row 0xB0 None F64 None I64
row_of op.I64TruncF64U = row 0xB1 None F64 None I64
row_of op.F32ConvertI32S = row 0xB2 None I32 None F32
row_of op.F32ConvertI32U = row 0xB3 None I32 None F32
row_of op.F32ConvertI64S = row 0xB4 None I64 None F32
row_of op.F32ConvertI64U = row 0xB5 None I64 None F32
row_of op.F32DemoteF64 = row 0xB6 None F64 None F32
row_of op.F64ConvertI32S = row 0xB7 None I32 None F64
row_of op.F64ConvertI32U = row 0xB8 None I32 None F64
row_of op.F64ConvertI64S = row 0xB9 None I64 None F64
row_of op.F64ConvertI64U = row 0xBA None I64 None F64
row_of op.F64PromoteF32 = row 0xBB None F32 None F64
row_of op.I32ReinterpretF32 = row 0xBC None F32 None I32
row_of op.I64ReinterpretF64 = row 0xBD None F64 None I64
row_of op.F32ReinterpretI32 = row 0xBE None I32 None F32
row_of op.F64ReinterpretI64 = row 0xBF None I64 None F64
row_of op.I32Extend8S = row 0xC0 None I32 None I32
row_of op.I32Extend16S = row 0xC1 None I32 None I32
row_of op.I64Extend8S = row 0xC2 None I64 None I64
row_of op.I64Extend16S = row 0xC3 None I64 None I64
row_of op.I64Extend32S = row 0xC4 None I64 None I64
row_of op.I32TruncSatF32S = row 0xFC (Some 0) F32 None I32
row_of op.I32TruncSatF32U = row 0xFC (Some 1) F32 None I32
row_of op.I32TruncSatF64S = row 0xFC (Some 2) F64 None I32
row_of op.I32TruncSatF64U = row 0xFC (Some 3) F64 None I32
row_of op.I64TruncSatF32S = row 0xFC (Some 4) F32 None I64
row_of op.I64TruncSatF32U = row 0xFC (Some 5) F32 None I64
row_of op.I64TruncSatF64S = row 0xFC (Some 6) F64 None I64
row_of op.I64TruncSatF64U = row 0xFC (Some 7) F64 None I64

abbrev pub opcode_of : NumOp → ℕ × Option ℕ
opcode_of op = (row_of op).opcode

abbrev pub types_of : NumOp → OpTypes
types_of op = (row_of op).types

-- ---- from an opcode to the operation

-- all operations, in the order of the table
abbrev pub operations : List NumOp
operations =
    op.I32Eqz ∷ op.I32Eq ∷ op.I32Ne ∷ op.I32LtS ∷ op.I32LtU ∷ op.I32GtS ∷ op.I32GtU ∷ op.I32LeS ∷ op.I32LeU ∷
    op.I32GeS ∷ op.I32GeU ∷ op.I64Eqz ∷ op.I64Eq ∷ op.I64Ne ∷ op.I64LtS ∷ op.I64LtU ∷ op.I64GtS ∷ op.I64GtU ∷
    op.I64LeS ∷ op.I64LeU ∷ op.I64GeS ∷ op.I64GeU ∷ op.F32Eq ∷ op.F32Ne ∷ op.F32Lt ∷ op.F32Gt ∷ op.F32Le ∷
    op.F32Ge ∷ op.F64Eq ∷ op.F64Ne ∷ op.F64Lt ∷ op.F64Gt ∷ op.F64Le ∷ op.F64Ge ∷ op.I32Clz ∷ op.I32Ctz ∷
    op.I32Popcnt ∷ op.I32Add ∷ op.I32Sub ∷ op.I32Mul ∷ op.I32DivS ∷ op.I32DivU ∷ op.I32RemS ∷ op.I32RemU ∷
    op.I32And ∷ op.I32Or ∷ op.I32Xor ∷ op.I32Shl ∷ op.I32ShrS ∷ op.I32ShrU ∷ op.I32Rotl ∷ op.I32Rotr ∷
    op.I64Clz ∷ op.I64Ctz ∷ op.I64Popcnt ∷ op.I64Add ∷ op.I64Sub ∷ op.I64Mul ∷ op.I64DivS ∷ op.I64DivU ∷
    op.I64RemS ∷ op.I64RemU ∷ op.I64And ∷ op.I64Or ∷ op.I64Xor ∷ op.I64Shl ∷ op.I64ShrS ∷ op.I64ShrU ∷
    op.I64Rotl ∷ op.I64Rotr ∷ op.F32Abs ∷ op.F32Neg ∷ op.F32Ceil ∷ op.F32Floor ∷ op.F32Trunc ∷ op.F32Nearest ∷
    op.F32Sqrt ∷ op.F32Add ∷ op.F32Sub ∷ op.F32Mul ∷ op.F32Div ∷ op.F32Min ∷ op.F32Max ∷ op.F32Copysign ∷
    op.F64Abs ∷ op.F64Neg ∷ op.F64Ceil ∷ op.F64Floor ∷ op.F64Trunc ∷ op.F64Nearest ∷ op.F64Sqrt ∷ op.F64Add ∷
    op.F64Sub ∷ op.F64Mul ∷ op.F64Div ∷ op.F64Min ∷ op.F64Max ∷ op.F64Copysign ∷ op.I32WrapI64 ∷
    op.I32TruncF32S ∷ op.I32TruncF32U ∷ op.I32TruncF64S ∷ op.I32TruncF64U ∷ op.I64ExtendI32S ∷ op.I64ExtendI32U ∷
    op.I64TruncF32S ∷ op.I64TruncF32U ∷ op.I64TruncF64S ∷ op.I64TruncF64U ∷ op.F32ConvertI32S ∷
    op.F32ConvertI32U ∷ op.F32ConvertI64S ∷ op.F32ConvertI64U ∷ op.F32DemoteF64 ∷ op.F64ConvertI32S ∷
    op.F64ConvertI32U ∷ op.F64ConvertI64S ∷ op.F64ConvertI64U ∷ op.F64PromoteF32 ∷ op.I32ReinterpretF32 ∷
    op.I64ReinterpretF64 ∷ op.F32ReinterpretI32 ∷ op.F64ReinterpretI64 ∷ op.I32Extend8S ∷ op.I32Extend16S ∷
    op.I64Extend8S ∷ op.I64Extend16S ∷ op.I64Extend32S ∷ op.I32TruncSatF32S ∷ op.I32TruncSatF32U ∷
    op.I32TruncSatF64S ∷ op.I32TruncSatF64U ∷ op.I64TruncSatF32S ∷ op.I64TruncSatF32U ∷ op.I64TruncSatF64S ∷
    op.I64TruncSatF64U ∷ []

abbrev pub is_number : Option ℕ → Option ℕ → Bool
is_number None None = true
is_number None (Some b) = false
is_number (Some a) None = false
is_number (Some a) (Some b) = a == b

abbrev pub has_opcode : ℕ → Option ℕ → NumOp → Bool
has_opcode byte number op = ((row_of op).opcode.0 == byte) && is_number (row_of op).opcode.1 number

-- the operation of the row that has this opcode, with this number behind it
unfoldable pub op_at : ℕ → Option ℕ → Option NumOp
op_at byte number = find (λ op. has_opcode byte number op) operations

-- the table read backwards is the table
abbrev pub NamesOperation : Type 0
NamesOperation = (byte : ℕ) (number : Option ℕ) (op : NumOp) → op_at byte number ≡ Some op → opcode_of op ≡ (byte, number)

abbrev pub OperationNamed : Type 0
OperationNamed = (op : NumOp) → op_at (opcode_of op).0 (opcode_of op).1 ≡ Some op
