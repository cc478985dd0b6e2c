-- Section 5.4.6 of the Core Specification (which opcode stands for which access of a memory), with the types and widths of sections 3.3.7 and 4.4.7.
use Rattle.std.specs.Prelude.{◌≡◌, ℕ, true, false, ◌==◌, find, List, [], ◌∷◌, Option, Some}
use Rattle.wz_types.specs.declared.types.ValType.{ValType}
use Rattle.wz_types.specs.declared.types.ValType.TheVariants.{I32, I64, F32, F64}
use Rattle.wz_code.specs.declared.accesses.MemOp.{MemOp}
use Rattle.wz_code.specs.declared.accesses.MemOp.TheVariants as op
use Rattle.wz_code.specs.declared.accesses.AccessShape.{AccessShape}

-- a row of the table: the opcode, and what the access reads or writes
pub record AccessRow : Type 0 where
  pub opcode : ℕ
  pub shape : AccessShape

-- a load of so many bytes, which zeros extend where the value has more
abbrev pub load : ℕ → ValType → ℕ → AccessRow
load byte value bytes = record { opcode = byte; shape = record { value = value; bytes = bytes; signed = false; store = false } }

-- a load that extends the bytes with their sign
abbrev pub load_signed : ℕ → ValType → ℕ → AccessRow
load_signed byte value bytes = record { opcode = byte; shape = record { value = value; bytes = bytes; signed = true; store = false } }

-- a store of the value's lowest bytes
abbrev pub store : ℕ → ValType → ℕ → AccessRow
store byte value bytes = record { opcode = byte; shape = record { value = value; bytes = bytes; signed = false; store = true } }

-- the table
abbrev pub access_row_of : MemOp → AccessRow
access_row_of op.I32Load = load 0x28 I32 4
access_row_of op.I64Load = load 0x29 I64 8
access_row_of op.F32Load = load 0x2A F32 4
access_row_of op.F64Load = load 0x2B F64 8
access_row_of op.I32Load8S = load_signed 0x2C I32 1
access_row_of op.I32Load8U = load 0x2D I32 1
access_row_of op.I32Load16S = load_signed 0x2E I32 2
access_row_of op.I32Load16U = load 0x2F I32 2
access_row_of op.I64Load8S = load_signed 0x30 I64 1
access_row_of op.I64Load8U = load 0x31 I64 1
access_row_of op.I64Load16S = load_signed 0x32 I64 2
access_row_of op.I64Load16U = load 0x33 I64 2
access_row_of op.I64Load32S = load_signed 0x34 I64 4
access_row_of op.I64Load32U = load 0x35 I64 4
access_row_of op.I32Store = store 0x36 I32 4
access_row_of op.I64Store = store 0x37 I64 8
access_row_of op.F32Store = store 0x38 F32 4
access_row_of op.F64Store = store 0x39 F64 8
access_row_of op.I32Store8 = store 0x3A I32 1
access_row_of op.I32Store16 = store 0x3B I32 2
access_row_of op.I64Store8 = store 0x3C I64 1
access_row_of op.I64Store16 = store 0x3D I64 2
access_row_of op.I64Store32 = store 0x3E I64 4

abbrev pub access_opcode_of : MemOp → ℕ
access_opcode_of op = (access_row_of op).opcode

abbrev pub shape_of : MemOp → AccessShape
shape_of op = (access_row_of op).shape

-- ---- from an opcode to the access

-- all accesses, in the order of the table
abbrev pub all_accesses : List MemOp
all_accesses =
    op.I32Load ∷ op.I64Load ∷ op.F32Load ∷ op.F64Load ∷ op.I32Load8S ∷ op.I32Load8U ∷ op.I32Load16S ∷
    op.I32Load16U ∷ op.I64Load8S ∷ op.I64Load8U ∷ op.I64Load16S ∷ op.I64Load16U ∷ op.I64Load32S ∷ op.I64Load32U ∷
    op.I32Store ∷ op.I64Store ∷ op.F32Store ∷ op.F64Store ∷ op.I32Store8 ∷ op.I32Store16 ∷ op.I64Store8 ∷
    op.I64Store16 ∷ op.I64Store32 ∷ []

-- the access of the row that has this opcode
unfoldable pub access_at : ℕ → Option MemOp
access_at byte = find (λ op. access_opcode_of op == byte) all_accesses

-- the table read backwards is the table
abbrev pub NamesAccess : Type 0
NamesAccess = (byte : ℕ) (op : MemOp) → access_at byte ≡ Some op → access_opcode_of op ≡ byte

abbrev pub AccessNamed : Type 0
AccessNamed = (op : MemOp) → access_at (access_opcode_of op) ≡ Some op
