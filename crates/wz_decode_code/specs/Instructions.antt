-- Section 5.4 of the Core Specification: the instructions that hold no others.
use Rattle.std.specs.Prelude.{◌≡◌, ℕ, ◌++◌, List, [], ◌∷◌, Option, Some, None}
use Rattle.std.specs.Int.{w32, w64, cast_unsigned, from_le_bytes}
use Rattle.wz_bytes.specs.Unsigned.{IsUnsigned}
use Rattle.wz_bytes.specs.Signed.{IsSigned}
use Rattle.wz_bytes.specs.Forms.{IsPiece, Both, Tagged, Made, IsVector}
use Rattle.wz_code.specs.declared.instr.Instr.{Instr}
use Rattle.wz_code.specs.declared.instr.Instr.TheVariants as instr
use Rattle.wz_code.specs.Accesses.{access_opcode_of}
use Rattle.wz_code.specs.Numeric.{opcode_of}
use Rattle.wz_code.specs.Trees.{Leaf, Plain, TableBranch, TypedSelect}
use Rattle.wz_decode_code.specs.Types.{IsValType, IsRefKind}

-- ---- what stands behind opcodes

-- a number, or an index
abbrev pub IsU32 : List ℕ → ℕ → Type 0
IsU32 text n = IsUnsigned 32 text n

abbrev pub Two : List ℕ → ℕ × ℕ → Type 0
Two text xy = Both (λ t n. IsU32 t n) (λ t n. IsU32 t n) text xy

-- the zero byte that stands where later versions have the number of a memory, and the number 0 that it is
abbrev pub IsZeroByte : List ℕ → ℕ → Type 0
IsZeroByte text memory = (text ≡ 0x00 ∷ []) × (memory ≡ 0)

-- Section 5.4.6: an alignment, and an offset into the one memory there is
pub record MemArg : Type 0 where
  pub align : ℕ
  pub offset : ℕ
  pub memory : ℕ

abbrev pub IsMemArg : List ℕ → MemArg → Type 0
IsMemArg text arg = Two text (arg.align, arg.offset) × (arg.memory ≡ 0)

-- constants, as their bits: signed integers, and floats as their bytes, the lowest first
abbrev pub IsI32 : List ℕ → ℕ → Type 0
IsI32 text bits = Made (λ z. cast_unsigned w32 z) (λ t z. IsSigned 32 t z) text bits

abbrev pub IsI64 : List ℕ → ℕ → Type 0
IsI64 text bits = Made (λ z. cast_unsigned w64 z) (λ t z. IsSigned 64 t z) text bits

abbrev pub IsF32 : List ℕ → ℕ → Type 0
IsF32 text bits = Made (λ piece. from_le_bytes w32 piece) (λ t piece. IsPiece 4 t piece) text bits

abbrev pub IsF64 : List ℕ → ℕ → Type 0
IsF64 text bits = Made (λ piece. from_le_bytes w64 piece) (λ t piece. IsPiece 8 t piece) text bits

-- the prefix FC, the number that says which instruction it is, and what stands behind it
abbrev pub Prefixed : {X : Type 0} → ℕ → (List ℕ → X → Type 0) → List ℕ → X → Type 0
Prefixed second Spells text x = (number rest : List ℕ) × (text ≡ 0xFC ∷ (number ++ rest)) × IsU32 number second × Spells rest x

-- Section 5.4.7: a numeric instruction is its opcode, and with the prefix the number behind it
abbrev pub IsOpcode : List ℕ → ℕ → Option ℕ → Type 0
IsOpcode text byte None = text ≡ byte ∷ []
IsOpcode text byte (Some second) = Tagged byte (λ t n. IsU32 t n) text second

-- ---- the instructions

-- The bytes spell an instruction that holds no others and no vector.
abbrev pub IsPlain : List ℕ → Instr → Type 0
-- control (5.4.1)
IsPlain text instr.Unreachable = text ≡ 0x00 ∷ []
IsPlain text instr.Nop = text ≡ 0x01 ∷ []
IsPlain text (instr.Br label) = Tagged 0x0C (λ t n. IsU32 t n) text label
IsPlain text (instr.BrIf label) = Tagged 0x0D (λ t n. IsU32 t n) text label
IsPlain text instr.Return = text ≡ 0x0F ∷ []
IsPlain text (instr.Call function) = Tagged 0x10 (λ t n. IsU32 t n) text function
IsPlain text (instr.CallIndirect signature table) = Tagged 0x11 (λ t xy. Two t xy) text (signature, table)
-- references (5.4.2)
IsPlain text (instr.RefNull kind) = Tagged 0xD0 (λ t k. IsRefKind t k) text kind
IsPlain text instr.RefIsNull = text ≡ 0xD1 ∷ []
IsPlain text (instr.RefFunc function) = Tagged 0xD2 (λ t n. IsU32 t n) text function
-- parametric (5.4.3)
IsPlain text instr.Drop = text ≡ 0x1A ∷ []
IsPlain text instr.Select = text ≡ 0x1B ∷ []
-- variables (5.4.4)
IsPlain text (instr.LocalGet local) = Tagged 0x20 (λ t n. IsU32 t n) text local
IsPlain text (instr.LocalSet local) = Tagged 0x21 (λ t n. IsU32 t n) text local
IsPlain text (instr.LocalTee local) = Tagged 0x22 (λ t n. IsU32 t n) text local
IsPlain text (instr.GlobalGet global) = Tagged 0x23 (λ t n. IsU32 t n) text global
IsPlain text (instr.GlobalSet global) = Tagged 0x24 (λ t n. IsU32 t n) text global
-- tables (5.4.5)
IsPlain text (instr.TableGet table) = Tagged 0x25 (λ t n. IsU32 t n) text table
IsPlain text (instr.TableSet table) = Tagged 0x26 (λ t n. IsU32 t n) text table
IsPlain text (instr.TableInit segment table) = Prefixed 12 (λ t xy. Two t xy) text (segment, table)
IsPlain text (instr.ElemDrop segment) = Prefixed 13 (λ t n. IsU32 t n) text segment
IsPlain text (instr.TableCopy to from) = Prefixed 14 (λ t xy. Two t xy) text (to, from)
IsPlain text (instr.TableGrow table) = Prefixed 15 (λ t n. IsU32 t n) text table
IsPlain text (instr.TableSize table) = Prefixed 16 (λ t n. IsU32 t n) text table
IsPlain text (instr.TableFill table) = Prefixed 17 (λ t n. IsU32 t n) text table
-- memories (5.4.6)
IsPlain text (instr.Access op align offset memory) = Tagged (access_opcode_of op) (λ t m. IsMemArg t m) text (record { align = align; offset = offset; memory = memory })
IsPlain text (instr.MemorySize memory) = Tagged 0x3F (λ t m. IsZeroByte t m) text memory
IsPlain text (instr.MemoryGrow memory) = Tagged 0x40 (λ t m. IsZeroByte t m) text memory
IsPlain text (instr.MemoryInit segment memory) = Prefixed 8 (λ t xy. Both (λ t n. IsU32 t n) (λ t m. IsZeroByte t m) t xy) text (segment, memory)
IsPlain text (instr.DataDrop segment) = Prefixed 9 (λ t n. IsU32 t n) text segment
IsPlain text (instr.MemoryCopy to from) = Prefixed 10 (λ t xy. Both (λ t m. IsZeroByte t m) (λ t m. IsZeroByte t m) t xy) text (to, from)
IsPlain text (instr.MemoryFill memory) = Prefixed 11 (λ t m. IsZeroByte t m) text memory
-- numeric (5.4.7)
IsPlain text (instr.I32Const bits) = Tagged 0x41 (λ t n. IsI32 t n) text bits
IsPlain text (instr.I64Const bits) = Tagged 0x42 (λ t n. IsI64 t n) text bits
IsPlain text (instr.F32Const bits) = Tagged 0x43 (λ t n. IsF32 t n) text bits
IsPlain text (instr.F64Const bits) = Tagged 0x44 (λ t n. IsF64 t n) text bits
IsPlain text (instr.Num op) = IsOpcode text (opcode_of op).0 (opcode_of op).1
-- these hold others, or a vector
IsPlain text (instr.Block shape body) = ⊥
IsPlain text (instr.Loop shape body) = ⊥
IsPlain text (instr.If shape first second) = ⊥
IsPlain text (instr.BrTable first count last) = ⊥
IsPlain text (instr.SelectTyped first count) = ⊥

-- The bytes spell an instruction that holds no others; a br_table has its labels in it, and a select its types.
abbrev pub IsLeaf : List ℕ → Leaf → Type 0
IsLeaf text (Plain instr) = IsPlain text instr
IsLeaf text (TableBranch labels last) = Tagged 0x0E (λ t x. Both (λ t ls. IsVector (λ t n. IsU32 t n) t ls) (λ t n. IsU32 t n) t x) text (labels, last)
IsLeaf text (TypedSelect types) = Tagged 0x1C (λ t ts. IsVector (λ t type. IsValType t type) t ts) text types
