-- The instruction that stands in front of bytes, as a function of them, by the groups of section 5.4 of the Core Specification.
use Rattle.std.specs.Prelude.{ℕ, nat_lt, [], ◌∷◌, Option, Some, None, ◌==◌, if◌then◌else◌}
use Rattle.std.specs.Option.{option_map}
use Rattle.std.specs.Int.{w32, w64, cast_unsigned, from_le_bytes}
use Rattle.wz_bytes.specs.Reading.{◌>>=◌, Reading}
use Rattle.wz_bytes.specs.Unsigned.{unsigned_at}
use Rattle.wz_bytes.specs.Signed.{signed_at}
use Rattle.wz_bytes.specs.Forms.{byte_at, piece_at, both_at, made_at}
use Rattle.wz_code.specs.declared.instr.Instr.{Instr}
use Rattle.wz_code.specs.declared.instr.Instr.TheVariants as instr
use Rattle.wz_code.specs.Accesses.{access_at}
use Rattle.wz_code.specs.Numeric.{op_at}
use Rattle.wz_decode_code.specs.Types.{kind_at}

-- ---- what stands behind opcodes

abbrev pub u32_at : Reading ℕ
u32_at bytes = unsigned_at 32 bytes

abbrev pub two_at : Reading (ℕ × ℕ)
two_at bytes = both_at (λ b. u32_at b) (λ b. u32_at b) bytes

unfoldable pub zero_byte_at : Reading ℕ
zero_byte_at bytes = byte_at bytes >>= λ b. if b.0 == 0x00 then Some (0, b.1) else None

abbrev pub i32_at : Reading ℕ
i32_at bytes = made_at (λ z. cast_unsigned w32 z) (λ b. signed_at 32 b) bytes

abbrev pub i64_at : Reading ℕ
i64_at bytes = made_at (λ z. cast_unsigned w64 z) (λ b. signed_at 64 b) bytes

abbrev pub f32_at : Reading ℕ
f32_at bytes = made_at (λ piece. from_le_bytes w32 piece) (λ b. piece_at 4 b) bytes

abbrev pub f64_at : Reading ℕ
f64_at bytes = made_at (λ piece. from_le_bytes w64 piece) (λ b. piece_at 8 b) bytes

-- ---- instructions, behind their opcode

abbrev pub with_number : (ℕ → Instr) → Reading Instr
with_number f bytes = made_at f (λ b. u32_at b) bytes

abbrev pub with_two : (ℕ → ℕ → Instr) → Reading Instr
with_two f bytes = made_at (λ xy. f xy.0 xy.1) (λ b. two_at b) bytes

-- control (5.4.1)
unfoldable pub control_instr_at : ℕ → Reading Instr
control_instr_at b bytes =
    if b == 0x00 then Some (instr.Unreachable, bytes)
    else (if b == 0x01 then Some (instr.Nop, bytes)
    else (if b == 0x0C then with_number (λ n. instr.Br n) bytes
    else (if b == 0x0D then with_number (λ n. instr.BrIf n) bytes
    else (if b == 0x0F then Some (instr.Return, bytes)
    else (if b == 0x10 then with_number (λ n. instr.Call n) bytes
    else (if b == 0x11 then with_two (λ x y. instr.CallIndirect x y) bytes
    else None))))))

-- references (5.4.2)
unfoldable pub reference_instr_at : ℕ → Reading Instr
reference_instr_at b bytes =
    if b == 0xD0 then made_at (λ k. instr.RefNull k) (λ b. kind_at b) bytes
    else (if b == 0xD1 then Some (instr.RefIsNull, bytes)
    else (if b == 0xD2 then with_number (λ n. instr.RefFunc n) bytes
    else None))

-- parametric (5.4.3)
abbrev pub parametric_of : ℕ → Option Instr
parametric_of b =
    if b == 0x1A then Some instr.Drop
    else (if b == 0x1B then Some instr.Select
    else None)

-- variables (5.4.4)
unfoldable pub variable_instr_at : ℕ → Reading Instr
variable_instr_at b bytes =
    if b == 0x20 then with_number (λ n. instr.LocalGet n) bytes
    else (if b == 0x21 then with_number (λ n. instr.LocalSet n) bytes
    else (if b == 0x22 then with_number (λ n. instr.LocalTee n) bytes
    else (if b == 0x23 then with_number (λ n. instr.GlobalGet n) bytes
    else (if b == 0x24 then with_number (λ n. instr.GlobalSet n) bytes
    else None))))

-- tables (5.4.5)
unfoldable pub table_instr_at : ℕ → Reading Instr
table_instr_at b bytes =
    if b == 0x25 then with_number (λ n. instr.TableGet n) bytes
    else (if b == 0x26 then with_number (λ n. instr.TableSet n) bytes
    else None)

-- memories (5.4.6)
unfoldable pub access_instr_at : ℕ → Reading Instr
access_instr_at b bytes = access_at b >>= λ op. with_two (λ align offset. instr.Access op align offset 0) bytes

unfoldable pub memory_instr_at : ℕ → Reading Instr
memory_instr_at b bytes =
    if b == 0x3F then made_at (λ n. instr.MemorySize n) (λ b. zero_byte_at b) bytes
    else (if b == 0x40 then made_at (λ n. instr.MemoryGrow n) (λ b. zero_byte_at b) bytes
    else access_instr_at b bytes)

-- numeric (5.4.7)
unfoldable pub numeric_instr_at : ℕ → Reading Instr
numeric_instr_at b bytes =
    if b == 0x41 then made_at (λ n. instr.I32Const n) (λ b. i32_at b) bytes
    else (if b == 0x42 then made_at (λ n. instr.I64Const n) (λ b. i64_at b) bytes
    else (if b == 0x43 then made_at (λ n. instr.F32Const n) (λ b. f32_at b) bytes
    else (if b == 0x44 then made_at (λ n. instr.F64Const n) (λ b. f64_at b) bytes
    else (op_at b None >>= λ op. Some (instr.Num op, bytes)))))

-- ---- instructions with the prefix, behind the number that says which it is

abbrev pub prefixed_numeric_of : ℕ → Option Instr
prefixed_numeric_of n = op_at 0xFC (Some n) >>= λ op. Some (instr.Num op)

unfoldable pub prefixed_memory_at : ℕ → Reading Instr
prefixed_memory_at n bytes =
    if n == 8 then made_at (λ xy. instr.MemoryInit xy.0 xy.1) (λ b. both_at (λ b. u32_at b) (λ b. zero_byte_at b) b) bytes
    else (if n == 9 then with_number (λ x. instr.DataDrop x) bytes
    else (if n == 10 then made_at (λ xy. instr.MemoryCopy xy.0 xy.1) (λ b. both_at (λ b. zero_byte_at b) (λ b. zero_byte_at b) b) bytes
    else (if n == 11 then made_at (λ m. instr.MemoryFill m) (λ b. zero_byte_at b) bytes
    else None)))

unfoldable pub prefixed_table_at : ℕ → Reading Instr
prefixed_table_at n bytes =
    if n == 12 then with_two (λ x y. instr.TableInit x y) bytes
    else (if n == 13 then with_number (λ x. instr.ElemDrop x) bytes
    else (if n == 14 then with_two (λ x y. instr.TableCopy x y) bytes
    else (if n == 15 then with_number (λ x. instr.TableGrow x) bytes
    else (if n == 16 then with_number (λ x. instr.TableSize x) bytes
    else (if n == 17 then with_number (λ x. instr.TableFill x) bytes
    else None)))))

unfoldable pub prefixed_at : Reading Instr
prefixed_at bytes = u32_at bytes >>= λ n.
    if nat_lt n.0 8 then option_map (λ i. (i, n.1)) (prefixed_numeric_of n.0)
    else (if nat_lt n.0 12 then prefixed_memory_at n.0 n.1
    else prefixed_table_at n.0 n.1)

-- ---- all of them, by where their opcodes are

unfoldable pub instr_at : Reading Instr
instr_at [] = None
instr_at (b ∷ bytes) =
    if nat_lt b 0x1A then control_instr_at b bytes
    else (if nat_lt b 0x20 then option_map (λ i. (i, bytes)) (parametric_of b)
    else (if nat_lt b 0x25 then variable_instr_at b bytes
    else (if nat_lt b 0x28 then table_instr_at b bytes
    else (if nat_lt b 0x41 then memory_instr_at b bytes
    else (if nat_lt b 0xC5 then numeric_instr_at b bytes
    else (if nat_lt b 0xFC then reference_instr_at b bytes
    else (if b == 0xFC then prefixed_at bytes
    else None)))))))
