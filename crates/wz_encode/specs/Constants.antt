-- Sections 5.4.1, 5.4.2, 5.4.7 and 5.4.9 of the Core Specification: the constant instruction that gives a value, and how it is written.
use Rattle.std.specs.Prelude.{ℕ, List, [], ◌∷◌, ◌++◌}
use Rattle.std.specs.Int.{w32, w64, cast_signed, to_le_bytes}
use Rattle.wz_bytes.specs.Shortest.{shortest_unsigned, shortest_signed}
use Rattle.wz_types.specs.declared.value.Reference.TheVariants.{Null, Fn, Foreign}
use Rattle.wz_types.specs.declared.value.Value.{Value}
use Rattle.wz_types.specs.declared.value.Value.TheVariants.{I32, I64, F32, F64, Ref}
use Rattle.wz_code.specs.declared.instr.Instr.TheVariants as instr
use Rattle.wz_code.specs.Trees.{Code, Then, End, Plain}
use Rattle.wz_decode_code.specs.Types.{kind_byte}

-- The expression of one instruction that gives the value. What the host has is given by none.
abbrev pub constant_code : Value → Code
constant_code (I32 bits) = Then (Plain (instr.I32Const bits)) End
constant_code (I64 bits) = Then (Plain (instr.I64Const bits)) End
constant_code (F32 bits) = Then (Plain (instr.F32Const bits)) End
constant_code (F64 bits) = Then (Plain (instr.F64Const bits)) End
constant_code (Ref (Null kind)) = Then (Plain (instr.RefNull kind)) End
constant_code (Ref (Fn index)) = Then (Plain (instr.RefFunc index)) End
constant_code (Ref (Foreign id sort)) = End

-- instr ::= 0x41 n:i32 | 0x42 n:i64 | 0x43 z:f32 | 0x44 z:f64 | 0xD0 t:reftype | 0xD2 x:funcidx
abbrev pub constant_text : Value → List ℕ
constant_text (I32 bits) = 0x41 ∷ shortest_signed (cast_signed w32 bits)
constant_text (I64 bits) = 0x42 ∷ shortest_signed (cast_signed w64 bits)
constant_text (F32 bits) = 0x43 ∷ to_le_bytes w32 bits
constant_text (F64 bits) = 0x44 ∷ to_le_bytes w64 bits
constant_text (Ref (Null kind)) = 0xD0 ∷ kind_byte kind ∷ []
constant_text (Ref (Fn index)) = 0xD2 ∷ shortest_unsigned index
constant_text (Ref (Foreign id sort)) = []

-- expr ::= instr* 0x0B
abbrev pub constant_expression_text : Value → List ℕ
constant_expression_text value = constant_text value ++ 0x0B ∷ []
