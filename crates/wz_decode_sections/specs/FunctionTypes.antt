-- Sections 5.3.5 and 5.3.6 of the Core Specification: the types of functions.
use Rattle.std.specs.Prelude.{ℕ, List, None, if◌then◌else◌, ◌==◌}
use Rattle.wz_bytes.specs.Reading.{Form, Reading}
use Rattle.wz_bytes.specs.Forms.{IsByte, byte_at, Both, both_at, made_at, IsVector, vector_at, switch_at}
use Rattle.wz_types.specs.declared.types.ValType.{ValType}
use Rattle.wz_types.specs.FunctionType.{FunctionType}
use Rattle.wz_decode_code.specs.Types.{IsValType, type_at}
use Rattle.wz_decode_sections.specs.Productions.{Production}

-- resulttype ::= vec(valtype)
abbrev pub IsResultType : Form (List ValType)
IsResultType text types = IsVector (λ t type. IsValType t type) text types

abbrev pub function_type_from : List ValType × List ValType → FunctionType
function_type_from x = record { params = x.0; results = x.1 }

-- functype ::= 0x60 resulttype resulttype
abbrev pub IsFuncType : Form FunctionType
IsFuncType text type = Production IsByte 0x60 (λ x. function_type_from x) (Both (λ t ts. IsResultType t ts) (λ t ts. IsResultType t ts)) text type

-- ---- what stands in front of bytes

abbrev pub result_type_at : Reading (List ValType)
result_type_at bytes = vector_at (λ b. type_at b) bytes

abbrev pub func_type_rows : ℕ → Reading FunctionType
func_type_rows tag bytes = if tag == 0x60 then made_at (λ x. function_type_from x) (λ b. both_at (λ b. result_type_at b) (λ b. result_type_at b) b) bytes else None

abbrev pub func_type_at : Reading FunctionType
func_type_at bytes = switch_at byte_at (λ tag b. func_type_rows tag b) bytes
