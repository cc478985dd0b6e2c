-- Section 5.3.10 of the Core Specification: the types of globals.
use Rattle.std.specs.Prelude.{◌≡◌, Bool, true, false, [], ◌∷◌, Some, None, if◌then◌else◌, ◌==◌}
use Rattle.wz_bytes.specs.Reading.{Form, Reading}
use Rattle.wz_bytes.specs.Forms.{Both, both_at, Made, made_at}
use Rattle.wz_types.specs.declared.types.ValType.{ValType}
use Rattle.wz_types.specs.declared.types.GlobalType.{GlobalType}
use Rattle.wz_decode_code.specs.Types.{IsValType, type_at}

-- mut ::= 0x00 (constant) | 0x01 (mutable)
abbrev pub IsMutable : Form Bool
IsMutable text false = text ≡ 0x00 ∷ []
IsMutable text true = text ≡ 0x01 ∷ []

abbrev pub global_type_from : ValType × Bool → GlobalType
global_type_from x = record { value = x.0; mutable = x.1 }

-- globaltype ::= valtype mut
abbrev pub IsGlobalType : Form GlobalType
IsGlobalType text type = Made (λ x. global_type_from x) (Both (λ t type. IsValType t type) (λ t m. IsMutable t m)) text type

-- ---- what stands in front of bytes

abbrev pub mutable_at : Reading Bool
mutable_at [] = None
mutable_at (b ∷ bytes) = if b == 0x00 then Some (false, bytes) else (if b == 0x01 then Some (true, bytes) else None)

abbrev pub global_type_at : Reading GlobalType
global_type_at bytes = made_at (λ x. global_type_from x) (λ b. both_at (λ b. type_at b) (λ b. mutable_at b) b) bytes
