-- Sections 5.3 and 5.4.1 of the Core Specification: types of values and references, and of blocks.
use Rattle.std.specs.Prelude.{◌≡◌, ℕ, ℤ, pos, negsuc, List, [], ◌∷◌, Option, Some, None, ◌==◌, if◌then◌else◌}
use Rattle.wz_bytes.specs.Reading.{◌>>=◌, Reading}
use Rattle.wz_bytes.specs.Signed.{IsSigned, signed_at}
use Rattle.wz_types.specs.declared.types.ValType.{ValType}
use Rattle.wz_types.specs.declared.types.ValType.TheVariants.{I32, I64, F32, F64, FuncRef, ExternRef}
use Rattle.wz_types.specs.declared.types.RefKind.{RefKind}
use Rattle.wz_types.specs.declared.types.RefKind.TheVariants as kind
use Rattle.wz_code.specs.declared.instr.Shape.{Shape}
use Rattle.wz_code.specs.declared.instr.Shape.TheVariants.{Empty, One, Index}

-- ---- types of values, each of which is one byte

abbrev pub type_byte : ValType → ℕ
type_byte I32 = 0x7F
type_byte I64 = 0x7E
type_byte F32 = 0x7D
type_byte F64 = 0x7C
type_byte FuncRef = 0x70
type_byte ExternRef = 0x6F

abbrev pub IsValType : List ℕ → ValType → Type 0
IsValType text type = text ≡ type_byte type ∷ []

abbrev pub kind_byte : RefKind → ℕ
kind_byte kind.Func = 0x70
kind_byte kind.Extern = 0x6F

abbrev pub IsRefKind : List ℕ → RefKind → Type 0
IsRefKind text kind = text ≡ kind_byte kind ∷ []

-- ---- types of blocks: nothing, the type of one value, or a type's number, which is signed and not negative

abbrev pub IsShape : List ℕ → Shape → Type 0
IsShape text Empty = text ≡ 0x40 ∷ []
IsShape text (One type) = IsValType text type
IsShape text (Index number) = IsSigned 33 text (pos number)

-- ---- what stands in front of bytes

abbrev pub type_of_byte : ℕ → Option ValType
type_of_byte b =
    if b == 0x7F then Some I32
    else (if b == 0x7E then Some I64
    else (if b == 0x7D then Some F32
    else (if b == 0x7C then Some F64
    else (if b == 0x70 then Some FuncRef
    else (if b == 0x6F then Some ExternRef
    else None)))))

unfoldable pub type_at : Reading ValType
type_at [] = None
type_at (b ∷ bytes) = type_of_byte b >>= λ type. Some (type, bytes)

abbrev pub kind_of_byte : ℕ → Option RefKind
kind_of_byte b =
    if b == 0x70 then Some kind.Func
    else (if b == 0x6F then Some kind.Extern
    else None)

unfoldable pub kind_at : Reading RefKind
kind_at [] = None
kind_at (b ∷ bytes) = kind_of_byte b >>= λ kind. Some (kind, bytes)

abbrev pub index_of : ℤ → Option Shape
index_of (pos number) = Some (Index number)
index_of (negsuc n) = None

-- the number of a type
abbrev pub index_at : Reading Shape
index_at bytes = signed_at 33 bytes >>= λ z. index_of z.0 >>= λ shape. Some (shape, z.1)

abbrev pub one_or_index : Option (ValType × List ℕ) → Reading Shape
one_or_index (Some type) bytes = Some (One type.0, type.1)
one_or_index None bytes = index_at bytes

unfoldable pub shape_at : Reading Shape
shape_at [] = None
shape_at (b ∷ bytes) = if b == 0x40 then Some (Empty, bytes) else one_or_index (type_at (b ∷ bytes)) (b ∷ bytes)
