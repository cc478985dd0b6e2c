-- Section 3.3 of the Core Specification: operand types, which are value types and one that fits any, and stacks of them.
use Rattle.std.specs.Prelude.{◌≡◌, List, [], ◌∷◌, Option, Some, None, Bool, true, false, IsTrue}
use Rattle.wz_types.specs.declared.types.ValType.{ValType}
use Rattle.wz_types.specs.declared.types.ValType.TheVariants.{I32, I64, F32, F64, FuncRef, ExternRef}
use Rattle.wz_types.specs.SameType.{same_type}

-- an operand's type: None is `any`, which only code behind an unconditional branch can have
abbrev pub Operand : Type 0
Operand = Option ValType

-- operand types, the last pushed first
abbrev pub Operands : Type 0
Operands = List (Option ValType)

-- `any` fits every type that is asked for
abbrev pub fits : Operand → ValType → Bool
fits None asked = true
fits (Some found) asked = same_type found asked

-- a number type; section 2.3.1
abbrev pub is_numeric : Operand → Bool
is_numeric None = true
is_numeric (Some I32) = true
is_numeric (Some I64) = true
is_numeric (Some F32) = true
is_numeric (Some F64) = true
is_numeric (Some FuncRef) = false
is_numeric (Some ExternRef) = false

-- a reference type; section 2.3.3
abbrev pub is_reference : Operand → Bool
is_reference None = true
is_reference (Some FuncRef) = true
is_reference (Some ExternRef) = true
is_reference (Some type) = false

-- operands that fit these types, the first of which is asked for first, stand on `below`
abbrev pub Takes : List ValType → Operands → Operands → Type 0
Takes [] stack below = stack ≡ below
Takes (type ∷ types) [] below = ⊥
Takes (type ∷ types) (found ∷ stack) below = IsTrue (fits found type) × Takes types stack below

-- these types, pushed one after another
abbrev pub pushed : List ValType → Operands → Operands
pushed [] stack = stack
pushed (type ∷ types) stack = pushed types (Some type ∷ stack)

-- the operand's type as that of a result: `any` may be any type
abbrev pub Becomes : Operand → Operand → Type 0
Becomes None result = Unit {0}
Becomes (Some type) result = result ≡ Some type
