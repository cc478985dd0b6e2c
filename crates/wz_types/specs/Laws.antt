-- What holds of the tests on types and values (sections 2.3, 4.2.1 and 4.5.2 of the Core Specification), for the crates above.
use Rattle.std.specs.Prelude.{◌≡◌, ◌↔◌, ℕ, ◌<◌, ◌^◌, List, map, IsTrue}
use Rattle.wz_types.specs.declared.types.ValType.{ValType}
use Rattle.wz_types.specs.declared.types.RefKind.{RefKind}
use Rattle.wz_types.specs.declared.value.Sort.TheVariants as sort
use Rattle.wz_types.specs.declared.value.Reference.{Reference}
use Rattle.wz_types.specs.declared.value.Reference.TheVariants.{Fn, Foreign}
use Rattle.wz_types.specs.declared.value.Value.{Value}
use Rattle.wz_types.specs.declared.value.Value.TheVariants as value
use Rattle.wz_types.specs.FunctionType.{FunctionType}
use Rattle.wz_types.specs.SameType.{same_type, same_kind, same_types, same_function_type}
use Rattle.wz_types.specs.Fits.{type_of, Fits, all_fit}
use Rattle.wz_types.specs.Zeros.{zero_of, zeros_of}

-- ---- the tests of types are equality

abbrev pub SameType : Type 0
SameType = (a b : ValType) → IsTrue (same_type a b) ↔ (a ≡ b)

abbrev pub SameKind : Type 0
SameKind = (a b : RefKind) → IsTrue (same_kind a b) ↔ (a ≡ b)

abbrev pub SameTypes : Type 0
SameTypes = (one other : List ValType) → IsTrue (same_types one other) ↔ (one ≡ other)

abbrev pub SameFunctionType : Type 0
SameFunctionType = (a b : FunctionType) → IsTrue (same_function_type a b) ↔ (a ≡ b)

-- ---- what it is to fit

-- a number's bits are those of its width
abbrev pub HasWidth : Value → Type 0
HasWidth (value.I32 bits) = bits < 2 ^ 32
HasWidth (value.I64 bits) = bits < 2 ^ 64
HasWidth (value.F32 bits) = bits < 2 ^ 32
HasWidth (value.F64 bits) = bits < 2 ^ 64
HasWidth (value.Ref reference) = Unit {0}

-- the function that the reference is of is there, or the type that a foreign one has by number
abbrev pub ReferenceNamesThere : Reference → ℕ → ℕ → Type 0
ReferenceNamesThere (Fn index) functions types = index < functions
ReferenceNamesThere (Foreign id (sort.Func number)) functions types = number < types
ReferenceNamesThere reference functions types = Unit {0}

abbrev pub NamesThere : Value → ℕ → ℕ → Type 0
NamesThere (value.Ref reference) functions types = ReferenceNamesThere reference functions types
NamesThere value functions types = Unit {0}

-- a value fits a type exactly where it has that type, a number has its width, and what a reference names is there
pub record IsFitting (value : Value) (type : ValType) (functions types : ℕ) : Type 0 where
  pub has_type : type_of value ≡ type
  pub has_width : HasWidth value
  pub names_there : NamesThere value functions types

abbrev pub FitsExactly : Type 0
FitsExactly = (value : Value) (type : ValType) (functions types : ℕ) → Fits value type functions types ↔ IsFitting value type functions types

-- values that fit these types have them, so there are as many
abbrev pub AllFitHaveTypes : Type 0
AllFitHaveTypes = (values : List Value) (expected : List ValType) (functions types : ℕ) → IsTrue (all_fit values expected functions types)
    → map (λ value. type_of value) values ≡ expected

-- ---- default values

abbrev pub ZeroFits : Type 0
ZeroFits = (type : ValType) (functions types : ℕ) → Fits (zero_of type) type functions types

abbrev pub ZerosFit : Type 0
ZerosFit = (expected : List ValType) (functions types : ℕ) → IsTrue (all_fit (zeros_of expected) expected functions types)
