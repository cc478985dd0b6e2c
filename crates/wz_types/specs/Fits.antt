-- Sections 4.2.1 (values) and 4.5.2 (value typing) of the Core Specification: the type of a value, and when a value fits a type.
use Rattle.std.specs.Prelude.{ℕ, ◌^◌, nat_lt, List, [], ◌∷◌, Bool, true, false, IsTrue, ◌&&◌}
use Rattle.wz_types.specs.declared.types.ValType.{ValType}
use Rattle.wz_types.specs.declared.types.ValType.TheVariants as valtype
use Rattle.wz_types.specs.declared.types.RefKind.{RefKind}
use Rattle.wz_types.specs.declared.types.RefKind.TheVariants as kind
use Rattle.wz_types.specs.declared.value.Sort.{Sort}
use Rattle.wz_types.specs.declared.value.Sort.TheVariants as sort
use Rattle.wz_types.specs.declared.value.Reference.{Reference}
use Rattle.wz_types.specs.declared.value.Reference.TheVariants.{Null, Fn, Foreign}
use Rattle.wz_types.specs.declared.value.Value.{Value}
use Rattle.wz_types.specs.declared.value.Value.TheVariants as value
use Rattle.wz_types.specs.SameType.{same_type}

-- ---- the type that a value has, if it is one at all

abbrev pub type_of_kind : RefKind → ValType
type_of_kind kind.Func = valtype.FuncRef
type_of_kind kind.Extern = valtype.ExternRef

abbrev pub kind_of_sort : Sort → RefKind
kind_of_sort sort.Extern = kind.Extern
kind_of_sort (sort.Func type) = kind.Func
kind_of_sort sort.OtherFunc = kind.Func

abbrev pub kind_of : Reference → RefKind
kind_of (Null kind) = kind
kind_of (Fn index) = kind.Func
kind_of (Foreign id sort) = kind_of_sort sort

abbrev pub type_of : Value → ValType
type_of (value.I32 bits) = valtype.I32
type_of (value.I64 bits) = valtype.I64
type_of (value.F32 bits) = valtype.F32
type_of (value.F64 bits) = valtype.F64
type_of (value.Ref reference) = type_of_kind (kind_of reference)

-- ---- when a value fits a type, where there are so many functions and so many types

-- something of the host: an object for externref, a function for funcref, whose type may be one of those that are there
abbrev pub sort_fits : Sort → ValType → ℕ → Bool
sort_fits sort.Extern type types = same_type type valtype.ExternRef
sort_fits (sort.Func number) type types = same_type type valtype.FuncRef && nat_lt number types
sort_fits sort.OtherFunc type types = same_type type valtype.FuncRef

-- null of the type's kind, a function that is there, or something of the host
abbrev pub reference_fits : Reference → ValType → ℕ → ℕ → Bool
reference_fits (Null kind) type functions types = same_type type (type_of_kind kind)
reference_fits (Fn index) type functions types = same_type type valtype.FuncRef && nat_lt index functions
reference_fits (Foreign id sort) type functions types = sort_fits sort type types

-- a number of the type, of its width, or such a reference
abbrev pub value_fits : Value → ValType → ℕ → ℕ → Bool
value_fits (value.I32 bits) type functions types = same_type type valtype.I32 && nat_lt bits (2 ^ 32)
value_fits (value.I64 bits) type functions types = same_type type valtype.I64 && nat_lt bits (2 ^ 64)
value_fits (value.F32 bits) type functions types = same_type type valtype.F32 && nat_lt bits (2 ^ 32)
value_fits (value.F64 bits) type functions types = same_type type valtype.F64 && nat_lt bits (2 ^ 64)
value_fits (value.Ref reference) type functions types = reference_fits reference type functions types

abbrev pub Fits : Value → ValType → ℕ → ℕ → Type 0
Fits value type functions types = IsTrue (value_fits value type functions types)

-- as many values as types, each of which fits its type
abbrev pub all_fit : List Value → List ValType → ℕ → ℕ → Bool
all_fit [] [] functions types = true
all_fit (value ∷ values) (type ∷ expected) functions types = value_fits value type functions types && all_fit values expected functions types
all_fit values expected functions types = false
