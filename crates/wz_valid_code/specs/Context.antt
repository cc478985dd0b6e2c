-- Section 3.1 of the Core Specification: what instructions may name, each with its type.
use Rattle.std.specs.Prelude.{is_some, ℕ, ◌<◌, List, [], ◌∷◌, ◌++◌, Option, Some, None, Bool, true, false, ◌&&◌, if◌then◌else◌, nat_lt, slice_get, length, replicate, All}
use Rattle.wz_types.specs.declared.types.ValType.{ValType}
use Rattle.wz_types.specs.declared.types.RefKind.{RefKind}
use Rattle.wz_types.specs.declared.types.RefKind.TheVariants as kind
use Rattle.wz_types.specs.declared.types.GlobalType.{GlobalType}
use Rattle.wz_types.specs.FunctionType.{FunctionType}
use Rattle.wz_types.specs.SameType.{same_kind}
use Rattle.wz_code.specs.declared.instr.Shape.{Shape}
use Rattle.wz_code.specs.declared.instr.Shape.TheVariants.{Empty, One, Index}
use Rattle.wz_code.specs.References.{has_number}

-- What a module has, imports first; beside each part what it is of the standard's context C. What a run changes, as the sizes of
-- tables and memories, is no part of it.
pub record TypingContext : Type 0 where
  pub types : List FunctionType  -- C.types
  pub functions : List ℕ  -- C.funcs, each by the number of its type among C.types
  pub tables : List RefKind  -- C.tables, of each the type of its references; no rule asks for the limits
  pub memories : ℕ  -- how many C.mems has; no rule asks for more
  pub globals : List GlobalType  -- C.globals
  pub imported_globals : ℕ  -- how many of them are imported: the C.globals of constant expressions
  pub elements : List RefKind  -- C.elems
  pub datas : ℕ  -- how many C.datas has
  pub declared : List ℕ  -- C.refs

-- every function's type is there
abbrev pub HasTypes : TypingContext → Type 0
HasTypes context = All (λ number. number < length context.types) context.functions

-- a function's body in a module
pub record Scope : Type 0 where
  pub context : TypingContext
  pub locals : List ValType  -- C.locals, parameters first
  pub results : List ValType  -- C.return

-- C.labels: the types that a branch to each label takes along, the innermost label first
abbrev pub Labels : Type 0
Labels = List (List ValType)

-- the locals that these runs stand for: so many of one type, and so on
abbrev pub locals_of_runs : List (ℕ × ValType) → List ValType
locals_of_runs [] = []
locals_of_runs (run ∷ runs) = replicate run.0 run.1 ++ locals_of_runs runs

-- what is in a body of a function of this type
abbrev pub scope_of : TypingContext → FunctionType → List (ℕ × ValType) → Scope
scope_of context type runs = record { context = context; locals = type.params ++ locals_of_runs runs; results = type.results }

-- ---- lookups

-- a block's type
abbrev pub shape_type : TypingContext → Shape → Option FunctionType
shape_type context Empty = Some (record { params = []; results = [] })
shape_type context (One type) = Some (record { params = []; results = type ∷ [] })
shape_type context (Index number) = slice_get context.types number

abbrev pub type_by_number : TypingContext → Option ℕ → Option FunctionType
type_by_number context None = None
type_by_number context (Some number) = slice_get context.types number

-- a function's type
abbrev pub function_type : TypingContext → ℕ → Option FunctionType
function_type context function = type_by_number context (slice_get context.functions function)

abbrev pub is_function_kind : Option RefKind → Bool
is_function_kind None = false
is_function_kind (Some kind.Func) = true
is_function_kind (Some kind.Extern) = false

abbrev pub is_one_kind : Option RefKind → Option RefKind → Bool
is_one_kind (Some a) (Some b) = same_kind a b
is_one_kind a b = false

-- the type of a global that may be set
abbrev pub type_to_set : Option GlobalType → Option ValType
type_to_set None = None
type_to_set (Some global) = if global.mutable then Some global.value else None

abbrev pub if_constant : Option GlobalType → Option ValType
if_constant None = None
if_constant (Some global) = if global.mutable then None else Some global.value

-- the type of a global that a constant expression may read: an imported one that is never set
abbrev pub constant_global : TypingContext → ℕ → Option ValType
constant_global context index = if nat_lt index context.imported_globals then if_constant (slice_get context.globals index) else None

-- a function that is there, and of which a reference may be made
abbrev pub may_refer : TypingContext → ℕ → Bool
may_refer context function = is_some (slice_get context.functions function) && has_number function context.declared
