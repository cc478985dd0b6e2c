-- Sections 4.2.3 (store) and 4.2.6 (function instances) of the Core Specification: the state that terms run on.
use Rattle.std.specs.Prelude.{ℕ, List, Option, Some, None, map, length, slice_get}
use Rattle.wz_types.specs.declared.types.ValType.{ValType}
use Rattle.wz_types.specs.declared.types.RefKind.{RefKind}
use Rattle.wz_types.specs.declared.types.GlobalType.{GlobalType}
use Rattle.wz_types.specs.FunctionType.{FunctionType}
use Rattle.wz_code.specs.BodyParts.{BodyParts}
use Rattle.wz_code.specs.Trees.{Code, tree_of}
use Rattle.wz_valid_code.specs.Context.{locals_of_runs}
use Rattle.wz_store.specs.declared.function.Function.{Function}
use Rattle.wz_store.specs.declared.function.Function.TheVariants as stored
use Rattle.wz_store.specs.State.{Global, Table, Memory, Element, StateOf}

-- What a function does: the types of its locals that are no parameters, and its instructions; what the host does at its import of
-- this number; or nothing at all, where the number of its body is out of range.
pub data FunctionBody : Type 0 where
  OwnBody : List ValType → Code → FunctionBody
  ImportedBody : ℕ → FunctionBody
  NoBody : FunctionBody

-- a function: the number of its type, and what it does
pub record FunctionInstance : Type 0 where
  pub signature : ℕ
  pub body : FunctionBody

-- what an instance holds, its functions with their instructions
abbrev pub State : Type 0
State = StateOf FunctionInstance

-- ---- what of a state lasts

-- types, functions, the types of globals, the kinds and maxima of tables, the maxima of memories, the kinds of element segments, and
-- the number of data segments; and with each list the number of its items
pub record LastingParts : Type 0 where
  pub types : List FunctionType
  pub functions : List FunctionInstance
  pub globals : List GlobalType
  pub table_kinds : List RefKind
  pub table_maxima : List (Option ℕ)
  pub memory_maxima : List (Option ℕ)
  pub element_kinds : List RefKind
  pub datas : ℕ

abbrev pub lasting_parts : State → LastingParts
lasting_parts s = record {
  types = s.types;
  functions = s.functions;
  globals = map (λ (global : Global). global.type) s.globals;
  table_kinds = map (λ (table : Table). table.kind) s.tables;
  table_maxima = map (λ (table : Table). table.maximum) s.tables;
  memory_maxima = map (λ (memory : Memory). memory.maximum) s.memories;
  element_kinds = map (λ (element : Element). element.kind) s.elements;
  datas = length s.datas;
}

-- ---- functions that can be called

-- a function's type and what it does, where both are there
pub record Callable : Type 0 where
  pub type : FunctionType
  pub body : FunctionBody

abbrev pub callable_of : Option FunctionType → FunctionBody → Option Callable
callable_of None body = None
callable_of (Some type) NoBody = None
callable_of (Some type) (OwnBody locals code) = Some (record { type = type; body = OwnBody locals code })
callable_of (Some type) (ImportedBody number) = Some (record { type = type; body = ImportedBody number })

abbrev pub callable_from : List FunctionType → Option FunctionInstance → Option Callable
callable_from types None = None
callable_from types (Some function) = callable_of (slice_get types function.signature) function.body

-- The function of this number. One whose type or body isn't there keeps its place, and counts as none.
abbrev pub callable_at : List FunctionType → List FunctionInstance → ℕ → Option Callable
callable_at types functions index = callable_from types (slice_get functions index)

-- ---- the state that a store and a list of bodies are together

abbrev pub body_from : Option BodyParts → FunctionBody
body_from None = NoBody
body_from (Some body) = OwnBody (locals_of_runs body.locals) (tree_of body 0)

abbrev pub instance_of : List BodyParts → Function → FunctionInstance
instance_of bodies (stored.Own signature body) = record { signature = signature; body = body_from (slice_get bodies body) }
instance_of bodies (stored.Import signature import) = record { signature = signature; body = ImportedBody import }

abbrev pub state_of : List BodyParts → StateOf Function → State
state_of bodies store = record {
  types = store.types;
  functions = map (λ function. instance_of bodies function) store.functions;
  globals = store.globals;
  tables = store.tables;
  memories = store.memories;
  elements = store.elements;
  datas = store.datas;
}
