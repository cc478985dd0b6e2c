-- Sections 3.4.1 to 3.4.9 of the Core Specification: when a single item of a module is ok.
use Rattle.std.specs.Prelude.{◌≡◌, ℕ, ◌+◌, ◌<◌, [], ◌∷◌, length, take, slice_get, IsSomeAnd, Some}
use Rattle.std.specs.List.{All}
use Rattle.wz_types.specs.declared.types.ValType.TheVariants.{I32}
use Rattle.wz_types.specs.declared.types.TableType.{TableType}
use Rattle.wz_types.specs.FunctionType.{FunctionType}
use Rattle.wz_types.specs.Fits.{type_of_kind}
use Rattle.wz_valid_code.specs.Context.{TypingContext, scope_of, function_type}
use Rattle.wz_valid_code.specs.Typing.{IsTyped, IsConstant}
use Rattle.wz_module.specs.declared.items.ImportKind.{ImportKind}
use Rattle.wz_module.specs.declared.items.ImportKind.TheVariants as kind
use Rattle.wz_module.specs.declared.items.ExportTarget.{ExportTarget}
use Rattle.wz_module.specs.declared.items.ExportTarget.TheVariants as target
use Rattle.wz_module.specs.Functions.{BodyTree}
use Rattle.wz_module.specs.Globals.{GlobalDef}
use Rattle.wz_module.specs.Exports.{Export}
use Rattle.wz_module.specs.Elements.{ElemMode, PassiveElem, ActiveElem, DeclarativeElem, Elem}
use Rattle.wz_module.specs.Datas.{DataMode, PassiveData, ActiveData}
use Rattle.wz_module.specs.Module.{Module}
use Rattle.wz_valid.specs.Indices.{imported_memories, all_tables}
use Rattle.wz_valid.specs.Contexts.{context_of, globals_context_of}
use Rattle.wz_valid.specs.Limits.{IsTableOk, IsMemoryOk}

-- ---- 3.4.9, imports: what is asked for is a type; and no import makes a second memory (3.4.10), where `memories` are those so far

abbrev pub IsImportOk : Module → ℕ → ImportKind → Type 0
IsImportOk m memories (kind.Func type) = type < length m.types
IsImportOk m memories (kind.Table type) = IsTableOk type
IsImportOk m memories (kind.Memory type) = IsMemoryOk type × (memories ≡ 0)
IsImportOk m memories (kind.Global type) = Unit {0}

-- ---- 3.4.1, functions: its type is there, and so is its body, which is looked at as an item of its own

abbrev pub IsFunctionOk : Module → ℕ → ℕ → Type 0
IsFunctionOk m index type = (type < length m.types) × (index < length m.bodies)

-- a body of a function of this type is typed
abbrev pub IsTreeTyped : TypingContext → FunctionType → BodyTree → Type 0
IsTreeTyped context type body = IsTyped (scope_of context type body.0) (type.results ∷ []) body.1 [] type.results

-- the function of a body's number is there, and the body is one of its type
abbrev pub IsBodyOk : Module → ℕ → BodyTree → Type 0
IsBodyOk m index body = IsSomeAnd (slice_get m.functions index) (λ type.
    IsSomeAnd (slice_get m.types type) (λ signature. IsTreeTyped (context_of m) signature body))

-- ---- 3.4.3, memories: it is the only one (3.4.10)

abbrev pub IsOnlyMemory : Module → ℕ → Type 0
IsOnlyMemory m index = length (imported_memories m.imports) + index ≡ 0

-- ---- 3.4.4, globals

abbrev pub IsGlobalOk : Module → GlobalDef → Type 0
IsGlobalOk m global = IsConstant (globals_context_of m) global.init global.kind.value

-- ---- 3.4.8, exports: what it names is there, and no earlier export has its name (3.4.10)

abbrev pub IsTarget : Module → ExportTarget → Type 0
IsTarget m (target.Func index) = index < length (context_of m).functions
IsTarget m (target.Table index) = index < length (context_of m).tables
IsTarget m (target.Memory index) = index < (context_of m).memories
IsTarget m (target.Global index) = index < length (context_of m).globals

abbrev pub IsExportOk : Module → ℕ → Export → Type 0
IsExportOk m index e = IsTarget m e.target × All (λ earlier. earlier.name ≡ e.name → ⊥) (take index m.exports)

-- ---- 3.4.7, the start: a function without parameters and results

abbrev pub IsStartOk : Module → ℕ → Type 0
IsStartOk m function = function_type (context_of m) function ≡ Some (record { params = []; results = [] })

-- ---- 3.4.5, element segments

abbrev pub HasKind : Elem → TableType → Type 0
HasKind e table = table.kind ≡ e.kind

abbrev pub IsElemModeOk : Module → Elem → ElemMode → Type 0
IsElemModeOk m e PassiveElem = Unit {0}
IsElemModeOk m e (ActiveElem table offset) = IsSomeAnd (slice_get (all_tables m) table) (λ type. HasKind e type) × IsConstant (context_of m) offset I32
IsElemModeOk m e DeclarativeElem = Unit {0}

abbrev pub IsElemOk : Module → Elem → Type 0
IsElemOk m e = All (λ init. IsConstant (context_of m) init (type_of_kind e.kind)) e.init × IsElemModeOk m e e.mode

-- ---- 3.4.6, data segments

abbrev pub IsDataModeOk : Module → DataMode → Type 0
IsDataModeOk m PassiveData = Unit {0}
IsDataModeOk m (ActiveData memory offset) = (memory < (context_of m).memories) × IsConstant (context_of m) offset I32
