-- What the code goes by: the expressions of a valid module in the tool's profile, as they stand in bodies, are one constant instruction
-- each (section 3.3.10 of the Core Specification).
use Rattle.std.specs.Prelude.{◌≡◌, ℕ, ◌+◌, ◌-◌, ◌^◌, ◌<◌, List, [], ◌∷◌, ◌++◌, Option, Some, None, IsSome, IsSomeAnd, unwrap_or, map, length, slice_get}
use Rattle.std.specs.List.{All}
use Rattle.wz_types.specs.declared.types.RefKind.{RefKind}
use Rattle.wz_types.specs.declared.types.RefKind.TheVariants as kind
use Rattle.wz_types.specs.declared.value.Reference.{Reference}
use Rattle.wz_types.specs.declared.value.Reference.TheVariants.{Null, Fn}
use Rattle.wz_types.specs.declared.value.Value.{Value}
use Rattle.wz_types.specs.declared.value.Value.TheVariants as value
use Rattle.wz_code.specs.declared.instr.Instr.{Instr}
use Rattle.wz_code.specs.declared.instr.Instr.TheVariants.{I32Const, I64Const, F32Const, F64Const, RefNull, RefFunc}
use Rattle.wz_code.specs.BodyParts.{BodyParts, block_at}
use Rattle.wz_module.specs.declared.items.GlobalDef.{GlobalDef}
use Rattle.wz_module.specs.declared.items.ElemMode.{ElemMode}
use Rattle.wz_module.specs.declared.items.ElemMode.TheVariants as elem_mode
use Rattle.wz_module.specs.declared.items.ElemItems.{ElemItems}
use Rattle.wz_module.specs.declared.items.ElemItems.TheVariants.{Funcs, Exprs}
use Rattle.wz_module.specs.declared.items.Elem.{Elem}
use Rattle.wz_module.specs.declared.items.DataMode.{DataMode}
use Rattle.wz_module.specs.declared.items.DataMode.TheVariants as data_mode
use Rattle.wz_module.specs.declared.items.DataSegment.{DataSegment}
use Rattle.wz_module.specs.Views.{init_of}
use Rattle.wz_store.specs.State.{Global, Table, Memory, Element, StateOf}
use Rattle.wz_store.specs.Changes.{EmptyElement, applied}
use Rattle.wz_store.specs.Made.{StoredFunction, StoreState, new_global, new_element}
use Rattle.wz_init.specs.declared.faults.StartFault.{StartFault}
use Rattle.wz_init.specs.declared.faults.StartFault.TheVariants.{ElementOutOfBounds, DataOutOfBounds, NoMemory}
use Rattle.wz_init.specs.Constants.{number_in, reference_in}
use Rattle.wz_init.specs.Instances.{InstanceOf, Instance, ElementUnfit, DataUnfit, instance_then}
use Rattle.wz_init.specs.Instantiation.{element_copied, data_copied}

-- ---- expressions

-- of an instruction that isn't constant, none
abbrev pub instr_value : Instr → Option Value
instr_value (I32Const bits) = Some (value.I32 bits)
instr_value (I64Const bits) = Some (value.I64 bits)
instr_value (F32Const bits) = Some (value.F32 bits)
instr_value (F64Const bits) = Some (value.F64 bits)
instr_value (RefNull kind) = Some (value.Ref (Null kind))
instr_value (RefFunc function) = Some (value.Ref (Fn function))
instr_value instr = None

abbrev pub block_value : List Instr → Option Value
block_value [] = None
block_value (instr ∷ []) = instr_value instr
block_value (instr ∷ other ∷ rest) = None

abbrev pub plain_value : BodyParts → Option Value
plain_value body = block_value (block_at body.blocks 0)

abbrev pub plain_constant : BodyParts → Value
plain_constant body = unwrap_or (plain_value body) (value.I32 0)

abbrev pub plain_number : BodyParts → ℕ
plain_number body = unwrap_or (number_in (plain_value body)) 0

abbrev pub plain_reference : BodyParts → Reference
plain_reference body = unwrap_or (reference_in (plain_value body)) (Null kind.Func)

abbrev pub IsPlainConstant : BodyParts → Type 0
IsPlainConstant body = IsSome (plain_value body)

abbrev pub IsPlainNumber : BodyParts → Type 0
IsPlainNumber body = IsSome (number_in (plain_value body))

abbrev pub IsPlainReference : BodyParts → Type 0
IsPlainReference body = IsSome (reference_in (plain_value body))

-- ---- what is allocated for items

abbrev pub plain_global : GlobalDef → Global
plain_global g = new_global g.kind (plain_constant g.init)

abbrev pub plain_items : ElemItems → List Reference
plain_items (Funcs functions) = map Fn functions.items
plain_items (Exprs bodies) = map plain_reference bodies.items

abbrev pub ArePlainItems : ElemItems → Type 0
ArePlainItems (Funcs functions) = Unit {0}
ArePlainItems (Exprs bodies) = All (λ body. IsPlainReference body) bodies.items

abbrev pub plain_element : Elem → Element
plain_element e = new_element e.kind (plain_items e.items)

-- ---- more at the end of a list of a store

abbrev pub functions_behind : StoreState → List StoredFunction → StoreState
functions_behind s functions = record s { functions = s.functions ++ functions }

abbrev pub globals_behind : StoreState → List Global → StoreState
globals_behind s globals = record s { globals = s.globals ++ globals }

abbrev pub tables_behind : StoreState → List Table → StoreState
tables_behind s tables = record s { tables = s.tables ++ tables }

abbrev pub memories_behind : StoreState → List Memory → StoreState
memories_behind s memories = record s { memories = s.memories ++ memories }

abbrev pub elements_behind : StoreState → List Element → StoreState
elements_behind s elements = record s { elements = s.elements ++ elements }

abbrev pub datas_behind : StoreState → List (List ℕ) → StoreState
datas_behind s datas = record s { datas = s.datas ++ datas }

-- ---- element segments

abbrev pub plain_element_run : {F : Type 0} → ℕ → ℕ → ElemMode → StateOf F → InstanceOf F
plain_element_run index count elem_mode.Passive s = Instance s
plain_element_run index count (elem_mode.Active table offset) s = element_copied index table count (Some (plain_number offset)) s
plain_element_run index count elem_mode.Declarative s = Instance (applied (EmptyElement index) s)

abbrev pub plain_elements_run : {F : Type 0} → ℕ → List Elem → StateOf F → InstanceOf F
plain_elements_run index [] s = Instance s
plain_elements_run index (e ∷ elements) s =
    instance_then (λ now. plain_elements_run (index + 1) elements now) (plain_element_run index (length (init_of e.items)) e.mode s)

-- of an active one with this number the offset is a number, and the table is there and is of the segment's kind
abbrev pub IsElemModeReady : List RefKind → List RefKind → ℕ → ElemMode → Type 0
IsElemModeReady tables elements index elem_mode.Passive = Unit {0}
IsElemModeReady tables elements index (elem_mode.Active table offset) = IsPlainNumber offset × IsSomeAnd (slice_get elements index) (λ kind. slice_get tables table ≡ Some kind)
IsElemModeReady tables elements index elem_mode.Declarative = Unit {0}

pub record IsElemReady (tables elements : List RefKind) (index : ℕ) (e : Elem) : Type 0 where
  pub short : length (init_of e.items) < 2 ^ 32 - 1
  pub mode : IsElemModeReady tables elements index e.mode

abbrev pub table_kinds : {F : Type 0} → StateOf F → List RefKind
table_kinds s = map (λ table. table.kind) s.tables

abbrev pub element_kinds : {F : Type 0} → StateOf F → List RefKind
element_kinds s = map (λ element. element.kind) s.elements

abbrev pub AreElemsReady : {F : Type 0} → StateOf F → List Elem → Type 0
AreElemsReady s elements = (index : ℕ) (e : Elem) → slice_get elements index ≡ Some e → IsElemReady (table_kinds s) (element_kinds s) index e

-- ---- data segments

abbrev pub plain_data_run : {F : Type 0} → ℕ → ℕ → DataMode → StateOf F → InstanceOf F
plain_data_run index count data_mode.Passive s = Instance s
plain_data_run index count (data_mode.Active memory offset) s = data_copied index memory count (Some (plain_number offset)) s

abbrev pub plain_datas_run : {F : Type 0} → ℕ → List DataSegment → StateOf F → InstanceOf F
plain_datas_run index [] s = Instance s
plain_datas_run index (segment ∷ segments) s =
    instance_then (λ now. plain_datas_run (index + 1) segments now) (plain_data_run index (length segment.bytes.now) segment.mode s)

abbrev pub IsDataModeReady : ℕ → ℕ → ℕ → DataMode → Type 0
IsDataModeReady memories datas index data_mode.Passive = Unit {0}
IsDataModeReady memories datas index (data_mode.Active memory offset) = IsPlainNumber offset × (memory < memories) × (index < datas)

pub record IsDataReady (memories datas index : ℕ) (segment : DataSegment) : Type 0 where
  pub short : length segment.bytes.now < 2 ^ 32 - 1
  pub mode : IsDataModeReady memories datas index segment.mode

abbrev pub AreDatasReady : {F : Type 0} → StateOf F → List DataSegment → Type 0
AreDatasReady s segments = (index : ℕ) (segment : DataSegment) → slice_get segments index ≡ Some segment
    → IsDataReady (length s.memories) (length s.datas) index segment

-- ---- answers

-- the fault that instantiation comes to; want of memory has no cause in the module
abbrev pub IsUnfit : {F : Type 0} → InstanceOf F → StartFault → Type 0
IsUnfit made (ElementOutOfBounds index) = made ≡ ElementUnfit index
IsUnfit made (DataOutOfBounds index) = made ≡ DataUnfit index
IsUnfit made NoMemory = Unit {0}
