-- The lists of a store that are filled one after another are what is allocated.
use Rattle.std.proofs.Common.{◌≡◌, ℕ, ◌+◌, ◌<◌, List, [], ◌∷◌, ◌++◌, Option, Some, length, map, option_map, option_and_then, refl, sym, ap, ◌∙◌, arith, length-append}
use Rattle.wz_types.specs.FunctionType.{FunctionType}
use Rattle.wz_types.specs.declared.types.TableType.{TableType}
use Rattle.wz_types.specs.declared.types.MemType.{MemType}
use Rattle.wz_module.specs.declared.items.DataSegment as code_data
use Rattle.wz_module.specs.Imports.{Import}
use Rattle.wz_module.specs.Datas.{DataSegment}
use Rattle.wz_module.specs.Module.{Module}
use Rattle.wz_module.specs.Views.{data_of}
use Rattle.wz_store.specs.State.{Global, Table, Memory, Element}
use Rattle.wz_store.specs.Made.{StoredFunction, StoreState, new_table, new_memory, empty_store}
use Rattle.wz_init.specs.Functions.{import_functions, own_functions, stored_functions}
use Rattle.wz_init.specs.Allocation.{first_globals, first_elements, allocated_of, allocated}
use Rattle.wz_init.specs.Plain.{functions_behind, globals_behind, tables_behind, memories_behind, elements_behind, datas_behind}
use Rattle.wz_init.proofs.BehindLemmas.{few_imports}

pub room_for_own : (s0 s1 : StoreState) (types : List FunctionType) (imports : List Import) (functions : List ℕ) (m : Module) (limit : ℕ) → s0 ≡ empty_store types
    → s1 ≡ functions_behind s0 (import_functions 0 imports) → imports ≡ m.imports → functions ≡ m.functions → length m.imports + length m.functions < limit
    → length s1.functions + length functions < limit
room_for_own s0 s1 types imports functions m limit empty behind is are room =
    omega (
      arith,
      ap (λ (s : StoreState). length s.functions) behind,
      ap (λ (s : StoreState). length s.functions) empty,
      length-append s0.functions (import_functions 0 imports),
      few_imports 0 imports,
      ap length is,
      ap length are,
      room,
    )

made_of : List FunctionType → List StoredFunction → List Global → List Table → List Memory → List Element → List (List ℕ) → StoreState
made_of types functions globals tables memories elements datas =
    record { types = types; functions = functions; globals = globals; tables = tables; memories = memories; elements = elements; datas = datas }

-- the bytes of the code's segments
bytes_same : (segments : List code_data.DataSegment) → map (λ (d : DataSegment). d.bytes) (map data_of segments) ≡ map (λ (d : code_data.DataSegment). d.bytes.now) segments
bytes_same [] = refl
bytes_same (d ∷ segments) = ap (λ ds. d.bytes.now ∷ ds) (bytes_same segments)

parts_same : (m : Module) (types : List FunctionType) (imports : List Import) (functions : List ℕ) (tables : List TableType) (memories : List MemType)
    (segments : List code_data.DataSegment) (globals : List Global) (elements : List Element)
    → types ≡ m.types → imports ≡ m.imports → functions ≡ m.functions → tables ≡ m.tables → memories ≡ m.memories → map data_of segments ≡ m.datas
    → made_of types (import_functions 0 imports ++ own_functions 0 functions) globals (map new_table tables) (map new_memory memories) elements
    (map (λ (d : code_data.DataSegment). d.bytes.now) segments)
    ≡ allocated_of m (stored_functions m) globals elements
unfolding made_of
parts_same m types imports functions tables memories segments globals elements e1 e2 e3 e4 e5 e6 =
    let datas = map (λ (d : code_data.DataSegment). d.bytes.now) segments in
    ap (λ (t : List FunctionType).
    made_of t (import_functions 0 imports ++ own_functions 0 functions) globals (map new_table tables) (map new_memory memories) elements datas) e1
    ∙ ap (λ (i : List Import).
    made_of m.types (import_functions 0 i ++ own_functions 0 functions) globals (map new_table tables) (map new_memory memories) elements datas) e2
    ∙ ap (λ (f : List ℕ).
    made_of m.types (import_functions 0 m.imports ++ own_functions 0 f) globals (map new_table tables) (map new_memory memories) elements datas) e3
    ∙ ap (λ (t : List TableType). made_of m.types (stored_functions m) globals (map new_table t) (map new_memory memories) elements datas) e4
    ∙ ap (λ (y : List MemType). made_of m.types (stored_functions m) globals (map new_table m.tables) (map new_memory y) elements datas) e5
    ∙ ap (λ (d : List (List ℕ)). made_of m.types (stored_functions m) globals (map new_table m.tables) (map new_memory m.memories) elements d)
    (sym (bytes_same segments) ∙ ap (λ (ds : List DataSegment). map (λ (d : DataSegment). d.bytes) ds) e6)

-- the store behind each list that was filled
pub record IsFilled (s0 s1 s2 s3 s4 s5 s6 s7 : StoreState) (types : List FunctionType) (imports functions : List StoredFunction) (globals : List Global) (tables : List Table)
    (memories : List Memory) (elements : List Element) (datas : List (List ℕ)) : Type 0 where
  pub at0 : s0 ≡ empty_store types
  pub at1 : s1 ≡ functions_behind s0 imports
  pub at2 : s2 ≡ functions_behind s1 functions
  pub at3 : s3 ≡ globals_behind s2 globals
  pub at4 : s4 ≡ tables_behind s3 tables
  pub at5 : s5 ≡ memories_behind s4 memories
  pub at6 : s6 ≡ elements_behind s5 elements
  pub at7 : s7 ≡ datas_behind s6 datas

filled : (s0 s1 s2 s3 s4 s5 s6 s7 : StoreState) (types : List FunctionType) (imports functions : List StoredFunction) (globals : List Global) (tables : List Table)
    (memories : List Memory) (elements : List Element) (datas : List (List ℕ))
    → IsFilled s0 s1 s2 s3 s4 s5 s6 s7 types imports functions globals tables memories elements datas
    → s7 ≡ made_of types (imports ++ functions) globals tables memories elements datas
unfolding made_of
filled s0 s1 s2 s3 s4 s5 s6 s7 types imports functions globals tables memories elements datas is =
    let two = is.at2 ∙ ap (λ (s : StoreState). functions_behind s functions) (is.at1 ∙ ap (λ (s : StoreState). functions_behind s imports) is.at0) in
    let four = is.at4 ∙ ap (λ (s : StoreState). tables_behind s tables) (is.at3 ∙ ap (λ (s : StoreState). globals_behind s globals) two) in
    let six = is.at6 ∙ ap (λ (s : StoreState). elements_behind s elements) (is.at5 ∙ ap (λ (s : StoreState). memories_behind s memories) four) in
    is.at7 ∙ ap (λ (s : StoreState). datas_behind s datas) six

pub allocated_by : {F : Type 0} (m : Module) (functions : List F) (globals : List Global) (elements : List Element) → first_globals m ≡ Some globals
    → first_elements m ≡ Some elements → allocated m functions ≡ Some (allocated_of m functions globals elements)
allocated_by m functions globals elements has are =
    ap (λ (o : Option (List Global)).
    option_and_then (λ gs. option_map (λ es. allocated_of m functions gs es) (first_elements m)) o) has
    ∙ ap (λ (o : Option (List Element)). option_map (λ es. allocated_of m functions globals es) o) are

pub all_is_allocated : (m : Module) (s0 s1 s2 s3 s4 s5 s6 s7 : StoreState) (types : List FunctionType) (imports : List Import) (functions : List ℕ) (tables : List TableType)
    (memories : List MemType) (segments : List code_data.DataSegment) (globals : List Global) (elements : List Element)
    → types ≡ m.types → imports ≡ m.imports → functions ≡ m.functions → tables ≡ m.tables → memories ≡ m.memories → map data_of segments ≡ m.datas
    → first_globals m ≡ Some globals → first_elements m ≡ Some elements
    → IsFilled s0 s1 s2 s3 s4 s5 s6 s7 types (import_functions 0 imports) (own_functions 0 functions) globals (map new_table tables) (map new_memory memories) elements
    (map (λ (d : code_data.DataSegment). d.bytes.now) segments)
    → allocated m (stored_functions m) ≡ Some s7
all_is_allocated m s0 s1 s2 s3 s4 s5 s6 s7 types imports functions tables memories segments globals elements e1 e2 e3 e4 e5 e6 has are is =
    allocated_by m (stored_functions m) globals elements has are
    ∙ ap Some
    (sym (filled s0 s1 s2 s3 s4 s5 s6 s7 types (import_functions 0 imports) (own_functions 0 functions) globals (map new_table tables) (map new_memory memories) elements
    (map (λ (d : code_data.DataSegment). d.bytes.now) segments) is
    ∙ parts_same m types imports functions tables memories segments globals elements e1 e2 e3 e4 e5 e6))
