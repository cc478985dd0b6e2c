-- Section 4.5.3 of the Core Specification (allocation): what an instance of a module in the tool's profile begins with. Such a module
-- imports functions alone, so its tables, memories and globals are its own.
use Rattle.std.specs.Prelude.{List, [], ◌∷◌, Option, Some, option_map, option_and_then, map}
use Rattle.wz_module.specs.Globals.{GlobalDef}
use Rattle.wz_module.specs.Elements.{Elem}
use Rattle.wz_module.specs.Module.{Module}
use Rattle.wz_store.specs.State.{Global, Element, StateOf}
use Rattle.wz_store.specs.Made.{new_global, new_table, new_memory, new_element}
use Rattle.wz_init.specs.Constants.{constant_value, constant_reference}

-- what each item gives, or none where one of them gives none
abbrev pub each_of : {X Y : Type 0} → (X → Option Y) → List X → Option (List Y)
each_of f [] = Some []
each_of f (x ∷ xs) = option_and_then (λ y. option_map (λ ys. y ∷ ys) (each_of f xs)) (f x)

-- 4.5.3.5, globals, with the values of their expressions
abbrev pub first_global : Module → GlobalDef → Option Global
first_global m global = option_map (λ value. new_global global.kind value) (constant_value m global.init)

abbrev pub first_globals : Module → Option (List Global)
first_globals m = each_of (λ global. first_global m global) m.globals

-- 4.5.3.6, element segments, with the references of their expressions
abbrev pub first_element : Module → Elem → Option Element
first_element m e = option_map (λ items. new_element e.kind items) (each_of (λ init. constant_reference m init) e.init)

abbrev pub first_elements : Module → Option (List Element)
first_elements m = each_of (λ e. first_element m e) m.elements

-- 4.5.3.10, the module, with these functions: tables of nulls (4.5.3.3), memories of zeros (4.5.3.4), and data segments (4.5.3.7)
abbrev pub allocated_of : {F : Type 0} → Module → List F → List Global → List Element → StateOf F
allocated_of m functions globals elements = record {
  types = m.types;
  functions = functions;
  globals = globals;
  tables = map new_table m.tables;
  memories = map new_memory m.memories;
  elements = elements;
  datas = map (λ segment. segment.bytes) m.datas;
}

-- none where an expression has no value
abbrev pub allocated : {F : Type 0} → Module → List F → Option (StateOf F)
allocated m functions =
    option_and_then (λ globals. option_map (λ elements. allocated_of m functions globals elements) (first_elements m)) (first_globals m)
