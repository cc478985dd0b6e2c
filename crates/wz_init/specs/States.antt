-- Section 4.2.3 of the Core Specification: how a store, whose functions name the module's bodies by number, is a state of the module.
use Rattle.std.specs.Prelude.{map}
use Rattle.wz_module.specs.Module.{Module}
use Rattle.wz_store.specs.State.{StateOf}
use Rattle.wz_store.specs.Made.{StoreState}
use Rattle.wz_machine.specs.State.{State}
use Rattle.wz_init.specs.Functions.{function_in}

-- the same lists, with other functions
abbrev pub with_functions : {F G : Type 0} → (F → G) → StateOf F → StateOf G
with_functions f s = record {
  types = s.types;
  functions = map f s.functions;
  globals = s.globals;
  tables = s.tables;
  memories = s.memories;
  elements = s.elements;
  datas = s.datas;
}

-- the store, with the instructions of the module's functions
abbrev pub state_in : Module → StoreState → State
state_in m store = with_functions (λ function. function_in m.bodies function) store
