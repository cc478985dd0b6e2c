-- Section 3.4.10 of the Core Specification: the contexts under which the parts of a module are looked at.
use Rattle.std.specs.Prelude.{[], length, map}
use Rattle.wz_valid_code.specs.Context.{TypingContext}
use Rattle.wz_module.specs.Module.{Module}
use Rattle.wz_valid.specs.Indices.{imported_globals, all_functions, all_tables, all_memories, all_globals}
use Rattle.wz_valid.specs.DeclaredFunctions.{declared_in}

-- C: everything that the module has
abbrev pub context_of : Module → TypingContext
context_of m = record {
  types = m.types;
  functions = all_functions m;
  tables = map (λ table. table.kind) (all_tables m);
  memories = length (all_memories m);
  globals = all_globals m;
  imported_globals = length (imported_globals m.imports);
  elements = map (λ e. e.kind) m.elements;
  datas = length m.datas;
  declared = declared_in m;
}

-- C': of this the functions, those that references may be made of, and the imported globals alone
abbrev pub globals_context_of : Module → TypingContext
globals_context_of m = record {
  types = m.types;
  functions = all_functions m;
  tables = [];
  memories = 0;
  globals = imported_globals m.imports;
  imported_globals = length (imported_globals m.imports);
  elements = [];
  datas = 0;
  declared = declared_in m;
}
