-- What the output is, said twice: as a module (section 2.5 of the WebAssembly Core Specification 2.0) and as bytes (section 5.5.16).
-- This is the tool's own.
use Rattle.std.specs.Prelude.{ℕ, List, ◌++◌, None}
use Rattle.std.specs.List.{flat_map}
use Rattle.wz_store.specs.State.{StateOf}
use Rattle.wz_module.specs.Sections.{Section}
use Rattle.wz_module.specs.Module.{Module}
use Rattle.wz_decode.specs.Header.{header}
use Rattle.wz_encode.specs.SectionText.{section_text}
use Rattle.wz_exports.specs.Kept.{KeptExports}
use Rattle.wz_rewrite.specs.OutputState.{OutputState, reached_state}
use Rattle.wz_rewrite.specs.Parts.{output_memories, output_globals, output_elements, output_datas, output_data_count}
use Rattle.wz_rewrite.specs.Sections.{output_sections}

-- The module: types, imports, functions, tables and bodies are the input's. Nothing runs when it starts.
abbrev pub output_module : Module → OutputState → Module
output_module m o = record {
  sections = output_sections m o;
  types = m.types;
  imports = m.imports;
  functions = m.functions;
  tables = m.tables;
  memories = output_memories m o;
  globals = output_globals m o;
  exports = o.exports;
  start = None;
  elements = output_elements m o;
  data_count = output_data_count m o;
  bodies = m.bodies;
  datas = output_datas m o;
}

-- The bytes: the header, and the sections one behind the other, each with its size.
abbrev pub sections_text : List Section → List ℕ
sections_text sections = flat_map (λ s. section_text s.id s.payload) sections

abbrev pub output_bytes : Module → OutputState → List ℕ
output_bytes m o = header ++ sections_text (output_sections m o)

-- ---- of a state that was reached, and of kept exports

abbrev pub rewritten_module : {F : Type 0} → Module → StateOf F → KeptExports → Module
rewritten_module m s k = output_module m (reached_state m s k)

abbrev pub rewritten : {F : Type 0} → Module → StateOf F → KeptExports → List ℕ
rewritten m s k = output_bytes m (reached_state m s k)
