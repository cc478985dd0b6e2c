-- The parts of the output's module (section 2.5 of the WebAssembly Core Specification 2.0) that aren't the input's own.
use Rattle.std.specs.Prelude.{ℕ, List, map, length, Option, Some, None}
use Rattle.std.specs.List.{zip}
use Rattle.wz_types.specs.declared.types.MemType.{MemType}
use Rattle.wz_types.specs.declared.types.GlobalType.{GlobalType}
use Rattle.wz_module.specs.Globals.{GlobalDef}
use Rattle.wz_module.specs.Elements.{Elem}
use Rattle.wz_module.specs.Datas.{DataSegment}
use Rattle.wz_module.specs.Module.{Module}
use Rattle.wz_encode.specs.Globals.{global_with}
use Rattle.wz_encode.specs.Elements.{elements_with}
use Rattle.wz_encode.specs.Datas.{segment_of}
use Rattle.wz_rewrite.specs.OutputState.{OutputState}
use Rattle.wz_rewrite.specs.Dropped.{dropped_elements}
use Rattle.wz_rewrite.specs.Slots.{output_slots, filled_slots}

-- A memory starts with the size that it reached. Its maximum stays.
abbrev pub memory_of_size : MemType × ℕ → MemType
memory_of_size memory = record { limits = record { min = memory.1; max = memory.0.limits.max } }

abbrev pub output_memories : Module → OutputState → List MemType
output_memories m o = map memory_of_size (zip m.memories o.pages)

abbrev pub global_types : Module → List GlobalType
global_types m = map (λ global. global.kind) m.globals

-- A global starts with the value that it reached, by one constant instruction. Its type stays.
abbrev pub output_globals : Module → OutputState → List GlobalDef
output_globals m o = map global_with (zip (global_types m) o.globals)

-- Of the element segments those that were dropped only declare their functions any more, and there is one more where functions must be
-- declared anew.
abbrev pub output_elements : Module → OutputState → List Elem
output_elements m o = elements_with m.elements (dropped_elements m o) o.undeclared

abbrev pub output_datas : Module → OutputState → List DataSegment
output_datas m o = map (λ s. segment_of s.0 s.1) (filled_slots m o)

abbrev pub count_where_one_was : Option ℕ → ℕ → Option ℕ
count_where_one_was None count = None
count_where_one_was (Some old) count = Some count

-- a data count that was there is the new number of data segments, and none comes anew
abbrev pub output_data_count : Module → OutputState → Option ℕ
output_data_count m o = count_where_one_was m.data_count (length (output_slots m o))
