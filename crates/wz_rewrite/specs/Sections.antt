-- The sections of the output (section 5.5 of the WebAssembly Core Specification 2.0): those of the input in their order, some of them
-- written anew, with the shortest spelling of every number, and perhaps an element and a data section that come in.
use Rattle.std.specs.Prelude.{ℕ, Bool, not, ◌&&◌, List, [], ◌∷◌, ◌++◌, length, Option, Some, None, is_none, if◌then◌else◌, ◌==◌}
use Rattle.std.specs.List.{flat_map}
use Rattle.wz_bytes.specs.Shortest.{shortest_unsigned}
use Rattle.wz_module.specs.Sections.{Section, payload_of}
use Rattle.wz_module.specs.Module.{Module}
use Rattle.wz_encode.specs.Vectors.{vector_text}
use Rattle.wz_encode.specs.Limits.{memories_text}
use Rattle.wz_encode.specs.Globals.{globals_text}
use Rattle.wz_encode.specs.Exports.{exports_text}
use Rattle.wz_encode.specs.Elements.{elements_text}
use Rattle.wz_encode.specs.Datas.{Slot, slot_text}
use Rattle.wz_snapshot.specs.Recorded.{has_no_items}
use Rattle.wz_rewrite.specs.OutputState.{OutputState}
use Rattle.wz_rewrite.specs.Dropped.{dropped_elements}
use Rattle.wz_rewrite.specs.Slots.{output_slots, filled_slots}
use Rattle.wz_rewrite.specs.Segments.{segments_of}
use Rattle.wz_rewrite.specs.Parts.{output_memories, global_types}

-- ---- contents

-- An element section keeps its contents where nothing was dropped and nothing must be declared anew.
abbrev pub renewed_elements : Module → OutputState → List ℕ → List ℕ
renewed_elements m o payload = elements_text (Some payload) (segments_of payload) (dropped_elements m o) o.undeclared

-- datasec ::= vec(data)
abbrev pub datas_text : List (Slot × List ℕ) → List ℕ
datas_text slots = vector_text (λ s. slot_text s.0 ++ s.1) slots

-- What the section of this id holds in the output, where the input's holds this: memory, global, export, element, data and data count
-- are written anew; the start has run and is left out; type, import, function, table, code and custom sections stay.
abbrev pub output_payload : Module → OutputState → ℕ → List ℕ → Option (List ℕ)
output_payload m o id payload =
    if id == 5 then Some (memories_text (output_memories m o))
    else (if id == 6 then Some (globals_text (global_types m) o.globals)
    else (if id == 7 then Some (exports_text o.exports)
    else (if id == 8 then None
    else (if id == 9 then Some (renewed_elements m o payload)
    else (if id == 11 then Some (datas_text (filled_slots m o))
    else (if id == 12 then Some (shortest_unsigned (length (output_slots m o)))
    else Some payload))))))

-- ---- sections that come in

-- there is no section with this id
abbrev pub lacks : ℕ → List Section → Bool
lacks id sections = is_none (payload_of id sections)

-- of data count and code the one that comes first: data count stands before code, where there is one
abbrev pub elements_before : List Section → ℕ
elements_before sections = if lacks 12 sections then 10 else 12

-- Where functions must be declared anew and there is no element section, one comes in directly before that one.
abbrev pub brings_elements : Module → OutputState → ℕ → Bool
brings_elements m o id = (id == elements_before m.sections) && (lacks 9 m.sections && not (has_no_items o.undeclared))

abbrev pub new_elements : Module → OutputState → ℕ → Option (List ℕ)
new_elements m o id = if brings_elements m o id then Some (elements_text None [] [] o.undeclared) else None

-- Where ranges were chosen and there is no data section, one comes in directly behind code.
abbrev pub brings_datas : Module → OutputState → ℕ → Bool
brings_datas m o id = (id == 10) && (lacks 11 m.sections && not (has_no_items o.chosen))

abbrev pub new_datas : Module → OutputState → ℕ → Option (List ℕ)
new_datas m o id = if brings_datas m o id then Some (datas_text (filled_slots m o)) else None

-- ---- the whole

-- the section of this id, where it has contents
abbrev pub section_with : ℕ → Option (List ℕ) → List Section
section_with id None = []
section_with id (Some payload) = record { id = id; payload = payload } ∷ []

-- what stands in the place of a section of the input
abbrev pub sections_for : Module → OutputState → Section → List Section
sections_for m o s =
    section_with 9 (new_elements m o s.id) ++ (section_with s.id (output_payload m o s.id s.payload) ++ section_with 11 (new_datas m o s.id))

abbrev pub output_sections : Module → OutputState → List Section
output_sections m o = flat_map (λ s. sections_for m o s) m.sections
