-- Section 4.5.4 of the Core Specification (instantiation), up to the start function: the instance is allocated, then the element
-- segments are run through in their order, and then the data segments. An active segment does what `offset; i32.const 0;
-- i32.const n; table.init; elem.drop` does, or the same of memory.init and data.drop; a declarative one is dropped.
use Rattle.std.specs.Prelude.{ℕ, ◌+◌, List, [], ◌∷◌, Option, Some, None, length, slice_get}
use Rattle.wz_module.specs.Elements.{ElemMode, PassiveElem, ActiveElem, DeclarativeElem, Elem}
use Rattle.wz_module.specs.Datas.{DataMode, PassiveData, ActiveData, DataSegment}
use Rattle.wz_module.specs.Module.{Module}
use Rattle.wz_store.specs.State.{StateOf}
use Rattle.wz_store.specs.Changes.{Change, EmptyElement, EmptyData, applied}
use Rattle.wz_bulk.specs.Effects.{BulkEffect, Makes, Aborts, Misfits}
use Rattle.wz_bulk.specs.TableEffects.{table_init_effect}
use Rattle.wz_bulk.specs.MemoryEffects.{memory_init_effect}
use Rattle.wz_init.specs.Functions.{functions_in}
use Rattle.wz_init.specs.Constants.{constant_number}
use Rattle.wz_init.specs.Allocation.{allocated}
use Rattle.wz_init.specs.Instances.{InstanceOf, Instance, ElementUnfit, DataUnfit, NoInstance, Fresh, instance_then}

-- what a segment's copy comes to, and with `drop` the segment is empty then; where it traps, the segment doesn't fit
abbrev pub copied : {F : Type 0} → InstanceOf F → Change → StateOf F → BulkEffect → InstanceOf F
copied unfit drop s (Makes change) = Instance (applied drop (applied change s))
copied unfit drop s (Aborts kind) = unfit
copied unfit drop s Misfits = NoInstance

-- ---- element segments

-- all references of the segment are copied to the offset in the table
abbrev pub element_copied : {F : Type 0} → ℕ → ℕ → ℕ → Option ℕ → StateOf F → InstanceOf F
element_copied index table count None s = NoInstance
element_copied index table count (Some offset) s =
    copied (ElementUnfit index) (EmptyElement index) s (table_init_effect table (slice_get s.tables table) (slice_get s.elements index) offset 0 count)

abbrev pub element_run : {F : Type 0} → Module → ℕ → ℕ → ElemMode → StateOf F → InstanceOf F
element_run m index count PassiveElem s = Instance s
element_run m index count (ActiveElem table offset) s = element_copied index table count (constant_number m offset) s
element_run m index count DeclarativeElem s = Instance (applied (EmptyElement index) s)

-- segments, the first of which has this number
abbrev pub elements_run : {F : Type 0} → Module → ℕ → List Elem → StateOf F → InstanceOf F
elements_run m index [] s = Instance s
elements_run m index (e ∷ elements) s =
    instance_then (λ now. elements_run m (index + 1) elements now) (element_run m index (length e.init) e.mode s)

-- ---- data segments

abbrev pub data_copied : {F : Type 0} → ℕ → ℕ → ℕ → Option ℕ → StateOf F → InstanceOf F
data_copied index memory count None s = NoInstance
data_copied index memory count (Some offset) s =
    copied (DataUnfit index) (EmptyData index) s (memory_init_effect memory (slice_get s.memories memory) (slice_get s.datas index) offset 0 count)

abbrev pub data_run : {F : Type 0} → Module → ℕ → ℕ → DataMode → StateOf F → InstanceOf F
data_run m index count PassiveData s = Instance s
data_run m index count (ActiveData memory offset) s = data_copied index memory count (constant_number m offset) s

abbrev pub datas_run : {F : Type 0} → Module → ℕ → List DataSegment → StateOf F → InstanceOf F
datas_run m index [] s = Instance s
datas_run m index (segment ∷ segments) s =
    instance_then (λ now. datas_run m (index + 1) segments now) (data_run m index (length segment.bytes) segment.mode s)

-- ---- the whole

-- all active segments are copied, and emptied
abbrev pub segments_run : {F : Type 0} → Module → StateOf F → InstanceOf F
segments_run m s = instance_then (λ now. datas_run m 0 m.datas now) (elements_run m 0 m.elements s)

abbrev pub from_allocated : {F : Type 0} → Module → Option (StateOf F) → InstanceOf F
from_allocated m None = NoInstance
from_allocated m (Some s) = segments_run m s

-- the instance with these functions
unfoldable pub instantiated : {F : Type 0} → Module → List F → InstanceOf F
instantiated m functions = from_allocated m (allocated m functions)

-- a module's fresh instance, as it is before the start function
unfoldable pub fresh : Module → Fresh
fresh m = instantiated m (functions_in m)
