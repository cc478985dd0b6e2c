-- The standard's own way through a range, one item after another, and that it ends where a write of the whole range does.
-- WebAssembly Core Specification 2.0, sections 4.4.6 (table.fill, table.copy, table.init) and 4.4.7 (memory.fill,
-- memory.copy, memory.init): each writes one item and puts the instruction for the rest of the range behind it.
use Rattle.std.specs.Prelude.{◌≡◌, ℕ, zero, suc, ◌+◌, ◌≤◌, nat_le, if◌then◌else◌, List, [], ◌∷◌, length, replicate}
use Rattle.wz_types.specs.declared.value.Reference.{Reference}
use Rattle.wz_linear.specs.Bytes.{IsWithin, part, written}
use Rattle.wz_store.specs.Changes.{overwritten, range_of}

-- fill: the item at the place, then the rest behind it
abbrev pub filled_by_one : {A : Type 0} → List A → ℕ → A → ℕ → List A
filled_by_one items at value zero = items
filled_by_one items at value (suc count) = filled_by_one (overwritten items at (value ∷ [])) (at + 1) value count

-- init, and a copy from another table or memory
abbrev pub copied_by_one : {A : Type 0} → List A → List A → ℕ → ℕ → ℕ → List A
copied_by_one source items to from zero = items
copied_by_one source items to from (suc count) = copied_by_one source (overwritten items to (range_of source from 1)) (to + 1) (from + 1) count

-- a copy within one table or memory: from the front where the target isn't above the source, else from the back
abbrev pub moved_by_one : {A : Type 0} → List A → ℕ → ℕ → ℕ → List A
moved_by_one items to from zero = items
moved_by_one items to from (suc count) =
    if nat_le to from
    then moved_by_one (overwritten items to (range_of items from 1)) (to + 1) (from + 1) count
    else moved_by_one (overwritten items (to + count) (range_of items (from + count) 1)) to from count

-- ---- for tables

abbrev pub FillsEntriesByOne : Type 0
FillsEntriesByOne = (entries : List Reference) (at : ℕ) (value : Reference) (count : ℕ)
    → at + count ≤ length entries → filled_by_one entries at value count ≡ overwritten entries at (replicate count value)

abbrev pub CopiesEntriesByOne : Type 0
CopiesEntriesByOne = (source entries : List Reference) (to from count : ℕ)
    → to + count ≤ length entries → from + count ≤ length source → copied_by_one source entries to from count ≡ overwritten entries to (range_of source from count)

abbrev pub MovesEntriesByOne : Type 0
MovesEntriesByOne = (entries : List Reference) (to from count : ℕ)
    → to + count ≤ length entries → from + count ≤ length entries → moved_by_one entries to from count ≡ overwritten entries to (range_of entries from count)

-- ---- for memories

abbrev pub FillsBytesByOne : Type 0
FillsBytesByOne = (memory : List ℕ) (at byte count : ℕ) → IsWithin memory at count → filled_by_one memory at byte count ≡ written memory at (replicate count byte)

abbrev pub CopiesBytesByOne : Type 0
CopiesBytesByOne = (source memory : List ℕ) (to from count : ℕ)
    → IsWithin memory to count → IsWithin source from count → copied_by_one source memory to from count ≡ written memory to (part source from count)

abbrev pub MovesBytesByOne : Type 0
MovesBytesByOne = (memory : List ℕ) (to from count : ℕ)
    → IsWithin memory to count → IsWithin memory from count → moved_by_one memory to from count ≡ written memory to (part memory from count)
