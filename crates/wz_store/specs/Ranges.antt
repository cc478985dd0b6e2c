-- What a table and an element segment hold by number, and when a range lies within (the bounds in section 4.4.6 of the
-- WebAssembly Core Specification 2.0: the sum of place and length doesn't pass the end).
use Rattle.std.specs.Prelude.{ℕ, ◌+◌, ◌<◌, ◌≤◌, List, [], length, slice_get, option_map, unwrap_or}
use Rattle.wz_types.specs.declared.value.Reference.{Reference}
use Rattle.wz_store.specs.State.{Table, Element}

-- the entries of a table; none where there is no such table
abbrev pub entries_in : List Table → ℕ → List Reference
entries_in tables table = unwrap_or (option_map (λ t. t.entries) (slice_get tables table)) []

-- the items of an element segment; none where there is no such segment
abbrev pub items_in : List Element → ℕ → List Reference
items_in elements segment = unwrap_or (option_map (λ e. e.items) (slice_get elements segment)) []

-- the table is there, and so many entries from the place on
abbrev pub HasEntries : List Table → ℕ → ℕ → ℕ → Type 0
HasEntries tables table at count = (table < length tables) × (at + count ≤ length (entries_in tables table))

-- the segment is there, and so many items from the place on
abbrev pub HasItems : List Element → ℕ → ℕ → ℕ → Type 0
HasItems elements segment at count = (segment < length elements) × (at + count ≤ length (items_in elements segment))
