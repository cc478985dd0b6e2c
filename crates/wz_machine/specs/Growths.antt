-- Sections 4.5.3.8 and 4.5.3.9 of the Core Specification: the size of a memory or a table that may grow by so much.
use Rattle.std.specs.Prelude.{ℕ, Option, Some, None, Bool, if◌then◌else◌, length}
use Rattle.wz_types.specs.declared.value.Reference.{Reference}
use Rattle.wz_types.specs.Fits.{kind_of}
use Rattle.wz_types.specs.SameType.{same_kind}
use Rattle.wz_store.specs.State.{Table, Memory, pages_of}
use Rattle.wz_store.specs.Growth.{may_extend, may_grow}

-- none where there is no such memory, or where it may not
abbrev pub growing_pages : Option Memory → ℕ → Option ℕ
growing_pages None by = None
growing_pages (Some memory) by = if may_grow (pages_of memory) memory.maximum by then Some (pages_of memory) else None

abbrev pub growing_entries : Option Table → ℕ → Option ℕ
growing_entries None by = None
growing_entries (Some table) by = if may_extend (length table.entries) table.maximum by then Some (length table.entries) else None

-- whether it may; none where there is no such memory, or no such table of the reference's kind
abbrev pub memory_growable : Option Memory → ℕ → Option Bool
memory_growable None by = None
memory_growable (Some memory) by = Some (may_grow (pages_of memory) memory.maximum by)

abbrev pub table_growable : Option Table → ℕ → Reference → Option Bool
table_growable None by reference = None
table_growable (Some table) by reference =
    if same_kind (kind_of reference) table.kind then Some (may_extend (length table.entries) table.maximum by) else None
