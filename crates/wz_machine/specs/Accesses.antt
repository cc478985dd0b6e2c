-- Accesses from outside to what is exported, which leave the terms alone (section 7.1 of the Core Specification, embedding: table_read,
-- table_write, table_size, table_grow, mem_read, mem_write, mem_size, mem_grow, global_read, global_write).
use Rattle.std.specs.Prelude.{ℕ, ◌+◌, nat_le, nat_lt, List, [], ◌∷◌, Option, Some, None, Bool, ◌&&◌, if◌then◌else◌, length, slice_get}
use Rattle.std.specs.List.{list_all}
use Rattle.wz_types.specs.declared.value.Reference.{Reference}
use Rattle.wz_types.specs.declared.value.Value.{Value}
use Rattle.wz_types.specs.declared.value.Value.TheVariants.{Ref}
use Rattle.wz_types.specs.Fits.{type_of_kind}
use Rattle.wz_linear.specs.Bytes.{part}
use Rattle.wz_store.specs.State.{Global, Table, Memory, pages_of}
use Rattle.wz_store.specs.Changes.{Change, Nothing, SetGlobal, WriteTable, WriteMemory, GrowTable, GrowMemory}
use Rattle.wz_store.specs.Growth.{may_extend, may_grow}
use Rattle.wz_machine.specs.State.{State}
use Rattle.wz_machine.specs.Exports.{ExternalValue, ExternalTable, ExternalMemory, ExternalGlobal}
use Rattle.wz_machine.specs.Moves.{Event, Refused, Went, BytesRead, HeldSize, HeldValue}
use Rattle.wz_machine.specs.Replies.{fits_in}

-- what an access sees, and what it changes in the state
pub record AccessReply : Type 0 where
  pub event : Event
  pub change : Change

abbrev pub no_access : AccessReply
no_access = record { event = Refused; change = Nothing }

abbrev pub sees : Event → AccessReply
sees event = record { event = event; change = Nothing }

abbrev pub makes : Event → Change → AccessReply
makes event change = record { event = event; change = change }

-- ---- a memory's bytes

abbrev pub memory_read : ℕ → ℕ → Option Memory → AccessReply
memory_read at count None = no_access
memory_read at count (Some memory) = if nat_le (at + count) (length memory.bytes) then sees (BytesRead (part memory.bytes at count)) else no_access

abbrev pub read_access : State → Option ExternalValue → ℕ → ℕ → AccessReply
read_access s (Some (ExternalMemory index)) at count = memory_read at count (slice_get s.memories index)
read_access s export at count = no_access

abbrev pub all_bytes : List ℕ → Bool
all_bytes bytes = list_all (λ byte. nat_lt byte 256) bytes

abbrev pub memory_write : ℕ → ℕ → List ℕ → Option Memory → AccessReply
memory_write index at bytes None = no_access
memory_write index at bytes (Some memory) =
    if nat_le (at + length bytes) (length memory.bytes) && all_bytes bytes then makes Went (WriteMemory index at bytes) else no_access

abbrev pub write_access : State → Option ExternalValue → ℕ → List ℕ → AccessReply
write_access s (Some (ExternalMemory index)) at bytes = memory_write index at bytes (slice_get s.memories index)
write_access s export at bytes = no_access

-- ---- sizes

abbrev pub memory_pages : Option Memory → AccessReply
memory_pages None = no_access
memory_pages (Some memory) = sees (HeldSize (pages_of memory))

abbrev pub table_entries : Option Table → AccessReply
table_entries None = no_access
table_entries (Some table) = sees (HeldSize (length table.entries))

abbrev pub size_access : State → Option ExternalValue → AccessReply
size_access s (Some (ExternalMemory index)) = memory_pages (slice_get s.memories index)
size_access s (Some (ExternalTable index)) = table_entries (slice_get s.tables index)
size_access s export = no_access

abbrev pub memory_enlarged : ℕ → ℕ → Option Memory → AccessReply
memory_enlarged index by None = no_access
memory_enlarged index by (Some memory) =
    if may_grow (pages_of memory) memory.maximum by then makes (HeldSize (pages_of memory)) (GrowMemory index by) else no_access

abbrev pub table_enlarged : State → ℕ → ℕ → Reference → Option Table → AccessReply
table_enlarged s index by reference None = no_access
table_enlarged s index by reference (Some table) =
    if may_extend (length table.entries) table.maximum by && fits_in s (Ref reference) (type_of_kind table.kind)
    then makes (HeldSize (length table.entries)) (GrowTable index by reference)
    else no_access

-- a memory takes no value, a table takes one
abbrev pub enlarge_access : State → Option ExternalValue → ℕ → Option Value → AccessReply
enlarge_access s (Some (ExternalMemory index)) by None = memory_enlarged index by (slice_get s.memories index)
enlarge_access s (Some (ExternalTable index)) by (Some (Ref reference)) = table_enlarged s index by reference (slice_get s.tables index)
enlarge_access s export by value = no_access

-- ---- globals and entries

abbrev pub global_content : Option Global → AccessReply
global_content None = no_access
global_content (Some global) = sees (HeldValue global.content)

abbrev pub entry_content : Option Reference → AccessReply
entry_content None = no_access
entry_content (Some reference) = sees (HeldValue (Ref reference))

abbrev pub table_content : ℕ → Option Table → AccessReply
table_content at None = no_access
table_content at (Some table) = entry_content (slice_get table.entries at)

-- a global takes no place, a table takes one
abbrev pub get_access : State → Option ExternalValue → Option ℕ → AccessReply
get_access s (Some (ExternalGlobal index)) None = global_content (slice_get s.globals index)
get_access s (Some (ExternalTable index)) (Some at) = table_content at (slice_get s.tables index)
get_access s export at = no_access

abbrev pub global_set : State → ℕ → Value → Option Global → AccessReply
global_set s index value None = no_access
global_set s index value (Some global) =
    if global.type.mutable && fits_in s value global.type.value then makes Went (SetGlobal index value) else no_access

abbrev pub entry_set : State → ℕ → ℕ → Reference → Option Table → AccessReply
entry_set s index at reference None = no_access
entry_set s index at reference (Some table) =
    if nat_lt at (length table.entries) && fits_in s (Ref reference) (type_of_kind table.kind)
    then makes Went (WriteTable index at (reference ∷ []))
    else no_access

abbrev pub set_access : State → Option ExternalValue → Option ℕ → Value → AccessReply
set_access s (Some (ExternalGlobal index)) None value = global_set s index value (slice_get s.globals index)
set_access s (Some (ExternalTable index)) (Some at) (Ref reference) = entry_set s index at reference (slice_get s.tables index)
set_access s export at value = no_access
