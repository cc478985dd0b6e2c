-- What an instruction, an active segment or an access from outside changes in what an instance holds, each said once.
-- WebAssembly Core Specification 2.0, sections 4.4.5 to 4.4.7 (variable, table and memory instructions), and sections
-- 4.5.3.8 and 4.5.3.9 (growing tables and memories).
use Rattle.std.specs.Prelude.{ℕ, zero, suc, ◌+◌, ◌*◌, List, [], ◌∷◌, ◌++◌, length, take, drop, replicate}
use Rattle.wz_types.specs.declared.value.Reference.{Reference}
use Rattle.wz_types.specs.declared.value.Value.{Value}
use Rattle.wz_linear.specs.Bytes.{written}
use Rattle.wz_store.specs.State.{Global, Table, Memory, Element, StateOf, page_size}

-- one change; the first number is that of the global, table, memory or segment
pub data Change : Type 0 where
  Nothing : Change
  SetGlobal : ℕ → Value → Change
  -- these entries or bytes, from a place on
  WriteTable : ℕ → ℕ → List Reference → Change
  WriteMemory : ℕ → ℕ → List ℕ → Change
  -- by so many entries with this content, by so many pages of zeros
  GrowTable : ℕ → ℕ → Reference → Change
  GrowMemory : ℕ → ℕ → Change
  EmptyElement : ℕ → Change
  EmptyData : ℕ → Change

-- ---- parts of lists

-- so many items from a place on
abbrev pub range_of : {A : Type 0} → List A → ℕ → ℕ → List A
range_of items from count = take count (drop from items)

-- the list with these items from a place on, in the place of those that stood there
abbrev pub overwritten : {A : Type 0} → List A → ℕ → List A → List A
overwritten items at new = take at items ++ (new ++ drop (at + length new) items)

-- the list with one item altered, or the same list where there is no such item
abbrev pub altered : {A : Type 0} → (A → A) → List A → ℕ → List A
altered alter [] index = []
altered alter (item ∷ items) zero = alter item ∷ items
altered alter (item ∷ items) (suc index) = item ∷ altered alter items index

-- ---- the single parts of an instance

abbrev pub with_content : Value → Global → Global
with_content value global = record global { content = value }

abbrev pub with_entries : ℕ → List Reference → Table → Table
with_entries at new table = record table { entries = overwritten table.entries at new }

abbrev pub with_more_entries : ℕ → Reference → Table → Table
with_more_entries by reference table = record table { entries = table.entries ++ replicate by reference }

abbrev pub with_bytes : ℕ → List ℕ → Memory → Memory
with_bytes at bytes memory = record memory { bytes = written memory.bytes at bytes }

abbrev pub with_more_pages : ℕ → Memory → Memory
with_more_pages pages memory = record memory { bytes = memory.bytes ++ replicate (pages * page_size) 0 }

abbrev pub without_items : Element → Element
without_items element = record element { items = [] }

-- ---- the whole; a number that is out of range changes nothing

abbrev pub applied : {F : Type 0} → Change → StateOf F → StateOf F
applied Nothing s = s
applied (SetGlobal index value) s = record s { globals = altered (λ global. with_content value global) s.globals index }
applied (WriteTable index at new) s = record s { tables = altered (λ table. with_entries at new table) s.tables index }
applied (WriteMemory index at bytes) s = record s { memories = altered (λ memory. with_bytes at bytes memory) s.memories index }
applied (GrowTable index by reference) s = record s { tables = altered (λ table. with_more_entries by reference table) s.tables index }
applied (GrowMemory index pages) s = record s { memories = altered (λ memory. with_more_pages pages memory) s.memories index }
applied (EmptyElement index) s = record s { elements = altered (λ element. without_items element) s.elements index }
applied (EmptyData index) s = record s { datas = altered (λ bytes. []) s.datas index }
