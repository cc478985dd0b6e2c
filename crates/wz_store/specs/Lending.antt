-- What a table, a memory or a whole store is, once a `&mut` into it that was handed out has ended.
use Rattle.std.specs.Prelude.{ℕ, ◌++◌, List, [], length, take, drop, Option}
use Rattle.std.specs.Borrow.{Lends, LendsIf, MutBor, Fml, Array, RattleType}
use mir.Syntax.{named}
use Rattle.wz_types.specs.declared.value.Reference.{Reference}
use Rattle.wz_types.specs.contracts.value.Reference.{the_row as reference}
use Rattle.wz_linear.specs.declared.memory.Linear.{Ghosts}
use Rattle.wz_store.specs.State.{Table, Memory, StateOf}
use Rattle.wz_store.specs.Changes.{altered}
use Rattle.wz_store.specs.Made.{StoreState}
use Rattle.wz_store.specs.contracts.table.TableInstance.{the_row as table}
use Rattle.wz_store.specs.contracts.memory.MemoryInstance.{the_row as memory}
use Rattle.wz_store.specs.contracts.store.Store.{the_row as store}

-- ---- one table, one memory

-- the table with these entries; a slice keeps its length, whatever is written to it
abbrev pub with_slice : List Reference → Table → Table
with_slice entries t = record t { entries = take (length t.entries) (entries ++ drop (length entries) t.entries) }

-- the memory with these bytes
abbrev pub with_contents : List ℕ → Memory → Memory
with_contents bytes m = record m { bytes = bytes }

abbrev pub LendsEntries : MutBor Table → MutBor (List Reference) → Fml
LendsEntries t r = Lends table (Array reference 0) t r (λ entries. with_slice entries t.now)

-- ---- a table or a memory of a store

abbrev pub with_table_at : {F : Type 0} → StateOf F → ℕ → Table → StateOf F
with_table_at s at new = record s { tables = altered (λ table. new) s.tables at }

abbrev pub with_contents_at : {F : Type 0} → StateOf F → ℕ → List ℕ → StateOf F
with_contents_at s at bytes = record s { memories = altered (λ memory. with_contents bytes memory) s.memories at }

module _ (M : RattleType) (linear : Ghosts M.Denot) where
  -- the memory has what was left behind r
  abbrev pub LendsBytes : MutBor Memory → MutBor M.Denot → Fml
  LendsBytes m r = Lends (memory M linear) M m r (λ new. with_contents (linear.contents new) m.now)

  -- the store's type, as the logic holds it
  abbrev pub store_row : RattleType
  store_row = store (record { mir = named 1; lft = [] }) M linear

  -- the store has the table, or the memory, that was left behind r
  abbrev pub LendsTable : MutBor StoreState → ℕ → MutBor Table → Fml
  LendsTable s at r = Lends store_row table s r (λ new. with_table_at s.now at new)

  abbrev pub LendsMemory : MutBor StoreState → ℕ → MutBor M.Denot → Fml
  LendsMemory s at r = Lends store_row M s r (λ new. with_contents_at s.now at (linear.contents new))

  -- the same where there is one by this number; and at None nothing changes
  abbrev pub LendsTableIf : MutBor StoreState → ℕ → Option (MutBor Table) → Fml
  LendsTableIf s at r = LendsIf store_row table s r (λ new. with_table_at s.now at new) s.now

  abbrev pub LendsMemoryIf : MutBor StoreState → ℕ → Option (MutBor M.Denot) → Fml
  LendsMemoryIf s at r = LendsIf store_row M s r (λ new. with_contents_at s.now at (linear.contents new)) s.now
