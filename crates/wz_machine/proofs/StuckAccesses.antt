-- Accesses from outside to a typed state make changes that fit there.
use Rattle.std.proofs.Common.{◌≡◌, ◌≤◌, ◌+◌, ◌∷◌, ◌&&◌, [], ℕ, List, true, zero, nat_lt, ltb-true, arith, suc, Option, None, Some, nat_le, length, slice_get, subst, refl}
use Rattle.std.proofs.lemmas.Bool.{and_parts, leb-true}
use Rattle.wz_types.specs.declared.value.Reference.{Reference}
use Rattle.wz_types.specs.declared.value.Value.TheVariants.{Ref}
use Rattle.wz_types.specs.Fits.{type_of_kind}
use Rattle.wz_types.specs.declared.value.Value.{Value}
use Rattle.wz_linear.specs.Bytes.{part}
use Rattle.wz_store.specs.State.{Memory, Table, pages_of, Global}
use Rattle.wz_store.specs.Changes.{WriteMemory, GrowMemory, GrowTable, SetGlobal, WriteTable}
use Rattle.wz_store.specs.Growth.{may_grow, may_extend}
use Rattle.wz_machine.specs.State.{State}
use Rattle.wz_machine.specs.Accesses.{AccessReply, all_bytes, memory_read, sees, no_access, memory_write, makes, memory_pages, table_entries, memory_enlarged, table_enlarged, global_content, global_set, entry_content, table_content, entry_set, read_access, write_access, size_access, enlarge_access, get_access, set_access}
use Rattle.wz_machine.specs.TypedSteps.{IsChangeTyped}
use Rattle.wz_machine.specs.TypedState.{HoldsBytes, IsStateTyped, state_context, HasType, HaveKind}
use Rattle.wz_machine.specs.Moves.{BytesRead, Went, HeldSize}
use Rattle.wz_machine.specs.Replies.{fits_in}
use Rattle.wz_machine.specs.Exports.{ExternalValue, ExternalMemory, ExternalTable, ExternalGlobal}
use Rattle.wz_machine.proofs.LeafLemmas.{if-both}
use Rattle.wz_machine.proofs.StuckOperands.{if-tested}
use Rattle.wz_machine.proofs.StuckReplies.{pages-serve, entries-serve, fits-type}
use Rattle.wz_machine.proofs.StuckParts.{every-one}

abbrev pub AccessServes : State → AccessReply → Type 0
AccessServes s access = IsChangeTyped s access.change

bytes-are : (bytes : List ℕ) → all_bytes bytes ≡ true → HoldsBytes bytes
bytes-are [] h k byte e = absurd (cc e)
bytes-are (b ∷ bytes) h zero byte e =
    let r = and_parts (nat_lt b 256) (all_bytes bytes) h in let lt = ltb-true b 256 r.0 in let same : b ≡ byte = cc e in omega (arith, lt, same)
bytes-are (b ∷ bytes) h (suc k) byte e = bytes-are bytes (and_parts (nat_lt b 256) (all_bytes bytes) h).1 k byte e

module _ (s : State) (typed : IsStateTyped (state_context s) s) where
  -- ---- accesses

  read-serves : (at count : ℕ) (memory : Option Memory) → AccessServes s (memory_read at count memory)
  read-serves at count None = tt
  read-serves at count (Some memory) =
      if-both (λ (a : AccessReply). AccessServes s a) (nat_le (at + count) (length memory.bytes)) (sees (BytesRead (part memory.bytes at count))) no_access tt
      tt

  write-serves : (index at : ℕ) (bytes : List ℕ) (memory : Option Memory) → slice_get s.memories index ≡ memory → AccessServes s (memory_write index at bytes memory)
  write-serves index at bytes None is = tt
  write-serves index at bytes (Some memory) is =
      if-tested (λ (a : AccessReply). AccessServes s a) (nat_le (at + length bytes) (length memory.bytes) && all_bytes bytes)
      (makes Went (WriteMemory index at bytes)) no_access
      (λ test. let r = and_parts (nat_le (at + length bytes) (length memory.bytes)) (all_bytes bytes) test in (
        bytes-are bytes r.1,
        λ other is_other. let same : memory ≡ other = cc in
            subst (λ (m : Memory). at + length bytes ≤ length m.bytes) same (leb-true (at + length bytes) (length memory.bytes) r.0),
      )) tt

  pages-seen : (memory : Option Memory) → AccessServes s (memory_pages memory)
  pages-seen None = tt
  pages-seen (Some memory) = tt

  entries-seen : (table : Option Table) → AccessServes s (table_entries table)
  entries-seen None = tt
  entries-seen (Some table) = tt

  memory_enlarged-serves : (index by : ℕ) (memory : Option Memory) → slice_get s.memories index ≡ memory → AccessServes s (memory_enlarged index by memory)
  memory_enlarged-serves index by None is = tt
  memory_enlarged-serves index by (Some memory) is =
      if-tested (λ (a : AccessReply). AccessServes s a) (may_grow (pages_of memory) memory.maximum by)
      (makes (HeldSize (pages_of memory)) (GrowMemory index by)) no_access (λ test. pages-serve s typed index by memory is test) tt

  table_enlarged-serves : (index by : ℕ) (reference : Reference) (table : Option Table) → slice_get s.tables index ≡ table
      → AccessServes s (table_enlarged s index by reference table)
  table_enlarged-serves index by reference None is = tt
  table_enlarged-serves index by reference (Some table) is =
      if-tested (λ (a : AccessReply). AccessServes s a) (may_extend (length table.entries) table.maximum by && fits_in s (Ref reference) (type_of_kind table.kind))
      (makes (HeldSize (length table.entries)) (GrowTable index by reference)) no_access
      (λ test. let r = and_parts (may_extend (length table.entries) table.maximum by) (fits_in s (Ref reference) (type_of_kind table.kind)) test in
      entries-serve s typed index by reference table is r.0 (fits-type s typed (Ref reference) (type_of_kind table.kind) r.1)) tt

  global-seen : (global : Option Global) → AccessServes s (global_content global)
  global-seen None = tt
  global-seen (Some global) = tt

  set_global-serves : (index : ℕ) (value : Value) (global : Option Global) → slice_get s.globals index ≡ global → AccessServes s (global_set s index value global)
  set_global-serves index value None is = tt
  set_global-serves index value (Some global) is =
      if-tested (λ (a : AccessReply). AccessServes s a) (global.type.mutable && fits_in s value global.type.value) (makes Went (SetGlobal index value)) no_access
      (λ test. let r = and_parts global.type.mutable (fits_in s value global.type.value) test in
      λ other is_other. let same : global ≡ other = cc in subst (λ (g : Global). HasType (state_context s) value g.type.value) same
      (fits-type s typed value global.type.value r.1)) tt

  entry-seen : (o : Option Reference) → AccessServes s (entry_content o)
  entry-seen None = tt
  entry-seen (Some reference) = tt

  entry-serves : (at : ℕ) (table : Option Table) → AccessServes s (table_content at table)
  entry-serves at None = tt
  entry-serves at (Some table) = entry-seen (slice_get table.entries at)

  set_entry-serves : (index at : ℕ) (reference : Reference) (table : Option Table) → slice_get s.tables index ≡ table
      → AccessServes s (entry_set s index at reference table)
  set_entry-serves index at reference None is = tt
  set_entry-serves index at reference (Some table) is =
      if-tested (λ (a : AccessReply). AccessServes s a) (nat_lt at (length table.entries) && fits_in s (Ref reference) (type_of_kind table.kind))
      (makes Went (WriteTable index at (reference ∷ []))) no_access
      (λ test. let r = and_parts (nat_lt at (length table.entries)) (fits_in s (Ref reference) (type_of_kind table.kind)) test in
      let lt = ltb-true at (length table.entries) r.0 in
      λ other is_other. let same : table ≡ other = cc in
      subst (λ (t : Table). HaveKind (state_context s) t.kind (reference ∷ []) × (at + length (reference ∷ []) ≤ length t.entries)) same
      (every-one (state_context s) table.kind reference (fits-type s typed (Ref reference) (type_of_kind table.kind) r.1), omega (arith, lt))) tt

  pub read_access-serves : (target : Option ExternalValue) (at count : ℕ) → AccessServes s (read_access s target at count)
  read_access-serves (Some (ExternalMemory index)) at count = read-serves at count (slice_get s.memories index)
  read_access-serves target at count = tt

  pub write_access-serves : (target : Option ExternalValue) (at : ℕ) (bytes : List ℕ) → AccessServes s (write_access s target at bytes)
  write_access-serves (Some (ExternalMemory index)) at bytes = write-serves index at bytes (slice_get s.memories index) refl
  write_access-serves target at bytes = tt

  pub size_access-serves : (target : Option ExternalValue) → AccessServes s (size_access s target)
  size_access-serves (Some (ExternalMemory index)) = pages-seen (slice_get s.memories index)
  size_access-serves (Some (ExternalTable index)) = entries-seen (slice_get s.tables index)
  size_access-serves target = tt

  pub enlarge_access-serves : (target : Option ExternalValue) (by : ℕ) (value : Option Value) → AccessServes s (enlarge_access s target by value)
  enlarge_access-serves (Some (ExternalMemory index)) by None = memory_enlarged-serves index by (slice_get s.memories index) refl
  enlarge_access-serves (Some (ExternalTable index)) by (Some (Ref reference)) = table_enlarged-serves index by reference (slice_get s.tables index) refl
  enlarge_access-serves target by value = tt

  pub get_access-serves : (target : Option ExternalValue) (at : Option ℕ) → AccessServes s (get_access s target at)
  get_access-serves (Some (ExternalGlobal index)) None = global-seen (slice_get s.globals index)
  get_access-serves (Some (ExternalTable index)) (Some at) = entry-serves at (slice_get s.tables index)
  get_access-serves target at = tt

  pub set_access-serves : (target : Option ExternalValue) (at : Option ℕ) (value : Value) → AccessServes s (set_access s target at value)
  set_access-serves (Some (ExternalGlobal index)) None value = set_global-serves index value (slice_get s.globals index) refl
  set_access-serves (Some (ExternalTable index)) (Some at) (Ref reference) = set_entry-serves index at reference (slice_get s.tables index) refl
  set_access-serves target at value = tt
