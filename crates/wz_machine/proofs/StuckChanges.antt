-- Changes keep a state typed, and its context.
use Rattle.std.proofs.Common.{◌≡◌, ◌≤◌, ◌<◌, ◌+◌, ◌*◌, ◌/◌, ◌^◌, ◌++◌, ◌⊎◌, [], ℕ, List, slice_get, Some, inl, subst, inr, sym, ap, length, arith, length-append, take, drop, replicate}
use Rattle.std.specs.List.{All}
use Rattle.std.proofs.lemmas.List.{length-take, length-drop, length-replicate}
use Rattle.std.proofs.lemmas.List.Elements.{All-get_or}
use Rattle.std.proofs.lemmas.Option.{slice_get_within, get_or_from_slice_get}
use Rattle.wz_types.specs.declared.value.Reference.{Reference}
use Rattle.wz_types.specs.declared.value.Value.TheVariants.{Ref}
use Rattle.wz_types.specs.Fits.{type_of_kind}
use Rattle.wz_linear.specs.Bytes.{written}
use Rattle.wz_linear.proofs.WriteLemmas.{length-written}
use Rattle.wz_valid_code.specs.Context.{TypingContext}
use Rattle.wz_store.specs.Changes.{altered, overwritten, with_more_pages, Change, applied, Nothing, SetGlobal, with_content, WriteTable, with_entries, GrowTable, with_more_entries, WriteMemory, with_bytes, GrowMemory, EmptyElement, without_items, EmptyData}
use Rattle.wz_store.specs.Lending.{with_contents, with_contents_at}
use Rattle.wz_store.proofs.ChangeLemmas.{get-altered, length-altered}
use Rattle.wz_store.specs.State.{Memory, pages_of, page_size, Global, Table, Element}
use Rattle.wz_bulk.proofs.RangeLemmas.{written_is}
use Rattle.wz_machine.specs.TypedState.{HoldsBytes, IsStateTyped, state_context, HasType, HaveKind}
use Rattle.wz_machine.specs.State.{State}
use Rattle.wz_machine.specs.TypedSteps.{IsChangeTyped}
use Rattle.wz_machine.specs.TypedTerms.{IsStackTyped}
use Rattle.wz_machine.specs.TypedLaws.{ChangeKeepsTyping, ContentsKeepTyping}
use Rattle.wz_machine.proofs.StuckParts.{each-written, each-join, each-same}
use Rattle.wz_machine.proofs.TypedLemmas.{context_lasts}

-- ---- items of altered lists

-- what holds of each item that was there and of the altered one
pub each-altered : {A : Type 0} (P : A → Type 0) (alter : A → A) (xs : List A) (i : ℕ) → ((k : ℕ) (x : A) → slice_get xs k ≡ Some x → P x)
    → ((x : A) → slice_get xs i ≡ Some x → P x → P (alter x)) → (k : ℕ) (y : A) → slice_get (altered alter xs i) k ≡ Some y → P y
each-altered {A = A} P alter xs i each here k y h = by (get-altered alter xs i k y h)
  where
    by : (x : A) × (slice_get xs k ≡ Some x) × ((x ≡ y) ⊎ ((i ≡ k) × (alter x ≡ y))) → P y
    by (x, is, inl e) = subst P e (each k x is)
    by (x, is, inr e) = subst P e.1 (here x (subst (λ (n : ℕ). slice_get xs n ≡ Some x) (sym e.0) is) (each k x is))

length-overwritten : (xs : List Reference) (at : ℕ) (new : List Reference) → at + length new ≤ length xs → length (overwritten xs at new) ≡ length xs
length-overwritten xs at new le =
    omega (
      arith,
      length-append (take at xs) (new ++ drop (at + length new) xs),
      length-append new (drop (at + length new) xs),
      length-take at xs,
      length-drop
          (at + length new) xs,
      le,
    )

bytes-written : (bytes : List ℕ) (at : ℕ) (new : List ℕ) → HoldsBytes bytes → HoldsBytes new → HoldsBytes (written bytes at new)
bytes-written bytes at new one other =
    subst (λ (xs : List ℕ). HoldsBytes xs) (written_is bytes at new) (each-written (λ byte. byte < 256) bytes at new one other)

-- ---- the state

more-pages : (memory : Memory) (pages : ℕ) → pages_of (with_more_pages pages memory) ≡ pages_of memory + pages
more-pages memory pages =
    let long = length-append memory.bytes (replicate (pages * page_size) 0) in
    let more = length-replicate {A = ℕ} (pages * page_size) 0 in
    omega (arith, long, more)

kept-in : (s : State) (change : Change) → IsStateTyped (state_context s) s → IsChangeTyped s change → IsStateTyped (state_context s) (applied change s)
kept-in s Nothing t c = t
kept-in s (SetGlobal index value) t c = record {
  functions = t.functions;
  globals = each-altered (λ (g : Global). HasType (state_context s) g.content g.type.value) (λ g. with_content value g) s.globals index t.globals (λ g is old. c g is);
  tables = t.tables;
  elements = t.elements;
  memories = t.memories;
  datas = t.datas;
  pages = t.pages;
  sizes = t.sizes;
}
kept-in s (WriteTable index at new) t c = record {
  functions = t.functions;
  globals = t.globals;
  tables = each-altered (λ (table : Table). HaveKind (state_context s) table.kind table.entries) (λ table. with_entries at new table) s.tables index t.tables
      (λ table is old. each-written (λ r. HasType (state_context s) (Ref r) (type_of_kind table.kind)) table.entries at new old (c table is).0);
  elements = t.elements;
  memories = t.memories;
  datas = t.datas;
  pages = t.pages;
  sizes = each-altered (λ (table : Table). length table.entries < 2 ^ 32) (λ table. with_entries at new table) s.tables index t.sizes
      (λ table is old. subst (λ (n : ℕ). n < 2 ^ 32) (sym (length-overwritten table.entries at new (c table is).1)) old);
}
kept-in s (GrowTable index by reference) t c = record {
  functions = t.functions;
  globals = t.globals;
  tables = each-altered (λ (table : Table). HaveKind (state_context s) table.kind table.entries) (λ table. with_more_entries by reference table) s.tables index t.tables
      (λ table is old. each-join (λ r. HasType (state_context s) (Ref r) (type_of_kind table.kind)) table.entries (replicate by reference) old
      (λ k r e. subst (λ (x : Reference). HasType (state_context s) (Ref x) (type_of_kind table.kind)) (each-same reference by k r e) (c table is).0));
  elements = t.elements;
  memories = t.memories;
  datas = t.datas;
  pages = t.pages;
  sizes = each-altered (λ (table : Table). length table.entries < 2 ^ 32) (λ table. with_more_entries by reference table) s.tables index t.sizes
      (λ table is old. let le = (c table is).1 in omega (arith, length-append table.entries (replicate by reference), length-replicate by reference, le));
}
kept-in s (WriteMemory index at bytes) t c = record {
  functions = t.functions;
  globals = t.globals;
  tables = t.tables;
  elements = t.elements;
  memories =
      each-altered (λ (m : Memory). HoldsBytes m.bytes) (λ m. with_bytes at bytes m) s.memories index t.memories (λ m is old. bytes-written m.bytes at bytes old c.0);
  datas = t.datas;
  pages = each-altered (λ (m : Memory). pages_of m < 2 ^ 32) (λ m. with_bytes at bytes m) s.memories index t.pages
      (λ m is old. subst (λ (n : ℕ). n / page_size < 2 ^ 32) (sym (length-written m.bytes at bytes (c.1 m is))) old);
  sizes = t.sizes;
}
kept-in s (GrowMemory index pages) t c = record {
  functions = t.functions;
  globals = t.globals;
  tables = t.tables;
  elements = t.elements;
  memories = each-altered (λ (m : Memory). HoldsBytes m.bytes) (λ m. with_more_pages pages m) s.memories index t.memories
      (λ m is old. each-join (λ byte. byte < 256) m.bytes (replicate (pages * page_size) 0) old
      (λ k byte e. let same = each-same 0 (pages * page_size) k byte e in omega (arith, same)));
  datas = t.datas;
  pages = each-altered (λ (m : Memory). pages_of m < 2 ^ 32) (λ m. with_more_pages pages m) s.memories index t.pages
      (λ m is old. subst (λ (n : ℕ). n < 2 ^ 32) (sym (more-pages m pages)) (c m is));
  sizes = t.sizes;
}
kept-in s (EmptyElement index) t c = record {
  functions = t.functions;
  globals = t.globals;
  tables = t.tables;
  elements =
      each-altered (λ (e : Element). HaveKind (state_context s) e.kind e.items) (λ e. without_items e) s.elements index t.elements (λ e is old k r h. absurd (cc h));
  memories = t.memories;
  datas = t.datas;
  pages = t.pages;
  sizes = t.sizes;
}
kept-in s (EmptyData index) t c = record {
  functions = t.functions;
  globals = t.globals;
  tables = t.tables;
  elements = t.elements;
  memories = t.memories;
  datas = each-altered (λ (bytes : List ℕ). HoldsBytes bytes) (λ (bytes : List ℕ). []) s.datas index t.datas (λ bytes is old k byte h. absurd (cc h));
  pages = t.pages;
  sizes = t.sizes;
}

-- such a change keeps the state typed
pub change_keeps_typing : ChangeKeepsTyping
change_keeps_typing s change t c =
    subst (λ (context : TypingContext). IsStateTyped context (applied change s)) (sym (context_lasts change s)) (kept-in s change t c)

-- ---- other bytes in a memory

bytes-each : (bytes : List ℕ) → All (λ byte. byte < 256) bytes → HoldsBytes bytes
bytes-each bytes all k byte e =
    subst (λ (n : ℕ). n < 256) (get_or_from_slice_get bytes k byte byte e) (All-get_or (λ b. b < 256) bytes k byte (slice_get_within bytes k byte e) all)

other-contents : (s : State) (index pages : ℕ) (bytes : List ℕ) → IsStateTyped (state_context s) s → All (λ byte. byte < 256) bytes
    → length bytes ≡ pages * page_size → pages < 2 ^ 32 → IsStateTyped (state_context s) (with_contents_at s index bytes)
other-contents s index pages bytes t all whole few = record {
  functions = t.functions;
  globals = t.globals;
  tables = t.tables;
  elements = t.elements;
  memories = each-altered (λ (m : Memory). HoldsBytes m.bytes) (λ m. with_contents bytes m) s.memories index t.memories (λ m is old. bytes-each bytes all);
  datas = t.datas;
  pages = each-altered (λ (m : Memory). pages_of m < 2 ^ 32) (λ m. with_contents bytes m) s.memories index t.pages (λ m is old. omega (arith, whole, few));
  sizes = t.sizes;
}

pub contents_keep_typing : ContentsKeepTyping
contents_keep_typing s stack index pages bytes typed all whole few =
    let now : State = with_contents_at s index bytes in
    let same : state_context now ≡ state_context s =
    ap (λ (n : ℕ). record (state_context s) { memories = n }) (length-altered (λ (m : Memory). with_contents bytes m) s.memories index) in
    record {
      state = subst (λ (context : TypingContext). IsStateTyped context now) (sym same) (other-contents s index pages bytes typed.state all whole few);
      terms = subst (λ (context : TypingContext). IsStackTyped context stack) (sym same) typed.terms;
    }
