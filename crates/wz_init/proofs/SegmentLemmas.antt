-- Segments that are run through one by one.
use Rattle.std.proofs.Common.{◌≡◌, ℕ, ◌+◌, ◌<◌, ◌↔◌, List, [], Bool, true, false, IsTrue, length, drop, get_or, slice_get, refl, sym, ap, subst, ◌∙◌}
use Rattle.std.specs.Bool.{OnTrue, OnFalse}
use Rattle.std.proofs.lemmas.Option.{slice_get_within}
use Rattle.wz_types.specs.declared.types.RefKind.{RefKind}
use Rattle.wz_module.specs.declared.items.ElemMode.{ElemMode}
use Rattle.wz_module.specs.declared.items.ElemMode.TheVariants as elem_mode
use Rattle.wz_module.specs.declared.items.Elem.{Elem}
use Rattle.wz_module.specs.declared.items.DataMode.{DataMode}
use Rattle.wz_module.specs.declared.items.DataMode.TheVariants as data_mode
use Rattle.wz_module.specs.declared.items.DataSegment.{DataSegment}
use Rattle.wz_module.specs.Views.{init_of}
use Rattle.wz_store.specs.State.{Table, Element, StateOf}
use Rattle.wz_store.specs.Changes.{Change, Nothing, SetGlobal, WriteTable, WriteMemory, GrowTable, GrowMemory, EmptyElement, EmptyData, altered, with_entries, with_more_entries, with_bytes, with_more_pages, without_items, applied}
use Rattle.wz_store.specs.Made.{StoreState}
use Rattle.wz_store.proofs.ChangeLemmas.{length-altered, map-altered, altered_kept}
use Rattle.wz_bulk.specs.Effects.{BulkEffect, Makes, Aborts, Misfits}
use Rattle.wz_bulk.specs.TableEffects.{table_init_effect}
use Rattle.wz_bulk.specs.MemoryEffects.{memory_init_effect}
use Rattle.wz_init.specs.Instances.{InstanceOf, Instance, ElementUnfit, DataUnfit, instance_then}
use Rattle.wz_init.specs.Instantiation.{copied}
use Rattle.wz_init.specs.Plain.{table_kinds, element_kinds, plain_number, plain_element_run, plain_elements_run, plain_data_run, plain_datas_run, IsElemReady, IsDataReady}
use Rattle.wz_init.proofs.BehindLemmas.{rest_at}

-- ---- a segment is emptied where it is there, and nothing changes where it isn't

nothing_altered : {A : Type 0} (alter : A → A) (xs : List A) (i : ℕ) → (i < length xs → ⊥) → altered alter xs i ≡ xs
nothing_altered alter xs i out = altered_kept alter xs i (λ x here. absurd (out (slice_get_within xs i x here)))

either_way : (found : Bool) (P : Type 0) {there : Type 0} {same : Type 0} → (IsTrue found ↔ there) → OnTrue found P → OnFalse found same
    → ((there → ⊥) → same → P) → P
either_way true P found changed missing out = changed
either_way false P found changed missing out = out (λ there. cc (found.1 there)) missing

pub element_dropped : (s now : StoreState) (index : ℕ) (found : Bool) → (IsTrue found ↔ (index < length s.elements)) → OnTrue found (now ≡ applied (EmptyElement index) s)
    → OnFalse found (now ≡ s) → now ≡ applied (EmptyElement index) s
element_dropped s now index found there changed missing =
    either_way found (now ≡ applied (EmptyElement index) s) there changed missing
    (λ out same. same ∙ ap (λ (es : List Element). record s { elements = es }) (sym (nothing_altered (λ element. without_items element) s.elements index out)))

pub data_dropped : (s now : StoreState) (index : ℕ) (found : Bool) → (IsTrue found ↔ (index < length s.datas)) → OnTrue found (now ≡ applied (EmptyData index) s)
    → OnFalse found (now ≡ s) → now ≡ applied (EmptyData index) s
data_dropped s now index found there changed missing =
    either_way found (now ≡ applied (EmptyData index) s) there changed missing
    (λ out same. same ∙ ap (λ (ds : List (List ℕ)). record s { datas = ds }) (sym (nothing_altered (λ (bytes : List ℕ). []) s.datas index out)))

-- ---- what a change leaves alone

pub table_kinds_kept : {F : Type 0} (change : Change) (s : StateOf F) → table_kinds (applied change s) ≡ table_kinds s
table_kinds_kept Nothing s = refl
table_kinds_kept (SetGlobal index value) s = refl
table_kinds_kept (WriteTable index at new) s = map-altered (λ (table : Table). table.kind) (λ table. with_entries at new table) (λ table. refl) s.tables index
table_kinds_kept (WriteMemory index at bytes) s = refl
table_kinds_kept (GrowTable index by reference) s =
    map-altered (λ (table : Table). table.kind) (λ table. with_more_entries by reference table) (λ table. refl) s.tables index
table_kinds_kept (GrowMemory index pages) s = refl
table_kinds_kept (EmptyElement index) s = refl
table_kinds_kept (EmptyData index) s = refl

pub element_kinds_kept : {F : Type 0} (change : Change) (s : StateOf F) → element_kinds (applied change s) ≡ element_kinds s
element_kinds_kept Nothing s = refl
element_kinds_kept (SetGlobal index value) s = refl
element_kinds_kept (WriteTable index at new) s = refl
element_kinds_kept (WriteMemory index at bytes) s = refl
element_kinds_kept (GrowTable index by reference) s = refl
element_kinds_kept (GrowMemory index pages) s = refl
element_kinds_kept (EmptyElement index) s = map-altered (λ (element : Element). element.kind) (λ element. without_items element) (λ element. refl) s.elements index
element_kinds_kept (EmptyData index) s = refl

pub memories_kept : {F : Type 0} (change : Change) (s : StateOf F) → length (applied change s).memories ≡ length s.memories
memories_kept Nothing s = refl
memories_kept (SetGlobal index value) s = refl
memories_kept (WriteTable index at new) s = refl
memories_kept (WriteMemory index at bytes) s = length-altered (λ memory. with_bytes at bytes memory) s.memories index
memories_kept (GrowTable index by reference) s = refl
memories_kept (GrowMemory index pages) s = length-altered (λ memory. with_more_pages pages memory) s.memories index
memories_kept (EmptyElement index) s = refl
memories_kept (EmptyData index) s = refl

pub datas_kept : {F : Type 0} (change : Change) (s : StateOf F) → length (applied change s).datas ≡ length s.datas
datas_kept Nothing s = refl
datas_kept (SetGlobal index value) s = refl
datas_kept (WriteTable index at new) s = refl
datas_kept (WriteMemory index at bytes) s = refl
datas_kept (GrowTable index by reference) s = refl
datas_kept (GrowMemory index pages) s = refl
datas_kept (EmptyElement index) s = refl
datas_kept (EmptyData index) s = length-altered (λ (bytes : List ℕ). []) s.datas index

-- ---- what a segment's copy leaves alone: any view of a state that changes keep

same_state : {F : Type 0} (s now : StateOf F) → Instance s ≡ Instance now → s ≡ now
same_state s now h = cc h

copy_keeps : {F A : Type 0} (view : StateOf F → A) → ((change : Change) (s : StateOf F) → view (applied change s) ≡ view s)
    → (unfit : InstanceOf F) → ((now : StateOf F) → unfit ≡ Instance now → ⊥) → (drop : Change) (s now : StateOf F) (effect : BulkEffect)
    → copied unfit drop s effect ≡ Instance now → view now ≡ view s
copy_keeps view kept unfit none drop s now (Makes change) h =
    ap view (sym (same_state (applied drop (applied change s)) now h)) ∙ kept drop (applied change s) ∙ kept change s
copy_keeps view kept unfit none drop s now (Aborts kind) h = absurd (none now h)
copy_keeps view kept unfit none drop s now Misfits h = absurd (cc h)

pub element_run_keeps : {F A : Type 0} (view : StateOf F → A) → ((change : Change) (s : StateOf F) → view (applied change s) ≡ view s)
    → (index count : ℕ) (mode : ElemMode) (s now : StateOf F) → plain_element_run index count mode s ≡ Instance now → view now ≡ view s
element_run_keeps view kept index count elem_mode.Passive s now h = ap view (sym (same_state s now h))
element_run_keeps view kept index count (elem_mode.Active table offset) s now h =
    copy_keeps view kept (ElementUnfit index) (λ now e. cc e) (EmptyElement index) s now
    (table_init_effect table (slice_get s.tables table) (slice_get s.elements index) (plain_number offset) 0 count) h
element_run_keeps view kept index count elem_mode.Declarative s now h = ap view (sym (same_state (applied (EmptyElement index) s) now h)) ∙ kept (EmptyElement index) s

pub data_run_keeps : {F A : Type 0} (view : StateOf F → A) → ((change : Change) (s : StateOf F) → view (applied change s) ≡ view s)
    → (index count : ℕ) (mode : DataMode) (s now : StateOf F) → plain_data_run index count mode s ≡ Instance now → view now ≡ view s
data_run_keeps view kept index count data_mode.Passive s now h = ap view (sym (same_state s now h))
data_run_keeps view kept index count (data_mode.Active memory offset) s now h =
    copy_keeps view kept (DataUnfit index) (λ now e. cc e) (EmptyData index) s now
    (memory_init_effect memory (slice_get s.memories memory) (slice_get s.datas index) (plain_number offset) 0 count) h

-- ---- one segment more

pub elements_next : {F : Type 0} (elements : List Elem) (i : ℕ) (e : Elem) (s now : StateOf F) (total : InstanceOf F) → i < length elements → e ≡ get_or elements i e
    → plain_element_run i (length (init_of e.items)) e.mode s ≡ Instance now → plain_elements_run i (drop i elements) s ≡ total
    → plain_elements_run (i + 1) (drop (i + 1) elements) now ≡ total
elements_next elements i e s now total less is run before =
    sym (ap (instance_then (λ next. plain_elements_run (i + 1) (drop (i + 1) elements) next)) run)
    ∙ sym (ap (λ (es : List Elem). plain_elements_run i es s) (rest_at elements i e less is)) ∙ before

pub datas_next : {F : Type 0} (segments : List DataSegment) (i : ℕ) (d : DataSegment) (s now : StateOf F) (total : InstanceOf F) → i < length segments
    → d ≡ get_or segments i d → plain_data_run i (length d.bytes.now) d.mode s ≡ Instance now → plain_datas_run i (drop i segments) s ≡ total
    → plain_datas_run (i + 1) (drop (i + 1) segments) now ≡ total
datas_next segments i d s now total less is run before =
    sym (ap (instance_then (λ next. plain_datas_run (i + 1) (drop (i + 1) segments) next)) run)
    ∙ sym (ap (λ (ds : List DataSegment). plain_datas_run i ds s) (rest_at segments i d less is)) ∙ before

-- ---- what a segment asks for is there all along

pub elem_ready_along : (tables others elements kinds : List RefKind) (index : ℕ) (e : Elem) → others ≡ tables → kinds ≡ elements → IsElemReady tables elements index e
    → IsElemReady others kinds index e
elem_ready_along tables others elements kinds index e same alike ready =
    subst (λ (ks : List RefKind). IsElemReady ks kinds index e) (sym same) (subst (λ (ks : List RefKind). IsElemReady tables ks index e) (sym alike) ready)

pub data_ready_along : (memories others datas many index : ℕ) (d : DataSegment) → others ≡ memories → many ≡ datas → IsDataReady memories datas index d
    → IsDataReady others many index d
data_ready_along memories others datas many index d same alike ready =
    subst (λ (n : ℕ). IsDataReady n many index d) (sym same) (subst (λ (n : ℕ). IsDataReady memories n index d) (sym alike) ready)
