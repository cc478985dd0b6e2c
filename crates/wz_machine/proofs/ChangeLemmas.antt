-- What changes of a state leave alone.
use Rattle.std.proofs.Common.{◌≡◌, ℕ, zero, suc, List, [], ◌∷◌, ◌++◌, Option, length, map, refl, ap, ◌∙◌}
use Rattle.wz_types.specs.declared.types.GlobalType.{GlobalType}
use Rattle.wz_types.specs.declared.types.RefKind.{RefKind}
use Rattle.wz_store.specs.State.{Global, Table, Memory, Element}
use Rattle.wz_store.specs.Changes.{Change, Nothing, SetGlobal, WriteTable, WriteMemory, GrowTable, GrowMemory, EmptyElement, EmptyData, altered, with_content, with_entries, with_more_entries, with_bytes, with_more_pages, without_items, applied}
use Rattle.wz_machine.specs.State.{State, lasting_parts}
use Rattle.wz_machine.specs.Within.{with_more}
use Rattle.wz_machine.specs.Laws.{ChangeKeeps, ChangeReachesState}

pub length-altered : {A : Type 0} (alter : A → A) (xs : List A) (i : ℕ) → length (altered alter xs i) ≡ length xs
length-altered alter [] i = refl
length-altered alter (x ∷ xs) zero = refl
length-altered alter (x ∷ xs) (suc i) = ap suc (length-altered alter xs i)

-- what altering an item leaves alone in it
pub map-altered : {A B : Type 0} (f : A → B) (alter : A → A) → ((x : A) → f (alter x) ≡ f x) → (xs : List A) (i : ℕ) → map f (altered alter xs i) ≡ map f xs
map-altered f alter same [] i = refl
map-altered f alter same (x ∷ xs) zero = ap (λ y. y ∷ map f xs) (same x)
map-altered f alter same (x ∷ xs) (suc i) = ap (λ ys. f x ∷ ys) (map-altered f alter same xs i)

table-kept : (s : State) (alter : Table → Table) → ((table : Table) → (alter table).kind ≡ table.kind) → ((table : Table) → (alter table).maximum ≡ table.maximum) → (index : ℕ)
    → lasting_parts (record s { tables = altered alter s.tables index }) ≡ lasting_parts s
table-kept s alter kind maximum index =
    ap (λ (kinds : List RefKind). record (lasting_parts (record s { tables = altered alter s.tables index })) { table_kinds = kinds })
    (map-altered (λ (table : Table). table.kind) alter kind s.tables index)
    ∙ ap (λ (maxima : List (Option ℕ)). record (lasting_parts s) { table_maxima = maxima }) (map-altered (λ (table : Table). table.maximum) alter maximum s.tables index)

memory-kept : (s : State) (alter : Memory → Memory) → ((memory : Memory) → (alter memory).maximum ≡ memory.maximum) → (index : ℕ)
    → lasting_parts (record s { memories = altered alter s.memories index }) ≡ lasting_parts s
memory-kept s alter maximum index =
    ap (λ (maxima : List (Option ℕ)). record (lasting_parts s) { memory_maxima = maxima }) (map-altered (λ (memory : Memory). memory.maximum) alter maximum s.memories index)

pub change_keeps : ChangeKeeps
change_keeps Nothing s = refl
change_keeps (SetGlobal index value) s =
    ap (λ (types : List GlobalType). record (lasting_parts s) { globals = types })
    (map-altered (λ (global : Global). global.type) (λ global. with_content value global) (λ global. refl) s.globals index)
change_keeps (WriteTable index at new) s = table-kept s (λ table. with_entries at new table) (λ table. refl) (λ table. refl) index
change_keeps (GrowTable index by reference) s = table-kept s (λ table. with_more_entries by reference table) (λ table. refl) (λ table. refl) index
change_keeps (WriteMemory index at bytes) s = memory-kept s (λ memory. with_bytes at bytes memory) (λ memory. refl) index
change_keeps (GrowMemory index pages) s = memory-kept s (λ memory. with_more_pages pages memory) (λ memory. refl) index
change_keeps (EmptyElement index) s =
    ap (λ (kinds : List RefKind). record (lasting_parts s) { element_kinds = kinds })
    (map-altered (λ (element : Element). element.kind) (λ element. without_items element) (λ element. refl) s.elements index)
change_keeps (EmptyData index) s = ap (λ (n : ℕ). record (lasting_parts s) { datas = n }) (length-altered (λ (bytes : List ℕ). []) s.datas index)

pub change_reaches_state : ChangeReachesState
change_reaches_state bodies store Nothing = refl
change_reaches_state bodies store (SetGlobal index value) = refl
change_reaches_state bodies store (WriteTable index at new) = refl
change_reaches_state bodies store (WriteMemory index at bytes) = refl
change_reaches_state bodies store (GrowTable index by reference) = refl
change_reaches_state bodies store (GrowMemory index pages) = refl
change_reaches_state bodies store (EmptyElement index) = refl
change_reaches_state bodies store (EmptyData index) = refl

-- ---- a state with more segments

-- an item of two lists is altered in one of them
altered-append : {A : Type 0} (alter : A → A) (xs ys : List A) (i : ℕ) → (zs : List A) × (altered alter (xs ++ ys) i ≡ altered alter xs i ++ zs)
altered-append alter [] ys i = (altered alter ys i, refl)
altered-append alter (x ∷ xs) ys zero = (ys, refl)
altered-append alter (x ∷ xs) ys (suc i) = let r = altered-append alter xs ys i in (r.0, ap (λ zs. x ∷ zs) r.1)

-- a change of a state with more segments is the change of the state, again with more
pub applied-more : (change : Change) (s : State) (elements : List Element) (datas : List (List ℕ))
    → (es : List Element) × (ds : List (List ℕ)) × (applied change (with_more s elements datas) ≡ with_more (applied change s) es ds)
applied-more (EmptyElement index) s elements datas =
    let r = altered-append (λ element. without_items element) s.elements elements index in
    (r.0, datas, ap (λ (e : List Element). record s { elements = e; datas = s.datas ++ datas }) r.1)
applied-more (EmptyData index) s elements datas =
    let r = altered-append (λ (bytes : List ℕ). []) s.datas datas index in
    (elements, r.0, ap (λ (d : List (List ℕ)). record s { elements = s.elements ++ elements; datas = d }) r.1)
applied-more Nothing s elements datas = (elements, datas, refl)
applied-more (SetGlobal index value) s elements datas = (elements, datas, refl)
applied-more (WriteTable index at new) s elements datas = (elements, datas, refl)
applied-more (GrowTable index by reference) s elements datas = (elements, datas, refl)
applied-more (WriteMemory index at bytes) s elements datas = (elements, datas, refl)
applied-more (GrowMemory index pages) s elements datas = (elements, datas, refl)
