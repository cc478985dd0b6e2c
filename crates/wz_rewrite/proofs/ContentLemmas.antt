-- What the contents of the output's sections spell, one kind of section after the other.
use Rattle.std.proofs.Common.{◌≡◌, ◌≢◌, ℕ, ◌+◌, ◌^◌, ◌<◌, ◌≤◌, Bool, true, false, List, [], ◌∷◌, ◌++◌, length, map, Option, Some, None, sym, ap, subst, ◌∙◌, refl, inl, inr, arith, append_assoc}
use Rattle.std.specs.Prelude.{slice_get, ◌==◌, ◌&&◌, option_map, IsTrue}
use Rattle.std.specs.List.{All, zip}
use Rattle.std.proofs.lemmas.Bool.{cases_Bool, eqb-true}
use Rattle.std.proofs.lemmas.List.{length-map}
use Rattle.std.proofs.lemmas.List.Elements.{All-nil, All-cons, All-head, All-tail, All-weaker, All-append, All-map}
use Rattle.std.proofs.lemmas.Slice.Zip.{length-zip}
use Rattle.wz_bytes.specs.Reading.{Form}
use Rattle.wz_bytes.specs.Shortest.{shortest_unsigned}
use Rattle.wz_bytes.specs.Forms.{IsVector, AreItems}
use Rattle.wz_bytes.proofs.UnsignedLaws.{unsigned_below}
use Rattle.wz_types.specs.declared.types.MemType.{MemType}
use Rattle.wz_store.specs.State.{Memory}
use Rattle.wz_module.specs.Globals.{GlobalDef}
use Rattle.wz_module.specs.Elements.{ElemMode, PassiveElem, ActiveElem, DeclarativeElem, Elem}
use Rattle.wz_module.specs.Datas.{DataMode, PassiveData, ActiveData, DataSegment}
use Rattle.wz_module.specs.Module.{Module}
use Rattle.wz_decode_sections.specs.MemorySection.{IsMemorySection}
use Rattle.wz_decode_sections.specs.GlobalSection.{IsGlobalSection}
use Rattle.wz_decode_sections.specs.ExportSection.{IsExportSection}
use Rattle.wz_decode_sections.specs.ElementSection.{IsElementSection}
use Rattle.wz_decode_sections.specs.DataSection.{IsData, IsDataSection}
use Rattle.wz_decode_sections.specs.DataCountSection.{IsDataCountSection}
use Rattle.wz_decode.specs.Parts.{HoldsList, HoldsNumber}
use Rattle.wz_encode.specs.Limits.{memories_text}
use Rattle.wz_encode.specs.Globals.{globals_text, global_with}
use Rattle.wz_encode.specs.Exports.{exports_text}
use Rattle.wz_encode.specs.Elements.{is_dropped, elements_with, elements_text}
use Rattle.wz_encode.specs.Datas.{Slot, PassiveSlot, EmptySlot}
use Rattle.wz_encode.specs.Laws.{CanBeVector, CanBeBytes, CanBeMemory, CanBeSegment, DroppedArePassive}
use Rattle.wz_encode.proofs.WrittenLaws.{number_spelled, memories_spelled, globals_spelled, exports_spelled}
use Rattle.wz_encode.proofs.ElementsWritten.{elements_are_spelled, declaration_is_spelled}
use Rattle.wz_snapshot.specs.declared.segment.ChosenSegment.{ChosenSegment}
use Rattle.wz_rewrite.specs.OutputState.{OutputState, HasRange}
use Rattle.wz_rewrite.specs.Dropped.{is_passive, was_emptied, was_dropped, is_empty_at, dropped_from, dropped_elements}
use Rattle.wz_rewrite.specs.Slots.{passive_slot, head_slot, slots_at, slots_from, output_slots, behind_slot, with_behind, filled_slots}
use Rattle.wz_rewrite.specs.Segments.{segments_of}
use Rattle.wz_rewrite.specs.Parts.{memory_of_size, output_memories, global_types, output_globals, output_elements, count_where_one_was}
use Rattle.wz_rewrite.specs.Sections.{renewed_elements}
use Rattle.wz_rewrite.specs.Laws.{CanBeRange, CanBeOutput}
use Rattle.wz_rewrite.proofs.SegmentLemmas.{payload_split, dropped_above}
use Rattle.wz_rewrite.proofs.WritingLemmas.{length_in}

-- what a section holds are fewer than 2^32 items
few_in : {X : Type 0} (S : Form X) (payload : List ℕ) (xs : List X) → IsVector S payload xs → length xs < 2 ^ 32
few_in S payload xs h = unsigned_below 32 h.0 (length xs) h.3

few_held : {X : Type 0} (S : Form X) (place : Option (List ℕ)) (xs : List X) → HoldsList (λ t ys. IsVector S t ys) place xs → length xs < 2 ^ 32
few_held {X = X} S None xs h = let none : length xs ≡ 0 = ap (λ (ys : List X). length ys) h in omega (arith, none)
few_held S (Some payload) xs h = few_in S payload xs h

-- ---- memories, globals and exports

few_memories : (memories : List MemType) (pages : List ℕ) → length memories < 2 ^ 32 → length (map memory_of_size (zip memories pages)) < 2 ^ 32
few_memories memories pages few =
    let l = length-map (zip memories pages) memory_of_size in
    let z = length-zip memories pages in
    omega (arith, l, z, few)

module _ (m : Module) (o : OutputState) (can : CanBeOutput m o) where
  pub sizes_can : (place : Option (List ℕ)) → HoldsList IsMemorySection place m.memories → CanBeVector CanBeMemory (output_memories m o)
  sizes_can place h = (few_memories m.memories o.pages (few_held _ place m.memories h), can.sizes)

  pub memories_hold : (place : Option (List ℕ)) → HoldsList IsMemorySection place m.memories
      → HoldsList IsMemorySection (option_map (λ p. memories_text (output_memories m o)) place) (output_memories m o)
  memories_hold None h = ap (λ (ms : List MemType). map memory_of_size (zip ms o.pages)) h
  memories_hold (Some payload) h = memories_spelled (output_memories m o) (sizes_can (Some payload) h)

  same_number : length (global_types m) ≡ length o.globals
  same_number = length-map m.globals (λ global. global.kind) ∙ can.globals

  pub globals_hold : (place : Option (List ℕ)) → HoldsList IsGlobalSection place m.globals
      → HoldsList IsGlobalSection (option_map (λ p. globals_text (global_types m) o.globals) place) (output_globals m o)
  globals_hold None h = ap (λ (gs : List GlobalDef). map global_with (zip (map (λ global. global.kind) gs) o.globals)) h
  globals_hold (Some payload) h = globals_spelled (global_types m) o.globals same_number can.constants

  pub exports_hold : (place : Option (List ℕ)) → (place ≡ None → o.exports ≡ []) → HoldsList IsExportSection (option_map (λ p. exports_text o.exports) place) o.exports
  exports_hold None none = none refl
  exports_hold (Some payload) none = exports_spelled o.exports can.exports

-- ---- the data count

pub count_holds : (old : Option ℕ) (place : Option (List ℕ)) (n : ℕ) → n < 2 ^ 32 → HoldsNumber IsDataCountSection place old
    → HoldsNumber IsDataCountSection (option_map (λ p. shortest_unsigned n) place) (count_where_one_was old n)
count_holds None None n few h = refl
count_holds (Some x) None n few h = absurd cc
count_holds None (Some payload) n few h = absurd h
count_holds (Some x) (Some payload) n few h = number_spelled n few

-- ---- element segments

never_among : (n : ℕ) (ns : List ℕ) → All (λ other. other ≢ n) ns → is_dropped ns n ≡ false
never_among n [] h = refl
never_among n (x ∷ ns) h = elim (cases_Bool (x == n)) [
  | inl e ↦ absurd (All-head (λ other. other ≢ n) x ns h (eqb-true x n e))
  | inr e ↦ rw e (never_among n ns (All-tail (λ other. other ≢ n) x ns h))
]

passive_of : (mode : ElemMode) (b : Bool) → (is_passive mode && b) ≡ true → mode ≡ PassiveElem
passive_of PassiveElem b h = refl
passive_of (ActiveElem table offset) b h = absurd cc
passive_of DeclarativeElem b h = absurd cc

-- only passive segments are dropped
passive_from : (marks : List Bool) (front : List ℕ) (number : ℕ) (elements : List Elem) → All (λ other. other < number) front
    → DroppedArePassive (front ++ dropped_from marks number elements) number elements
passive_from marks front number [] below = tt
passive_from marks front number (e ∷ elements) below =
    let rest = dropped_from marks (number + 1) elements in
    elim (cases_Bool (was_dropped e (is_empty_at marks number))) [
      | inl here ↦
          let more : All (λ other. other < number + 1) (front ++ number ∷ []) =
          All-append (λ other. other < number + 1) front (number ∷ []) (All-weaker (λ other. other < number) (λ other. other < number + 1) (λ other h. omega (arith, h)) front below)
          (All-cons (λ other. other < number + 1) number [] (omega arith) (All-nil (λ other. other < number + 1))) in
          let others = passive_from marks (front ++ number ∷ []) (number + 1) elements more in
          let same : (front ++ number ∷ []) ++ rest ≡ front ++ number ∷ rest = append_assoc front (number ∷ []) rest in
          let step : dropped_from marks number (e ∷ elements) ≡ number ∷ rest = rw here refl in
          let is : DroppedArePassive (front ++ number ∷ rest) number (e ∷ elements) =
          ((λ _. passive_of e.mode _ here), subst (λ (ns : List ℕ). DroppedArePassive ns (number + 1) elements) same others) in
          subst (λ (ns : List ℕ). DroppedArePassive (front ++ ns) number (e ∷ elements)) (sym step) is
      | inr other ↦
          let lower : All (λ n. n ≢ number) front = All-weaker (λ n. n < number) (λ n. n ≢ number) (λ n h e. omega (arith, h, e)) front below in
          let upper : All (λ n. n ≢ number) rest =
          All-weaker (λ n. number + 1 ≤ n) (λ n. n ≢ number) (λ n h e. omega (arith, h, e)) rest (dropped_above marks (number + 1) elements) in
          let never = never_among number (front ++ rest) (All-append (λ n. n ≢ number) front rest lower upper) in
          let more = All-weaker (λ n. n < number) (λ n. n < number + 1) (λ n h. omega (arith, h)) front below in
          let step : dropped_from marks number (e ∷ elements) ≡ rest = rw other refl in
          let is : DroppedArePassive (front ++ rest) number (e ∷ elements) =
          ((λ (named : IsTrue (is_dropped (front ++ rest) number)). let wrong : true ≡ false = sym named ∙ never in absurd cc), passive_from marks front (number + 1) elements more) in
          subst (λ (ns : List ℕ). DroppedArePassive (front ++ ns) number (e ∷ elements)) (sym step) is
    ]

pub dropped_passive : (m : Module) (o : OutputState) → DroppedArePassive (dropped_elements m o) 0 m.elements
dropped_passive m o = passive_from o.empty_elements [] 0 m.elements (All-nil (λ other. other < 0))

pub elements_renewed : (m : Module) (o : OutputState) → CanBeOutput m o → (payload : List ℕ) → IsElementSection payload m.elements
    → IsElementSection (renewed_elements m o payload) (output_elements m o)
elements_renewed m o can payload h =
    elements_are_spelled payload (segments_of payload) m.elements (dropped_elements m o) o.undeclared (payload_split payload m.elements h)
    (omega (arith, can.segments)) (dropped_passive m o) can.undeclared

-- where there was no element section
pub elements_new : (m : Module) (o : OutputState) → CanBeOutput m o → m.elements ≡ [] → IsElementSection (elements_text None [] [] o.undeclared) (output_elements m o)
elements_new m o can none =
    subst (λ (es : List Elem). IsElementSection (elements_text None [] [] o.undeclared) (elements_with es (dropped_from o.empty_elements 0 es) o.undeclared)) (sym none)
    (declaration_is_spelled [] o.undeclared can.undeclared)

pub elements_none : (m : Module) (o : OutputState) → m.elements ≡ [] → o.undeclared ≡ [] → output_elements m o ≡ []
elements_none m o none nothing =
    ap (λ (es : List Elem). elements_with es (dropped_from o.empty_elements 0 es) o.undeclared) none ∙ ap (λ (fs : List ℕ). elements_with [] [] fs) nothing

-- ---- data segments

data_bytes : (text : List ℕ) (d : DataSegment) → IsData text d → CanBeBytes d.bytes
data_bytes text d (inl h) =
    let bytes = h.4.1.4 in
    subst (λ (e : DataSegment). CanBeBytes e.bytes) (sym h.4.2) (unsigned_below 32 bytes.0 (length h.4.0.1) bytes.2, bytes.3)
data_bytes text d (inr (inl h)) =
    let bytes = h.4.1 in
    subst (λ (e : DataSegment). CanBeBytes e.bytes) (sym h.4.2) (unsigned_below 32 bytes.0 (length h.4.0) bytes.2, bytes.3)
data_bytes text d (inr (inr h)) =
    let bytes = h.4.1.4.4 in
    subst (λ (e : DataSegment). CanBeBytes e.bytes) (sym h.4.2) (unsigned_below 32 bytes.0 (length h.4.0.1.1) bytes.2, bytes.3)

datas_bytes_in : (text : List ℕ) (datas : List DataSegment) → AreItems (λ t d. IsData t d) text datas → All (λ d. CanBeBytes d.bytes) datas
datas_bytes_in text [] h = All-nil (λ (d : DataSegment). CanBeBytes d.bytes)
datas_bytes_in text (d ∷ datas) h = All-cons (λ (d : DataSegment). CanBeBytes d.bytes) d datas (data_bytes h.0 d h.3) (datas_bytes_in h.1 datas h.4)

pub data_bytes_held : (place : Option (List ℕ)) (datas : List DataSegment) → HoldsList IsDataSection place datas → All (λ d. CanBeBytes d.bytes) datas
data_bytes_held None datas h = subst (λ (ds : List DataSegment). All (λ d. CanBeBytes d.bytes) ds) (sym h) (All-nil (λ (d : DataSegment). CanBeBytes d.bytes))
data_bytes_held (Some payload) datas h = datas_bytes_in h.1 datas h.4

-- a chosen range that can be written, within its memory
abbrev CanStand : List Memory → ChosenSegment → Type 0
CanStand memories c = HasRange memories c × CanBeRange memories c

abbrev SlotCan : List Memory → Slot → Type 0
SlotCan memories slot = CanBeSegment slot (behind_slot memories slot)

head_can : (memories : List Memory) (c : ChosenSegment) → CanStand memories c → SlotCan memories (head_slot c)
head_can memories c h = (h.1.0, h.1.1, length_in (slice_get memories c.memory) c.at c.len h.0, h.1.2)

heads_can : (memories : List Memory) (chosen : List ChosenSegment) → All (λ c. CanStand memories c) chosen → All (λ s. SlotCan memories s) (map head_slot chosen)
heads_can memories [] h = All-nil (λ (s : Slot). SlotCan memories s)
heads_can memories (c ∷ chosen) h =
    All-cons (λ (s : Slot). SlotCan memories s) (head_slot c) (map head_slot chosen) (head_can memories c (All-head (λ (c : ChosenSegment). CanStand memories c) c chosen h))
    (heads_can memories chosen (All-tail (λ (c : ChosenSegment). CanStand memories c) c chosen h))

slots_at_can : (memories : List Memory) (mode : DataMode) (bytes : List ℕ) (empty : Bool) (chosen : List ChosenSegment) (others : List ChosenSegment → List Slot)
    → CanBeBytes bytes → All (λ c. CanStand memories c) chosen
    → ((left : List ChosenSegment) → All (λ c. CanStand memories c) left → All (λ s. SlotCan memories s) (others left))
    → All (λ s. SlotCan memories s) (slots_at mode bytes empty chosen others)
slots_at_can memories PassiveData bytes empty chosen others can all more =
    let P = λ (s : Slot). SlotCan memories s in
    elim (cases_Bool (was_emptied bytes empty)) [
      | inl e ↦
          let step : passive_slot bytes empty ≡ EmptySlot = rw e refl in
          subst (λ (s : Slot). All P (s ∷ others chosen)) (sym step) (All-cons P EmptySlot (others chosen) refl (more chosen all))
      | inr e ↦
          let step : passive_slot bytes empty ≡ PassiveSlot bytes = rw e refl in
          subst (λ (s : Slot). All P (s ∷ others chosen)) (sym step) (All-cons P (PassiveSlot bytes) (others chosen) (can, refl) (more chosen all))
    ]
slots_at_can memories (ActiveData memory offset) bytes empty [] others can all more =
    All-cons (λ (s : Slot). SlotCan memories s) EmptySlot (others []) refl (more [] all)
slots_at_can memories (ActiveData memory offset) bytes empty (c ∷ chosen) others can all more =
    All-cons (λ (s : Slot). SlotCan memories s) (head_slot c) (others chosen) (head_can memories c (All-head (λ (c : ChosenSegment). CanStand memories c) c chosen all))
    (more chosen (All-tail (λ (c : ChosenSegment). CanStand memories c) c chosen all))

slots_can : (memories : List Memory) (marks : List Bool) (number : ℕ) (datas : List DataSegment) (chosen : List ChosenSegment)
    → All (λ d. CanBeBytes d.bytes) datas → All (λ c. CanStand memories c) chosen → All (λ s. SlotCan memories s) (slots_from marks number datas chosen)
slots_can memories marks number [] chosen can all = heads_can memories chosen all
slots_can memories marks number (d ∷ datas) chosen can all =
    slots_at_can memories d.mode d.bytes (is_empty_at marks number) chosen (λ left. slots_from marks (number + 1) datas left)
    (All-head (λ (d : DataSegment). CanBeBytes d.bytes) d datas can) all
    (λ left h. slots_can memories marks (number + 1) datas left (All-tail (λ (d : DataSegment). CanBeBytes d.bytes) d datas can) h)

pub filled_can : (m : Module) (o : OutputState) → CanBeOutput m o → All (λ d. CanBeBytes d.bytes) m.datas → CanBeVector (λ s. CanBeSegment s.0 s.1) (filled_slots m o)
filled_can m o can bytes =
    let slots = output_slots m o in
    let stand : All (λ c. CanStand o.memories c) o.chosen = λ k d inside. (can.ranges k d inside, can.chosen k d inside) in
    let l = length-map slots (λ (slot : Slot). with_behind o.memories slot) in
    let few = can.slots in (
      omega (arith, l, few),
      All-map (λ (s : Slot × List ℕ). CanBeSegment s.0 s.1) (λ (slot : Slot). with_behind o.memories slot) slots
          (slots_can o.memories o.empty_datas 0 m.datas o.chosen bytes stand),
    )
