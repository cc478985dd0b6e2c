-- The output as bytes spells the output as a module.
use Rattle.std.proofs.Common.{◌≡◌, ◌≢◌, ℕ, ◌^◌, ◌<◌, ◌≤◌, Bool, true, false, List, [], ◌∷◌, length, map, Option, Some, None, sym, ap, subst, ◌∙◌, refl, inl, inr, arith, lit<}
use Rattle.std.specs.Prelude.{◌==◌, ◌&&◌, option_map, IsSome, IfSome}
use Rattle.std.specs.List.{All, concat, flat_map}
use Rattle.std.proofs.lemmas.Bool.{cases_Bool, eqb-true, eqb-false}
use Rattle.std.proofs.lemmas.List.{length-map}
use Rattle.std.proofs.lemmas.List.Elements.{All-nil, All-cons, All-head, All-tail, All-append}
use Rattle.wz_bytes.specs.Reading.{Form}
use Rattle.wz_bytes.specs.Shortest.{shortest_unsigned}
use Rattle.wz_bytes.specs.Forms.{AreBytes}
use Rattle.wz_module.specs.Sections.{Section, section_rank, ranks_of, Rises, payload_of}
use Rattle.wz_module.specs.Datas.{DataSegment}
use Rattle.wz_module.specs.Module.{Module}
use Rattle.wz_decode_sections.specs.TypeSection.{IsTypeSection}
use Rattle.wz_decode_sections.specs.ImportSection.{IsImportSection}
use Rattle.wz_decode_sections.specs.FunctionSection.{IsFunctionSection}
use Rattle.wz_decode_sections.specs.TableSection.{IsTableSection}
use Rattle.wz_decode_sections.specs.StartSection.{IsStartSection}
use Rattle.wz_decode_sections.specs.ElementSection.{IsElementSection}
use Rattle.wz_decode_sections.specs.CodeSection.{IsCodeSection}
use Rattle.wz_decode_sections.specs.DataSection.{IsDataSection}
use Rattle.wz_decode_sections.specs.DataCountSection.{IsDataCountSection}
use Rattle.wz_decode.specs.SectionForm.{AreSections}
use Rattle.wz_decode.specs.Parts.{HoldsList, HoldsNumber, IsNamedIfCustom, HasParts}
use Rattle.wz_decode.specs.CountRules.{CountsAgree}
use Rattle.wz_encode.specs.SectionText.{section_text}
use Rattle.wz_encode.specs.Limits.{memories_text}
use Rattle.wz_encode.specs.Globals.{globals_text}
use Rattle.wz_encode.specs.Exports.{exports_text}
use Rattle.wz_encode.specs.Elements.{elements_text}
use Rattle.wz_encode.specs.Datas.{Slot, segment_of}
use Rattle.wz_encode.specs.Laws.{CanBeVector, CanBeSegment}
use Rattle.wz_encode.proofs.WrittenLaws.{section_spelled}
use Rattle.wz_encode.proofs.ElementsWritten.{one_each}
use Rattle.wz_encode.proofs.DatasWritten.{datas_spelled}
use Rattle.wz_encode.proofs.BytesWritten.{memories_bytes, globals_bytes, exports_bytes, elements_bytes, datas_bytes, count_bytes}
use Rattle.wz_snapshot.specs.declared.segment.ChosenSegment.{ChosenSegment}
use Rattle.wz_snapshot.specs.Recorded.{has_no_items}
use Rattle.wz_rewrite.specs.OutputState.{OutputState}
use Rattle.wz_rewrite.specs.Dropped.{dropped_elements}
use Rattle.wz_rewrite.specs.Slots.{output_slots, filled_slots, with_behind, slots_from}
use Rattle.wz_rewrite.specs.Segments.{segments_of}
use Rattle.wz_rewrite.specs.Parts.{output_memories, global_types, output_globals, output_elements, output_datas, output_data_count, count_where_one_was}
use Rattle.wz_rewrite.specs.Sections.{renewed_elements, datas_text, output_payload, lacks, elements_before, brings_elements, new_elements, brings_datas, new_datas, section_with, sections_for, output_sections}
use Rattle.wz_rewrite.specs.Output.{sections_text, output_module}
use Rattle.wz_rewrite.specs.Laws.{SpellsElements, CanBeOutput, OutputSpells, InputSpellsElements}
use Rattle.wz_rewrite.proofs.AllLemmas.{All-front, All-behind}
use Rattle.wz_rewrite.proofs.IdLemmas.{by_id}
use Rattle.wz_rewrite.proofs.SectionLemmas.{no_items, some_of, some_from}
use Rattle.wz_rewrite.proofs.SegmentLemmas.{payload_split}
use Rattle.wz_rewrite.proofs.LookupLemmas.{plain_lookup, same_elements, same_datas, found_lookup, gone_lookup, new_lookup, new_elements_lookup, new_datas_lookup}
use Rattle.wz_rewrite.proofs.OrderLemmas.{none_has, output_in_order}
use Rattle.wz_rewrite.proofs.ContentLemmas.{sizes_can, memories_hold, globals_hold, exports_hold, count_holds, elements_renewed, elements_new, elements_none, data_bytes_held, filled_can}

option_map_same : {X : Type 0} (o : Option X) → option_map (λ x. x) o ≡ o
option_map_same None = refl
option_map_same (Some x) = refl

and_never : (b : Bool) → (b && false) ≡ false
and_never true = refl
and_never false = refl

count_agrees : (old : Option ℕ) (n k : ℕ) → n ≡ k → IfSome (count_where_one_was old n) (λ x. x ≡ k)
count_agrees None n k same = tt
count_agrees (Some x) n k same = same

count_stays : (old : Option ℕ) (n : ℕ) → IsSome old → IsSome (count_where_one_was old n)
count_stays None n h = h
count_stays (Some x) n h = h

-- ---- the input's only section of an id

-- a section behind another has a higher rank
others_differ : (id : ℕ) (payload : List ℕ) (sections : List Section) (low : ℕ) → 0 < id → section_rank id ≤ low → Rises low (ranks_of sections)
    → All (λ s. s.id ≡ id → s.payload ≡ payload) sections
others_differ id payload [] low some below h = All-nil (λ (s : Section). s.id ≡ id → s.payload ≡ payload)
others_differ id payload (s ∷ sections) low some below h =
    let P = λ (s : Section). s.id ≡ id → s.payload ≡ payload in
    elim (cases_Bool (s.id == 0)) [
      | inl z ↦
          let zero_id = eqb-true s.id 0 z in
          let behind : Rises low (ranks_of sections) = rw z at h in
          All-cons P s sections (λ e. absurd (omega (arith, e, zero_id, some))) (others_differ id payload sections low some below behind)
      | inr z ↦
          let r : (low < section_rank s.id) × Rises (section_rank s.id) (ranks_of sections) = rw z at h in
          let other : s.id ≡ id → ⊥ = λ e. let rank = ap section_rank e in omega (arith, r.0, rank, below) in
          All-cons P s sections (λ e. absurd (other e)) (others_differ id payload sections (section_rank s.id) some (omega (arith, r.0, below)) r.1)
    ]

only_one : (id : ℕ) (payload : List ℕ) (sections : List Section) (low : ℕ) → 0 < id → Rises low (ranks_of sections) → payload_of id sections ≡ Some payload
    → All (λ s. s.id ≡ id → s.payload ≡ payload) sections
only_one id payload [] low some h there = absurd cc
only_one id payload (s ∷ sections) low some h there =
    let P = λ (s : Section). s.id ≡ id → s.payload ≡ payload in
    elim (cases_Bool (s.id == id)) [
      | inl e ↦
          let same = eqb-true s.id id e in
          let here : Some s.payload ≡ Some payload = rw e at there in
          let is : s.payload ≡ payload = cc in
          elim (cases_Bool (s.id == 0)) [
            | inl z ↦ let zero_id = eqb-true s.id 0 z in absurd (omega (arith, same, zero_id, some))
            | inr z ↦
                let r : (low < section_rank s.id) × Rises (section_rank s.id) (ranks_of sections) = rw z at h in
                let rank = ap section_rank same in
                All-cons P s sections (λ _. is) (others_differ id payload sections (section_rank s.id) some (omega (arith, rank)) r.1)
          ]
      | inr e ↦
          let other = eqb-false s.id id e in
          let behind : payload_of id sections ≡ Some payload = rw e at there in
          elim (cases_Bool (s.id == 0)) [
            | inl z ↦ let r : Rises low (ranks_of sections) = rw z at h in All-cons P s sections (λ x. absurd (other x)) (only_one id payload sections low some r behind)
            | inr z ↦
                let r : (low < section_rank s.id) × Rises (section_rank s.id) (ranks_of sections) = rw z at h in
                All-cons P s sections (λ x. absurd (other x)) (only_one id payload sections (section_rank s.id) some r.1 behind)
          ]
    ]

elements_in : (m : Module) (place : Option (List ℕ)) → Rises 0 (ranks_of m.sections) → payload_of 9 m.sections ≡ place → HoldsList IsElementSection place m.elements
    → SpellsElements m
elements_in m None order is h = λ k d inside e. absurd (none_has 9 m.sections is k d inside e)
elements_in m (Some payload) order is h = λ k d inside e.
    subst (λ (t : List ℕ). IsElementSection t m.elements) (sym (only_one 9 payload m.sections 0 (lit< tt) order is k d inside e)) h

pub input_spells_elements : InputSpellsElements
input_spells_elements input m h = elements_in m (payload_of 9 m.sections) h.parts.order refl h.parts.elements

-- ---- sections that can be written

-- an id of one byte, and contents that are bytes
abbrev IsWritable : Section → Type 0
IsWritable s = (s.id < 256) × AreBytes s.payload

input_writable : (text : List ℕ) (sections : List Section) → AreSections text sections → All IsWritable sections
input_writable text [] h = All-nil IsWritable
input_writable text (s ∷ sections) h =
    let both = h.3.1 in
    let one : IsWritable s = subst IsWritable (sym h.3.2) (both.3.1, both.4.3) in
    All-cons IsWritable s sections one (input_writable h.1 sections h.4)

concat_bytes : (texts : List (List ℕ)) → AreBytes (concat texts) → All AreBytes texts
concat_bytes [] h = All-nil AreBytes
concat_bytes (t ∷ texts) h =
    All-cons AreBytes t texts (All-front (λ b. b < 256) t (concat texts) h) (concat_bytes texts (All-behind (λ b. b < 256) t (concat texts) h))

sections_spelled : (sections : List Section) → All IsWritable sections → All (λ s. length s.payload < 2 ^ 32) sections → AreSections (sections_text sections) sections
sections_spelled [] h short = refl
sections_spelled (s ∷ sections) h short =
    let one = All-head IsWritable s sections h in
    let few = All-head (λ (s : Section). length s.payload < 2 ^ 32) s sections short in
    let more = sections_spelled sections (All-tail IsWritable s sections h) (All-tail (λ (s : Section). length s.payload < 2 ^ 32) s sections short) in
    (section_text s.id s.payload, sections_text sections, refl, ((s.id, s.payload), section_spelled s.id s.payload one.0 (few, one.1), refl), more)

All-flat_map : {X Y : Type 0} (P : X → Type 0) (Q : Y → Type 0) (f : X → List Y) → ((x : X) → P x → All Q (f x)) → (xs : List X) → All P xs → All Q (flat_map f xs)
All-flat_map P Q f each [] h = All-nil Q
All-flat_map P Q f each (x ∷ xs) h = All-append Q (f x) (flat_map f xs) (each x (All-head P x xs h)) (All-flat_map P Q f each xs (All-tail P x xs h))

one_with : (Q : Section → Type 0) (id : ℕ) (payload : List ℕ) → Q (record { id = id; payload = payload }) → All Q (section_with id (Some payload))
one_with Q id payload h = All-cons Q (record { id = id; payload = payload }) [] h (All-nil Q)

module _ (m : Module) (o : OutputState) (can : CanBeOutput m o) where
  parts : HasParts m
  parts = can.spelled.parts

  order : Rises 0 (ranks_of m.sections)
  order = can.spelled.parts.order

  slots_can : CanBeVector (λ (s : Slot × List ℕ). CanBeSegment s.0 s.1) (filled_slots m o)
  slots_can = filled_can m o can (data_bytes_held (payload_of 11 m.sections) m.datas can.spelled.parts.datas)

  -- ---- they can be written

  renewed_bytes : (payload : List ℕ) → AreBytes payload → IsElementSection payload m.elements → AreBytes (renewed_elements m o payload)
  renewed_bytes payload bytes h =
      let split = payload_split payload m.elements h in
      let whole = subst AreBytes split.parts bytes in
      let segments = concat_bytes (segments_of payload) (All-behind (λ b. b < 256) split.count (concat (segments_of payload)) whole) in
      let many = one_each (segments_of payload) m.elements split.each in
      elements_bytes (Some payload) (segments_of payload) (dropped_elements m o) o.undeclared bytes segments (omega (arith, many, can.segments)) can.undeclared

  own_writable : (payload : List ℕ) (id : ℕ) → id < 256 → AreBytes payload → (id ≡ 9 → IsElementSection payload m.elements)
      → All IsWritable (section_with id (output_payload m o id payload))
  own_writable payload =
      by_id (λ id. id < 256 → AreBytes payload → (id ≡ 9 → IsElementSection payload m.elements) → All IsWritable (section_with id (output_payload m o id payload)))
      (λ small bytes spelled. one_with IsWritable 5 _ (small, memories_bytes (output_memories m o) (sizes_can m o can (payload_of 5 m.sections) can.spelled.parts.memories)))
      (λ small bytes spelled. one_with IsWritable 6 _ (small, globals_bytes (global_types m) o.globals can.constants))
      (λ small bytes spelled. one_with IsWritable 7 _ (small, exports_bytes o.exports can.exports))
      (λ small bytes spelled. All-nil IsWritable)
      (λ small bytes spelled. one_with IsWritable 9 _ (small, renewed_bytes payload bytes (spelled refl)))
      (λ small bytes spelled. one_with IsWritable 11 _ (small, datas_bytes (filled_slots m o) slots_can))
      (λ small bytes spelled. one_with IsWritable 12 _ (small, count_bytes (length (output_slots m o)) can.slots))
      (λ id h small bytes spelled. rw (h.memories, h.globals, h.exports, h.start, h.elements, h.datas, h.count) (one_with IsWritable id payload (small, bytes)))

  new_elements_writable : (id : ℕ) → All IsWritable (section_with 9 (new_elements m o id))
  new_elements_writable id = elim (cases_Bool (brings_elements m o id)) [
    | inl b ↦ rw b (one_with IsWritable 9 _ (lit< tt, elements_bytes None [] [] o.undeclared tt (All-nil AreBytes) (lit< tt) can.undeclared))
    | inr b ↦ rw b (All-nil IsWritable)
  ]

  new_datas_writable : (id : ℕ) → All IsWritable (section_with 11 (new_datas m o id))
  new_datas_writable id = elim (cases_Bool (brings_datas m o id)) [
    | inl b ↦ rw b (one_with IsWritable 11 _ (lit< tt, datas_bytes (filled_slots m o) slots_can))
    | inr b ↦ rw b (All-nil IsWritable)
  ]

  place_writable : (s : Section) → IsWritable s × (s.id ≡ 9 → IsElementSection s.payload m.elements) → All IsWritable (sections_for m o s)
  place_writable s h =
      All-append IsWritable _ _ (new_elements_writable s.id) (All-append IsWritable _ _ (own_writable s.payload s.id h.0.0 h.0.1 h.1) (new_datas_writable s.id))

  output_writable : All IsWritable (output_sections m o)
  output_writable =
      let writable = input_writable can.spelled.text m.sections can.spelled.sections in
      let spelled = input_spells_elements can.input m can.spelled in
      All-flat_map (λ (s : Section). IsWritable s × (s.id ≡ 9 → IsElementSection s.payload m.elements)) IsWritable (λ s. sections_for m o s) place_writable m.sections
      (λ k d inside. (writable k d inside, spelled k d inside))

  -- ---- custom sections

  new_named : (id : ℕ) (payload : Option (List ℕ)) → id ≢ 0 → All IsNamedIfCustom (section_with id payload)
  new_named id None other = All-nil IsNamedIfCustom
  new_named id (Some payload) other = one_with IsNamedIfCustom id payload (λ e. absurd (other e))

  own_named : (payload : List ℕ) (id : ℕ) → IsNamedIfCustom (record { id = id; payload = payload }) → All IsNamedIfCustom (section_with id (output_payload m o id payload))
  own_named payload =
      by_id (λ id. IsNamedIfCustom (record { id = id; payload = payload }) → All IsNamedIfCustom (section_with id (output_payload m o id payload)))
      (λ h. new_named 5 (output_payload m o 5 payload) (λ e. omega (arith, e))) (λ h. new_named 6 (output_payload m o 6 payload) (λ e. omega (arith, e))) (λ h. new_named 7 (output_payload m o 7 payload) (λ e. omega (arith, e)))
      (λ h. All-nil IsNamedIfCustom) (λ h. new_named 9 (output_payload m o 9 payload) (λ e. omega (arith, e))) (λ h. new_named 11 (output_payload m o 11 payload) (λ e. omega (arith, e)))
      (λ h. new_named 12 (output_payload m o 12 payload) (λ e. omega (arith, e)))
      (λ id h named. rw (h.memories, h.globals, h.exports, h.start, h.elements, h.datas, h.count) (one_with IsNamedIfCustom id payload named))

  place_named : (s : Section) → IsNamedIfCustom s → All IsNamedIfCustom (sections_for m o s)
  place_named s h =
      All-append IsNamedIfCustom _ _ (new_named 9 (new_elements m o s.id) (λ e. omega (arith, e)))
      (All-append IsNamedIfCustom _ _ (own_named s.payload s.id h) (new_named 11 (new_datas m o s.id) (λ e. omega (arith, e))))

  -- ---- what each section holds

  abbrev now : ℕ → Option (List ℕ)
  now k = payload_of k (output_sections m o)

  stays : (k : ℕ) → (9 == k) ≡ false → (11 == k) ≡ false → ((p : List ℕ) → output_payload m o k p ≡ Some p) → now k ≡ payload_of k m.sections
  stays k nine eleven same = found_lookup m o k (λ p. p) same (plain_lookup m o k nine eleven) m.sections ∙ option_map_same (payload_of k m.sections)

  held : {X : Type 0} (S : Form (List X)) (k : ℕ) (place : Option (List ℕ)) (xs : List X) → now k ≡ place → HoldsList S place xs → HoldsList S (now k) xs
  held {X = X} S k place xs is h = subst (λ (p : Option (List ℕ)). HoldsList S p xs) (sym is) h

  -- the section before which an element section comes in is there
  before_there : (payload : List ℕ) × (payload_of (elements_before m.sections) m.sections ≡ Some payload)
  before_there = elim (cases_Bool (lacks 12 m.sections)) [
    | inl e ↦ rw e (some_of (payload_of 10 m.sections) can.code)
    | inr e ↦ rw e (some_from (payload_of 12 m.sections) e)
  ]

  no_datas : m.datas ≡ [] → o.chosen ≡ [] → output_datas m o ≡ []
  no_datas none nothing =
      let f = λ (slots : List Slot). map (λ (s : Slot × List ℕ). segment_of s.0 s.1) (map (λ (slot : Slot). with_behind o.memories slot) slots) in
      ap (λ (ds : List DataSegment). f (slots_from o.empty_datas 0 ds o.chosen)) none ∙ ap (λ (cs : List ChosenSegment). f (slots_from o.empty_datas 0 [] cs)) nothing

  elements_held : (place : Option (List ℕ)) → payload_of 9 m.sections ≡ place → HoldsList IsElementSection place m.elements
      → HoldsList IsElementSection (now 9) (output_elements m o)
  elements_held (Some payload) is h =
      let lacked : lacks 9 m.sections ≡ false = rw is refl in
      let none : (id : ℕ) → brings_elements m o id ≡ false = λ id. rw lacked (and_never (id == elements_before m.sections)) in
      let found = found_lookup m o 9 (renewed_elements m o) (λ p. refl) (same_elements m o none) m.sections ∙ ap (λ (p : Option (List ℕ)). option_map (renewed_elements m o) p) is in
      held IsElementSection 9 (Some (renewed_elements m o payload)) (output_elements m o) found (elements_renewed m o can payload h)
  elements_held None is h =
      let lacked : lacks 9 m.sections ≡ true = rw is refl in
      elim (cases_Bool (has_no_items o.undeclared)) [
        | inl e ↦
            let none : (id : ℕ) → brings_elements m o id ≡ false = λ id. rw (lacked, e) (and_never (id == elements_before m.sections)) in
            let found = found_lookup m o 9 (renewed_elements m o) (λ p. refl) (same_elements m o none) m.sections
            ∙ ap (λ (p : Option (List ℕ)). option_map (renewed_elements m o) p) is in
            held IsElementSection 9 None (output_elements m o) found (elements_none m o h (no_items o.undeclared e))
        | inr e ↦
            let text = elements_text None [] [] o.undeclared in
            let there = before_there in
            let found = new_lookup m o 9 (elements_before m.sections) text (new_elements_lookup m o lacked e) m.sections is
            ∙ ap (λ (p : Option (List ℕ)). option_map (λ (t : List ℕ). text) p) there.1 in
            held IsElementSection 9 (Some text) (output_elements m o) found (elements_new m o can h)
      ]

  datas_held : (place : Option (List ℕ)) → payload_of 11 m.sections ≡ place → HoldsList IsDataSection place m.datas → HoldsList IsDataSection (now 11) (output_datas m o)
  datas_held (Some payload) is h =
      let lacked : lacks 11 m.sections ≡ false = rw is refl in
      let none : (id : ℕ) → brings_datas m o id ≡ false = λ id. rw lacked (and_never (id == 10)) in
      let text = datas_text (filled_slots m o) in
      let found = found_lookup m o 11 (λ p. text) (λ p. refl) (same_datas m o none) m.sections ∙ ap (λ (p : Option (List ℕ)). option_map (λ (t : List ℕ). text) p) is in
      held IsDataSection 11 (Some text) (output_datas m o) found (datas_spelled (filled_slots m o) slots_can)
  datas_held None is h =
      let lacked : lacks 11 m.sections ≡ true = rw is refl in
      let text = datas_text (filled_slots m o) in
      elim (cases_Bool (has_no_items o.chosen)) [
        | inl e ↦
            let none : (id : ℕ) → brings_datas m o id ≡ false = λ id. rw (lacked, e) (and_never (id == 10)) in
            let found = found_lookup m o 11 (λ p. text) (λ p. refl) (same_datas m o none) m.sections ∙ ap (λ (p : Option (List ℕ)). option_map (λ (t : List ℕ). text) p) is in
            held IsDataSection 11 None (output_datas m o) found (no_datas h (no_items o.chosen e))
        | inr e ↦
            let code = some_of (payload_of 10 m.sections) can.code in
            let found = new_lookup m o 11 10 text (new_datas_lookup m o lacked e) m.sections is ∙ ap (λ (p : Option (List ℕ)). option_map (λ (t : List ℕ). text) p) code.1 in
            held IsDataSection 11 (Some text) (output_datas m o) found (datas_spelled (filled_slots m o) slots_can)
      ]

  start_gone : HoldsNumber IsStartSection (now 8) None
  start_gone = subst (λ (p : Option (List ℕ)). HoldsNumber IsStartSection p None) (sym (gone_lookup m o 8 (λ p. refl) (plain_lookup m o 8 refl refl) m.sections)) refl

  pub output_parts : HasParts (output_module m o)
  output_parts = record {
    order = output_in_order m o order;
    customs = All-flat_map IsNamedIfCustom IsNamedIfCustom (λ s. sections_for m o s) place_named m.sections parts.customs;
    types = held (λ t x. IsTypeSection t x) 1 _ m.types (stays 1 refl refl (λ p. refl)) parts.types;
    imports = held (λ t x. IsImportSection t x) 2 _ m.imports (stays 2 refl refl (λ p. refl)) parts.imports;
    functions = held (λ t x. IsFunctionSection t x) 3 _ m.functions (stays 3 refl refl (λ p. refl)) parts.functions;
    tables = held (λ t x. IsTableSection t x) 4 _ m.tables (stays 4 refl refl (λ p. refl)) parts.tables;
    memories = held _ 5 _ (output_memories m o) (found_lookup m o 5 (λ p. memories_text (output_memories m o)) (λ p. refl) (plain_lookup m o 5 refl refl) m.sections)
        (memories_hold m o can (payload_of 5 m.sections) parts.memories);
    globals = held _ 6 _ (output_globals m o) (found_lookup m o 6 (λ p. globals_text (global_types m) o.globals) (λ p. refl) (plain_lookup m o 6 refl refl) m.sections)
        (globals_hold m o can (payload_of 6 m.sections) parts.globals);
    exports = held _ 7 _ o.exports (found_lookup m o 7 (λ p. exports_text o.exports) (λ p. refl) (plain_lookup m o 7 refl refl) m.sections)
        (exports_hold m o can (payload_of 7 m.sections) can.none_kept);
    start = start_gone;
    elements = elements_held (payload_of 9 m.sections) refl parts.elements;
    data_count = subst (λ (p : Option (List ℕ)). HoldsNumber (λ t n. IsDataCountSection t n) p (output_data_count m o))
        (sym (found_lookup m o 12 (λ p. shortest_unsigned (length (output_slots m o))) (λ p. refl) (plain_lookup m o 12 refl refl) m.sections))
        (count_holds m.data_count (payload_of 12 m.sections) (length (output_slots m o)) can.slots parts.data_count);
    bodies = held (λ t x. IsCodeSection t x) 10 _ m.bodies (stays 10 refl refl (λ p. refl)) parts.bodies;
    datas = datas_held (payload_of 11 m.sections) refl parts.datas;
  }

  pub output_counts : CountsAgree (output_module m o)
  output_counts =
      let slots = output_slots m o in
      let size : length slots ≡ length (output_datas m o) =
      sym (length-map (filled_slots m o) (λ (s : Slot × List ℕ). segment_of s.0 s.1) ∙ length-map slots (λ (slot : Slot). with_behind o.memories slot)) in
      record {
        bodies = can.spelled.counts.bodies;
        datas = count_agrees m.data_count (length slots) (length (output_datas m o)) size;
        needed = λ named. count_stays m.data_count (length slots) (can.spelled.counts.needed named);
      }

pub output_spells : OutputSpells
output_spells m o can = record {
  text = sections_text (output_sections m o);
  whole = refl;
  sections = sections_spelled (output_sections m o) (output_writable m o can) can.short;
  parts = output_parts m o can;
  counts = output_counts m o can;
}
