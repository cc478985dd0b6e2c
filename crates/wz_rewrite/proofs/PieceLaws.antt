-- The pieces of the output: what they have of the input, which ranges they have, and that they are the output.
use Rattle.std.proofs.Common.{◌≡◌, ℕ, ◌+◌, Bool, true, false, List, [], ◌∷◌, ◌++◌, length, map, Option, Some, None, sym, ap, subst, ◌∙◌, refl, inl, inr, append_assoc, zero-add, lit<}
use Rattle.std.specs.Prelude.{◌==◌, if◌then◌else◌}
use Rattle.std.specs.List.{flat_map}
use Rattle.std.proofs.lemmas.Bool.{cases_Bool}
use Rattle.std.proofs.lemmas.List.{append-nil, length-map}
use Rattle.wz_bytes.specs.Shortest.{shortest_unsigned}
use Rattle.wz_store.specs.State.{Memory}
use Rattle.wz_module.specs.Sections.{Section, payload_of}
use Rattle.wz_decode.specs.Header.{header}
use Rattle.wz_snapshot.specs.Recorded.{has_no_items}
use Rattle.wz_module.specs.Datas.{DataMode, PassiveData, ActiveData, DataSegment}
use Rattle.wz_module.specs.Module.{Module}
use Rattle.wz_encode.specs.Datas.{Slot, PassiveSlot, EmptySlot, HeadSlot, slot_text}
use Rattle.wz_encode.specs.SectionText.{section_text}
use Rattle.wz_snapshot.specs.declared.segment.ChosenSegment.{ChosenSegment}
use Rattle.wz_rewrite.specs.OutputState.{OutputState, HasRanges}
use Rattle.wz_rewrite.specs.Dropped.{was_emptied, is_empty_at}
use Rattle.wz_rewrite.specs.Slots.{slots_from, slots_at, head_slot, output_slots, with_behind, filled_slots}
use Rattle.wz_rewrite.specs.Sections.{lacks, datas_text, renewed_elements, output_payload, brings_elements, new_elements, brings_datas, new_datas, section_with, sections_for}
use Rattle.wz_rewrite.specs.Output.{sections_text}
use Rattle.wz_rewrite.specs.Pieces.{OutputPiece, KeptPiece, MadePiece, RangePiece, piece_text, pieces_text, pieces_length, range_of_piece, piece_ranges, kept_of_piece, keeps_elements, keeps_contents, payload_if_kept, slot_pieces, slots_pieces, elements_pieces, contents_pieces, new_elements_pieces, new_datas_pieces, section_pieces, pieces_for, output_pieces}
use Rattle.wz_rewrite.specs.Laws.{SectionsAreInOrder, PiecesAreOutput, PiecesAreChosen, PiecesAreKept}
use Rattle.wz_rewrite.proofs.WritingLemmas.{length-pieces_text}
use Rattle.wz_rewrite.proofs.IdLemmas.{by_id, flat_map_each, flat_map_parts, flat_map_nil, flat_map_same, flat_map_left, flat_map_right}
use Rattle.wz_rewrite.proofs.SectionLemmas.{flat_map_none, flat_map_once, no_items, none_of, some_of, some_from, and_true, and_false}

-- ---- what they have of the input

-- a section's head is none of it
kept_in : ℕ → Option (List OutputPiece) → List (List ℕ)
kept_in id contents = flat_map kept_of_piece (section_pieces id contents)

slots_keep : (slots : List Slot) → flat_map kept_of_piece (flat_map slot_pieces slots) ≡ []
slots_keep [] = refl
slots_keep (PassiveSlot bytes ∷ slots) = slots_keep slots
slots_keep (EmptySlot ∷ slots) = slots_keep slots
slots_keep (HeadSlot number at len ∷ slots) = slots_keep slots

elements_keep : (m : Module) (o : OutputState) (id : ℕ) (payload : List ℕ) (keeps : Bool) → keeps ≡ keeps_elements m o
    → flat_map kept_of_piece (section_pieces id (Some (if keeps then KeptPiece payload ∷ [] else MadePiece (renewed_elements m o payload) ∷ [])))
    ≡ (if keeps then payload ∷ [] else [])
elements_keep m o id payload true e = refl
elements_keep m o id payload false e = refl

contents_keep : (m : Module) (o : OutputState) (payload : List ℕ) (id : ℕ)
    → flat_map kept_of_piece (section_pieces id (contents_pieces m o id payload)) ≡ (if keeps_contents m o id then payload ∷ [] else [])
contents_keep m o payload =
    by_id (λ id. flat_map kept_of_piece (section_pieces id (contents_pieces m o id payload)) ≡ (if keeps_contents m o id then payload ∷ [] else [])) refl refl refl refl
    (elements_keep m o 9 payload (keeps_elements m o) refl) (slots_keep (output_slots m o)) refl
    (λ id h. rw (h.memories, h.globals, h.exports, h.start, h.elements, h.datas, h.count) refl)

new_elements_keep : (m : Module) (o : OutputState) (id : ℕ) → flat_map kept_of_piece (section_pieces 9 (new_elements_pieces m o id)) ≡ []
new_elements_keep m o id = elim (cases_Bool (brings_elements m o id)) [ inl e ↦ rw e refl | inr e ↦ rw e refl ]

new_datas_keep : (m : Module) (o : OutputState) (id : ℕ) → flat_map kept_of_piece (section_pieces 11 (new_datas_pieces m o id)) ≡ []
new_datas_keep m o id = elim (cases_Bool (brings_datas m o id)) [ inl e ↦ rw e (slots_keep (output_slots m o)) | inr e ↦ rw e refl ]

place_keeps : (m : Module) (o : OutputState) (s : Section) → flat_map kept_of_piece (pieces_for m o s) ≡ payload_if_kept m o s
place_keeps m o s =
    flat_map_parts kept_of_piece (section_pieces 9 (new_elements_pieces m o s.id)) (section_pieces s.id (contents_pieces m o s.id s.payload))
    (section_pieces 11 (new_datas_pieces m o s.id)) [] (payload_if_kept m o s) [] (new_elements_keep m o s.id) (contents_keep m o s.payload s.id) (new_datas_keep m o s.id)
    ∙ append-nil (payload_if_kept m o s)

pub pieces_are_kept : PiecesAreKept
pieces_are_kept m o = flat_map_each kept_of_piece (λ s. pieces_for m o s) (λ s. payload_if_kept m o s) (place_keeps m o) m.sections

-- ---- ranges in the data section

heads_ranges : (chosen : List ChosenSegment) → flat_map range_of_piece (flat_map slot_pieces (map head_slot chosen)) ≡ chosen
heads_ranges [] = refl
heads_ranges (c ∷ chosen) = ap (λ (cs : List ChosenSegment). c ∷ cs) (heads_ranges chosen)

-- of a slot and of those behind it
slot_ranges : (d : DataMode) (bytes : List ℕ) (empty : Bool) (chosen : List ChosenSegment) (others : List ChosenSegment → List Slot)
    → ((left : List ChosenSegment) → flat_map range_of_piece (flat_map slot_pieces (others left)) ≡ left)
    → flat_map range_of_piece (flat_map slot_pieces (slots_at d bytes empty chosen others)) ≡ chosen
slot_ranges PassiveData bytes empty chosen others h = elim (cases_Bool (was_emptied bytes empty)) [ inl e ↦ rw e (h chosen) | inr e ↦ rw e (h chosen) ]
slot_ranges (ActiveData memory offset) bytes empty [] others h = h []
slot_ranges (ActiveData memory offset) bytes empty (c ∷ chosen) others h = ap (λ (cs : List ChosenSegment). c ∷ cs) (h chosen)

pub slots_ranges : (marks : List Bool) (number : ℕ) (datas : List DataSegment) (chosen : List ChosenSegment)
    → flat_map range_of_piece (flat_map slot_pieces (slots_from marks number datas chosen)) ≡ chosen
slots_ranges marks number [] chosen = heads_ranges chosen
slots_ranges marks number (d ∷ datas) chosen =
    slot_ranges d.mode d.bytes (is_empty_at marks number) chosen (λ left. slots_from marks (number + 1) datas left) (slots_ranges marks (number + 1) datas)

-- ---- contents as pieces and as bytes

-- pieces are these bytes, and as many
record AreBytesOf (memories : List Memory) (pieces : List OutputPiece) (bytes : List ℕ) : Type 0 where
  pub text : pieces_text memories pieces ≡ bytes
  pub size : pieces_length pieces ≡ length bytes

abbrev AreContents : List Memory → Option (List OutputPiece) → Option (List ℕ) → Type 0
AreContents memories None None = Unit {0}
AreContents memories None (Some bytes) = ⊥
AreContents memories (Some pieces) None = ⊥
AreContents memories (Some pieces) (Some bytes) = AreBytesOf memories pieces bytes

section_same : (memories : List Memory) (id : ℕ) (contents : Option (List OutputPiece)) (payload : Option (List ℕ)) → AreContents memories contents payload
    → flat_map (λ (p : OutputPiece). piece_text memories p) (section_pieces id contents) ≡ sections_text (section_with id payload)
section_same memories id None None h = refl
section_same memories id None (Some bytes) h = absurd h
section_same memories id (Some pieces) None h = absurd h
section_same memories id (Some pieces) (Some bytes) h = rw (h.size, h.text) (sym (append-nil (section_text id bytes)))

made_of : (memories : List Memory) (bytes : List ℕ) → AreBytesOf memories (MadePiece bytes ∷ []) bytes
made_of memories bytes = record { text = append-nil bytes; size = zero-add (length bytes) }

kept_of : (memories : List Memory) (bytes : List ℕ) → AreBytesOf memories (KeptPiece bytes ∷ []) bytes
kept_of memories bytes = record { text = append-nil bytes; size = zero-add (length bytes) }

slots_text : (memories : List Memory) (slots : List Slot) → flat_map (λ (p : OutputPiece). piece_text memories p) (flat_map slot_pieces slots)
    ≡ flat_map (λ (s : Slot × List ℕ). slot_text s.0 ++ s.1) (map (λ (slot : Slot). with_behind memories slot) slots)
slots_text memories [] = refl
slots_text memories (PassiveSlot bytes ∷ slots) =
    let head = slot_text (PassiveSlot bytes) in
    let more = flat_map (λ (s : Slot × List ℕ). slot_text s.0 ++ s.1) (map (λ (slot : Slot). with_behind memories slot) slots) in
    ap (λ (t : List ℕ). head ++ t) (slots_text memories slots) ∙ ap (λ (t : List ℕ). t ++ more) (sym (append-nil head))
slots_text memories (EmptySlot ∷ slots) = ap (λ (t : List ℕ). 0x01 ∷ 0x00 ∷ t) (slots_text memories slots)
slots_text memories (HeadSlot number at len ∷ slots) =
    let f = λ (p : OutputPiece). piece_text memories p in
    let range = piece_text memories (RangePiece number at len) in
    let head = slot_text (HeadSlot number at len) in
    let more = flat_map (λ (s : Slot × List ℕ). slot_text s.0 ++ s.1) (map (λ (slot : Slot). with_behind memories slot) slots) in
    ap (λ (t : List ℕ). head ++ (range ++ t)) (slots_text memories slots) ∙ sym (append_assoc head range more)

datas_of : (m : Module) (o : OutputState) → HasRanges o.memories o.chosen → AreBytesOf o.memories (slots_pieces (output_slots m o)) (datas_text (filled_slots m o))
datas_of m o has =
    let slots = output_slots m o in
    let text : pieces_text o.memories (slots_pieces slots) ≡ datas_text (filled_slots m o) =
    rw (length-map slots (λ (slot : Slot). with_behind o.memories slot)) (ap (λ (t : List ℕ). shortest_unsigned (length slots) ++ t) (slots_text o.memories slots)) in
    let ranges : piece_ranges (slots_pieces slots) ≡ o.chosen = slots_ranges o.empty_datas 0 m.datas o.chosen in
    let inside = subst (λ (cs : List ChosenSegment). HasRanges o.memories cs) (sym ranges) has in
    record { text = text; size = sym (length-pieces_text o.memories (slots_pieces slots) inside) ∙ ap (λ (t : List ℕ). length t) text }

elements_of : (m : Module) (o : OutputState) (payload : List ℕ) → AreBytesOf o.memories (elements_pieces m o payload) (renewed_elements m o payload)
elements_of m o payload = elim (cases_Bool (keeps_elements m o)) [
  | inl e ↦ rw e (kept_of o.memories payload)
  | inr e ↦ rw e (made_of o.memories _)
]

contents_of : (m : Module) (o : OutputState) → HasRanges o.memories o.chosen → (payload : List ℕ) (id : ℕ)
    → AreContents o.memories (contents_pieces m o id payload) (output_payload m o id payload)
contents_of m o has payload =
    by_id (λ id. AreContents o.memories (contents_pieces m o id payload) (output_payload m o id payload))
    (made_of o.memories _) (made_of o.memories _) (made_of o.memories _) tt (elements_of m o payload) (datas_of m o has) (made_of o.memories _)
    (λ id h. rw (h.memories, h.globals, h.exports, h.start, h.elements, h.datas, h.count) (kept_of o.memories payload))

new_elements_of : (m : Module) (o : OutputState) (id : ℕ) → AreContents o.memories (new_elements_pieces m o id) (new_elements m o id)
new_elements_of m o id = elim (cases_Bool (brings_elements m o id)) [ inl e ↦ rw e (made_of o.memories _) | inr e ↦ rw e tt ]

new_datas_of : (m : Module) (o : OutputState) → HasRanges o.memories o.chosen → (id : ℕ) → AreContents o.memories (new_datas_pieces m o id) (new_datas m o id)
new_datas_of m o has id = elim (cases_Bool (brings_datas m o id)) [ inl e ↦ rw e (datas_of m o has) | inr e ↦ rw e tt ]

-- ---- the whole

place_text : (m : Module) (o : OutputState) → HasRanges o.memories o.chosen → (s : Section)
    → flat_map (λ (p : OutputPiece). piece_text o.memories p) (pieces_for m o s) ≡ sections_text (sections_for m o s)
place_text m o has s =
    let sec = λ (s : Section). section_text s.id s.payload in
    let one = section_with 9 (new_elements m o s.id) in
    let two = section_with s.id (output_payload m o s.id s.payload) in
    let three = section_with 11 (new_datas m o s.id) in
    flat_map_parts (λ (p : OutputPiece). piece_text o.memories p) (section_pieces 9 (new_elements_pieces m o s.id))
    (section_pieces s.id (contents_pieces m o s.id s.payload)) (section_pieces 11 (new_datas_pieces m o s.id)) (sections_text one) (sections_text two) (sections_text three)
    (section_same o.memories 9 _ _ (new_elements_of m o s.id)) (section_same o.memories s.id _ _ (contents_of m o has s.payload s.id))
    (section_same o.memories 11 _ _ (new_datas_of m o has s.id))
    ∙ sym (flat_map_parts sec one two three (sections_text one) (sections_text two) (sections_text three) refl refl refl)

pub pieces_are_output : PiecesAreOutput
pieces_are_output m o has =
    let h = λ (s : Section). sections_text (sections_for m o s) in
    let all = flat_map_each (λ (p : OutputPiece). piece_text o.memories p) (λ (s : Section). pieces_for m o s) h (place_text m o has) m.sections in
    let same = flat_map_each (λ (s : Section). section_text s.id s.payload) (λ (s : Section). sections_for m o s) h (λ s. refl) m.sections in
    ap (λ (t : List ℕ). header ++ t) (all ∙ sym same)

-- ---- ranges of the whole

contents_ranges : (m : Module) (o : OutputState) (payload : List ℕ) (id : ℕ)
    → piece_ranges (section_pieces id (contents_pieces m o id payload)) ≡ (if id == 11 then o.chosen else [])
contents_ranges m o payload =
    by_id (λ id. piece_ranges (section_pieces id (contents_pieces m o id payload)) ≡ (if id == 11 then o.chosen else [])) refl refl refl refl
    (elim (cases_Bool (keeps_elements m o)) [ inl e ↦ rw e refl | inr e ↦ rw e refl ]) (slots_ranges o.empty_datas 0 m.datas o.chosen) refl
    (λ id h. rw (h.memories, h.globals, h.exports, h.start, h.elements, h.datas, h.count) refl)

new_elements_ranges : (m : Module) (o : OutputState) (id : ℕ) → piece_ranges (section_pieces 9 (new_elements_pieces m o id)) ≡ []
new_elements_ranges m o id = elim (cases_Bool (brings_elements m o id)) [ inl e ↦ rw e refl | inr e ↦ rw e refl ]

new_datas_ranges : (m : Module) (o : OutputState) (id : ℕ) → piece_ranges (section_pieces 11 (new_datas_pieces m o id)) ≡ (if brings_datas m o id then o.chosen else [])
new_datas_ranges m o id = elim (cases_Bool (brings_datas m o id)) [ inl e ↦ rw e (slots_ranges o.empty_datas 0 m.datas o.chosen) | inr e ↦ rw e refl ]

abbrev own_ranges : OutputState → Section → List ChosenSegment
own_ranges o s = if s.id == 11 then o.chosen else []

abbrev more_ranges : Module → OutputState → Section → List ChosenSegment
more_ranges m o s = if brings_datas m o s.id then o.chosen else []

place_ranges : (m : Module) (o : OutputState) (s : Section) → piece_ranges (pieces_for m o s) ≡ own_ranges o s ++ more_ranges m o s
place_ranges m o s =
    flat_map_parts range_of_piece (section_pieces 9 (new_elements_pieces m o s.id)) (section_pieces s.id (contents_pieces m o s.id s.payload))
    (section_pieces 11 (new_datas_pieces m o s.id)) [] (own_ranges o s) (more_ranges m o s)
    (new_elements_ranges m o s.id) (contents_ranges m o s.payload s.id) (new_datas_ranges m o s.id)

-- the code section brings the ranges where there is no data section
brought : (m : Module) (o : OutputState) (code : List ℕ) → SectionsAreInOrder m.sections → payload_of 10 m.sections ≡ Some code → lacks 11 m.sections ≡ true
    → flat_map (λ (s : Section). more_ranges m o s) m.sections ≡ o.chosen
brought m o code order there none = elim (cases_Bool (has_no_items o.chosen)) [
  | inl e ↦
      let empty : o.chosen ≡ [] = no_items o.chosen e in
      flat_map_nil (λ (s : Section). more_ranges m o s) (λ s. rw (none, e) (and_false (s.id == 10) o.chosen)) m.sections ∙ sym empty
  | inr e ↦
      flat_map_same (λ (s : Section). more_ranges m o s) (λ (s : Section). if s.id == 10 then o.chosen else []) (λ s. rw (none, e) (and_true (s.id == 10) o.chosen)) m.sections
      ∙ flat_map_once 10 o.chosen m.sections 0 code (lit< tt) order there
]

none_brought : (m : Module) (o : OutputState) → lacks 11 m.sections ≡ false → flat_map (λ (s : Section). more_ranges m o s) m.sections ≡ []
none_brought m o there = flat_map_nil (λ (s : Section). more_ranges m o s) (λ s. rw there (and_false (s.id == 10) o.chosen)) m.sections

pub pieces_are_chosen : PiecesAreChosen
pieces_are_chosen m o order there =
    let f = λ (s : Section). own_ranges o s in
    let g = λ (s : Section). more_ranges m o s in
    let all : piece_ranges (output_pieces m o) ≡ flat_map (λ (s : Section). f s ++ g s) m.sections =
    flat_map_each range_of_piece (λ (s : Section). pieces_for m o s) (λ (s : Section). f s ++ g s) (place_ranges m o) m.sections in
    let code = some_of (payload_of 10 m.sections) there in
    elim (cases_Bool (lacks 11 m.sections)) [
      | inl e ↦
          let none : payload_of 11 m.sections ≡ None = none_of (payload_of 11 m.sections) e in
          all ∙ flat_map_left f g m.sections (flat_map_none 11 o.chosen m.sections none) ∙ brought m o code.0 order code.1 e
      | inr e ↦
          let some = some_from (payload_of 11 m.sections) e in
          all ∙ flat_map_right f g m.sections (none_brought m o e) ∙ flat_map_once 11 o.chosen m.sections 0 some.0 (lit< tt) order some.1
    ]
