-- What is written of data segments spells what it is written for.
use Rattle.std.proofs.Common.{◌≡◌, ℕ, ◌^◌, ◌<◌, List, [], ◌∷◌, ◌++◌, length, Bool, true, false, refl, sym, ap, subst, ◌∙◌, append_assoc, inl, inr, lit<}
use Rattle.std.specs.Prelude.{◌==◌}
use Rattle.std.proofs.lemmas.Bool.{eqb-true}
use Rattle.std.proofs.lemmas.List.{append-nil}
use Rattle.std.proofs.lemmas.List.Elements.{All-nil, All-weaker}
use Rattle.wz_bytes.specs.Shortest.{shortest_unsigned}
use Rattle.wz_bytes.specs.Forms.{IsBytes}
use Rattle.wz_types.specs.declared.value.Value.TheVariants.{I32}
use Rattle.wz_module.specs.Datas.{DataSegment}
use Rattle.wz_decode_sections.specs.Offsets.{AtOffset, AtPlace}
use Rattle.wz_decode_sections.specs.DataSection.{IsData}
use Rattle.wz_encode.specs.Vectors.{bytes_text}
use Rattle.wz_encode.specs.Constants.{constant_code, constant_expression_text}
use Rattle.wz_encode.specs.Datas.{Slot, PassiveSlot, EmptySlot, HeadSlot, active_text, slot_text, segment_of}
use Rattle.wz_encode.specs.Laws.{CanBeBytes, CanBeSegment, DataIsSpelled, DatasAreSpelled}
use Rattle.wz_encode.proofs.WrittenLaws.{number_spelled, one_byte, vector_spelled, bytes_spelled, constant_spelled}

-- ---- data

-- what stands behind the flag of an active segment, and its memory
offset_spelled : (at : ℕ) (behind : List ℕ) → at < 2 ^ 32 → CanBeBytes behind
    → AtOffset IsBytes (constant_expression_text (I32 at) ++ bytes_text behind) (constant_code (I32 at), behind)
offset_spelled at behind below can = (constant_expression_text (I32 at), bytes_text behind, refl, constant_spelled (I32 at) below, bytes_spelled behind can)

in_first : (at : ℕ) (behind : List ℕ) → at < 2 ^ 32 → CanBeBytes behind
    → IsData (0x00 ∷ (constant_expression_text (I32 at) ++ bytes_text behind)) (segment_of (HeadSlot 0 at (length behind)) behind)
in_first at behind below can =
    let offset = offset_spelled at behind below can in
    inl (0x00 ∷ [], constant_expression_text (I32 at) ++ bytes_text behind, refl, one_byte 0 (lit< tt), ((constant_code (I32 at), behind), offset, refl))

in_other : (memory at : ℕ) (behind : List ℕ) → memory < 2 ^ 32 → at < 2 ^ 32 → CanBeBytes behind
    → IsData (0x02 ∷ (shortest_unsigned memory ++ (constant_expression_text (I32 at) ++ bytes_text behind))) (segment_of (HeadSlot memory at (length behind)) behind)
in_other memory at behind few below can =
    let place : AtPlace IsBytes (shortest_unsigned memory ++ (constant_expression_text (I32 at) ++ bytes_text behind)) (memory, (constant_code (I32 at), behind)) =
    (shortest_unsigned memory, constant_expression_text (I32 at) ++ bytes_text behind, refl, number_spelled memory few, offset_spelled at behind below can) in
    let second = shortest_unsigned memory ++ (constant_expression_text (I32 at) ++ bytes_text behind) in
    inr (inr (0x02 ∷ [], second, refl, one_byte 2 (lit< tt), ((memory, (constant_code (I32 at), behind)), place, refl)))

-- the head and the bytes behind it, as the flag and what stands behind that
head_parts : (active expression count behind : List ℕ) → (active ++ (expression ++ count)) ++ behind ≡ active ++ (expression ++ (count ++ behind))
head_parts active expression count behind = append_assoc active (expression ++ count) behind ∙ ap (λ (t : List ℕ). active ++ t) (append_assoc expression count behind)

by_memory : (first : Bool) (memory at : ℕ) (behind : List ℕ) → memory == 0 ≡ first → memory < 2 ^ 32 → at < 2 ^ 32 → CanBeBytes behind
    → IsData (active_text memory ++ (constant_expression_text (I32 at) ++ bytes_text behind)) (segment_of (HeadSlot memory at (length behind)) behind)
by_memory true memory at behind e few below can =
    subst (λ (m : ℕ). IsData (active_text m ++ (constant_expression_text (I32 at) ++ bytes_text behind)) (segment_of (HeadSlot m at (length behind)) behind))
    (sym (eqb-true memory 0 e)) (in_first at behind below can)
by_memory false memory at behind e few below can = rw e (in_other memory at behind few below can)

head_spelled : (memory at : ℕ) (behind : List ℕ) → memory < 2 ^ 32 → at < 2 ^ 32 → CanBeBytes behind
    → IsData (slot_text (HeadSlot memory at (length behind)) ++ behind) (segment_of (HeadSlot memory at (length behind)) behind)
head_spelled memory at behind few below can =
    subst (λ (t : List ℕ). IsData t (segment_of (HeadSlot memory at (length behind)) behind))
    (sym (head_parts (active_text memory) (constant_expression_text (I32 at)) (shortest_unsigned (length behind)) behind))
    (by_memory (memory == 0) memory at behind refl few below can)

-- a slot that has its own bytes
whole_slot : (slot : Slot) (segment : DataSegment) (behind : List ℕ) → behind ≡ [] → IsData (slot_text slot) segment → IsData (slot_text slot ++ behind) segment
whole_slot slot segment behind none h = subst (λ (t : List ℕ). IsData t segment) (sym (ap (λ (t : List ℕ). slot_text slot ++ t) none ∙ append-nil (slot_text slot))) h

passive_spelled : (bytes : List ℕ) → CanBeBytes bytes → IsData (0x01 ∷ bytes_text bytes) (segment_of (PassiveSlot bytes) [])
passive_spelled bytes can = inr (inl (0x01 ∷ [], bytes_text bytes, refl, one_byte 1 (lit< tt), (bytes, bytes_spelled bytes can, refl)))

no_bytes : IsBytes (0x00 ∷ []) []
no_bytes = (0x00 ∷ [], refl, one_byte 0 (lit< tt), All-nil (λ b. b < 256))

pub data_spelled : DataIsSpelled
data_spelled (PassiveSlot bytes) behind can = whole_slot (PassiveSlot bytes) _ behind can.1 (passive_spelled bytes can.0)
data_spelled EmptySlot behind can = whole_slot EmptySlot _ behind can (inr (inl (0x01 ∷ [], 0x00 ∷ [], refl, one_byte 1 (lit< tt), ([], no_bytes, refl))))
data_spelled (HeadSlot memory at len) behind can =
    subst (λ (n : ℕ). IsData (slot_text (HeadSlot memory at n) ++ behind) (segment_of (HeadSlot memory at n) behind)) can.2 (head_spelled memory at behind can.0 can.1 can.3)

pub datas_spelled : DatasAreSpelled
datas_spelled slots can =
    vector_spelled (λ t x. IsData t x) (λ s. slot_text s.0 ++ s.1) (λ s. segment_of s.0 s.1) slots can.0
    (All-weaker (λ s. CanBeSegment s.0 s.1) (λ s. IsData (slot_text s.0 ++ s.1) (segment_of s.0 s.1)) (λ s h. data_spelled s.0 s.1 h) slots can.1)
