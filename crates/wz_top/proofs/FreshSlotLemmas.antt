-- The output's data segments are run through: what is left of each, and that the ranges are written.
use Rattle.std.proofs.Common.{◌≡◌, ℕ, suc, ◌+◌, ◌<◌, ◌≤◌, ◌⊎◌, inl, inr, List, [], ◌∷◌, ◌++◌, length, map, Option, Some, None, Bool, true, false, ◌&&◌, if◌then◌else◌, slice_get, IsSomeAnd, refl, sym, ap, subst, ◌∙◌, arith, not}
use Rattle.std.specs.List.{All}
use Rattle.std.proofs.lemmas.Bool.{le-leb}
use Rattle.std.proofs.lemmas.List.{append_assoc, take_all}
use Rattle.std.proofs.lemmas.List.Elements.{All-nil, All-cons, All-head, All-tail}
use Rattle.wz_types.specs.declared.value.Value.TheVariants.{I32}
use Rattle.wz_linear.specs.Bytes.{part}
use Rattle.wz_linear.proofs.WriteLemmas.{length-part}
use Rattle.wz_module.specs.Datas.{DataMode, PassiveData, ActiveData, DataSegment}
use Rattle.wz_module.specs.Module.{Module}
use Rattle.wz_store.specs.State.{Memory}
use Rattle.wz_store.specs.Changes.{WriteMemory, EmptyData, altered, with_bytes}
use Rattle.wz_bulk.specs.Effects.{BulkEffect, Makes, within}
use Rattle.wz_bulk.specs.MemoryEffects.{bytes_effect, memory_init_effect}
use Rattle.wz_machine.specs.State.{State}
use Rattle.wz_encode.specs.Constants.{constant_code}
use Rattle.wz_encode.specs.Datas.{Slot, PassiveSlot, EmptySlot, HeadSlot, segment_of}
use Rattle.wz_snapshot.specs.declared.segment.ChosenSegment.{ChosenSegment}
use Rattle.wz_snapshot.specs.Recorded.{has_no_items}
use Rattle.wz_snapshot.specs.Laws.{IsRangeOf}
use Rattle.wz_rewrite.specs.OutputState.{memory_part, range_bytes}
use Rattle.wz_rewrite.specs.Dropped.{was_emptied, is_empty_at}
use Rattle.wz_rewrite.specs.Slots.{passive_slot, head_slot, active_slots, slots_at, slots_from, with_behind}
use Rattle.wz_init.specs.Constants.{constant_number, constant_value}
use Rattle.wz_init.specs.Instances.{Instance, DataUnfit, Fresh, instance_then}
use Rattle.wz_init.specs.Instantiation.{copied, data_copied, data_run, datas_run}
use Rattle.wz_top.proofs.FreshElementLemmas.{altered_there, found_there, one_longer}
use Rattle.wz_top.proofs.FreshDataLemmas.{filled, bytes_left, all_left}
use Rattle.wz_top.proofs.FreshKeptLemmas.{no_items, has_none}
use Rattle.wz_top.proofs.FreshMemoryLemmas.{AreNear, IsNear, nearer}

-- ---- the ranges among slots

abbrev pub heads : List Slot → List ChosenSegment
heads [] = []
heads (PassiveSlot bytes ∷ slots) = heads slots
heads (EmptySlot ∷ slots) = heads slots
heads (HeadSlot memory at len ∷ slots) = record { memory = memory; at = at; len = len } ∷ heads slots

heads_only : (chosen : List ChosenSegment) → heads (map head_slot chosen) ≡ chosen
heads_only [] = refl
heads_only (segment ∷ chosen) = ap (λ (cs : List ChosenSegment). segment ∷ cs) (heads_only chosen)

passive_heads : (bytes : List ℕ) (b : Bool) (slots : List Slot) → heads ((if b then EmptySlot else PassiveSlot bytes) ∷ slots) ≡ heads slots
passive_heads bytes true slots = refl
passive_heads bytes false slots = refl

active_heads : (chosen : List ChosenSegment) (others : List ChosenSegment → List Slot) → ((left : List ChosenSegment) → heads (others left) ≡ left)
    → heads (active_slots chosen others) ≡ chosen
active_heads [] others h = h []
active_heads (segment ∷ chosen) others h = ap (λ (cs : List ChosenSegment). segment ∷ cs) (h chosen)

slot_heads : (mode : DataMode) (bytes : List ℕ) (b : Bool) (chosen : List ChosenSegment) (others : List ChosenSegment → List Slot)
    → ((left : List ChosenSegment) → heads (others left) ≡ left) → heads (slots_at mode bytes b chosen others) ≡ chosen
slot_heads PassiveData bytes b chosen others h = passive_heads bytes (was_emptied bytes b) (others chosen) ∙ h chosen
slot_heads (ActiveData memory offset) bytes b chosen others h = active_heads chosen others h

pub heads_chosen : (marks : List Bool) (n : ℕ) (datas : List DataSegment) (chosen : List ChosenSegment) → heads (slots_from marks n datas chosen) ≡ chosen
heads_chosen marks n [] chosen = heads_only chosen
heads_chosen marks n (d ∷ datas) chosen =
    slot_heads d.mode d.bytes (is_empty_at marks n) chosen (λ left. slots_from marks (n + 1) datas left) (λ left. heads_chosen marks (n + 1) datas left)

-- ---- the segments that slots are

abbrev pub segments_for : List Memory → List Slot → List DataSegment
segments_for memories slots = map (λ s. segment_of s.0 s.1) (map (λ slot. with_behind memories slot) slots)

abbrev pub bytes_for : List Memory → List Slot → List (List ℕ)
bytes_for memories slots = map (λ (d : DataSegment). d.bytes) (segments_for memories slots)

-- what is left of them
abbrev pub slot_left : Slot → List ℕ
slot_left (PassiveSlot bytes) = bytes
slot_left EmptySlot = []
slot_left (HeadSlot memory at len) = []

address_given : (m : Module) (at : ℕ) → constant_number m (constant_code (I32 at)) ≡ Some at
unfolding constant_value
address_given m at = refl

whole_part : (bytes : List ℕ) → part bytes 0 (length bytes) ≡ bytes
unfolding part
whole_part bytes = take_all (length bytes) bytes (omega arith)

test_true : (number at : ℕ) (bytes : List ℕ) (a b : Bool) → a ≡ true → b ≡ true → bytes_effect number at bytes (a && b) ≡ Makes (WriteMemory number at bytes)
test_true number at bytes true true e e' = refl
test_true number at bytes true false e e' = absurd (cc e')
test_true number at bytes false b e e' = absurd (cc e)

-- a range that lies within is copied
copies : (m : Module) (number at : ℕ) (bytes : List ℕ) (b : State) (ms : List Memory) (memory : Memory) (done more : List (List ℕ))
    → slice_get ms number ≡ Some memory → at + length bytes ≤ length memory.bytes
    → data_run m (length done) (length bytes) (ActiveData number (constant_code (I32 at))) (filled b ms (done ++ bytes ∷ more))
    ≡ Instance (filled b (altered (λ (x : Memory). with_bytes at bytes x) ms number) (done ++ [] ∷ more))
copies m number at bytes b ms memory done more here fits =
    let i = length done in
    let s = filled b ms (done ++ bytes ∷ more) in
    let count = length bytes in
    let effect : memory_init_effect number (Some memory) (Some bytes) at 0 count ≡ Makes (WriteMemory number at bytes) =
    ap (λ (bs : List ℕ). bytes_effect number at bs (within at count (length memory.bytes) && within 0 count (length bytes))) (whole_part bytes)
    ∙ test_true number at bytes (within at count (length memory.bytes)) (within 0 count (length bytes))
    (le-leb (at + count) (length memory.bytes) fits) (le-leb (0 + count) (length bytes) (omega arith)) in
    ap (λ (o : Option ℕ). data_copied i number count o s) (address_given m at)
    ∙ ap (λ (o : Option Memory). copied (DataUnfit i) (EmptyData i) s (memory_init_effect number o (slice_get (done ++ bytes ∷ more) i) at 0 count)) here
    ∙ ap (λ (o : Option (List ℕ)). copied (DataUnfit i) (EmptyData i) s (memory_init_effect number (Some memory) o at 0 count)) (found_there done bytes more)
    ∙ ap (λ (e : BulkEffect). copied (DataUnfit i) (EmptyData i) s e) effect
    ∙ ap (λ (ds : List (List ℕ)). Instance (filled b (altered (λ (x : Memory). with_bytes at bytes x) ms number) ds)) (altered_there (λ (x : List ℕ). []) done bytes more)

module _ (m : Module) (targets : List Memory) (b : State) where
  pub record Ran (index : ℕ) (slots : List Slot) (ms : List Memory) (done : List (List ℕ)) : Type 0 where
    pub memories : List Memory
    pub is : datas_run m index (segments_for targets slots) (filled b ms (done ++ bytes_for targets slots)) ≡ Instance (filled b memories (done ++ map slot_left slots))
    pub near : AreNear targets [] memories

  -- one segment is run through, and then the others
  behind : (index : ℕ) (d : DataSegment) (slots : List Slot) (left : List ℕ) (ms after : List Memory) (done : List (List ℕ)) → length done ≡ index
      → data_run m (length done) (length d.bytes) d.mode (filled b ms (done ++ d.bytes ∷ bytes_for targets slots)) ≡ Instance (filled b after (done ++ left ∷ bytes_for targets slots))
      → (ran : Ran (index + 1) slots after (done ++ left ∷ []))
      → instance_then (λ now. datas_run m (index + 1) (segments_for targets slots) now) (data_run m index (length d.bytes) d.mode (filled b ms (done ++ d.bytes ∷ bytes_for targets slots)))
      ≡ Instance (filled b ran.memories (done ++ left ∷ map slot_left slots))
  behind index d slots left ms after done at h ran =
      ap (λ (made : Fresh). instance_then (λ now. datas_run m (index + 1) (segments_for targets slots) now) made)
      (subst (λ (n : ℕ). data_run m n (length d.bytes) d.mode (filled b ms (done ++ d.bytes ∷ bytes_for targets slots)) ≡ Instance (filled b after (done ++ left ∷ bytes_for targets slots))) at h)
      ∙ ap (λ (ds : List (List ℕ)). datas_run m (index + 1) (segments_for targets slots) (filled b after ds)) (sym (append_assoc done (left ∷ []) (bytes_for targets slots)))
      ∙ ran.is ∙ ap (λ (ds : List (List ℕ)). Instance (filled b ran.memories ds)) (append_assoc done (left ∷ []) (map slot_left slots))

  head : (index number at len : ℕ) (slots : List Slot) (ms : List Memory) (done : List (List ℕ)) (o : Option Memory) → slice_get targets number ≡ o → length done ≡ index
      → IsSomeAnd o (λ memory. (0 < len) × (at + len ≤ length memory.bytes)) → AreNear targets (record { memory = number; at = at; len = len } ∷ heads slots) ms
      → ((after : List Memory) (front : List (List ℕ)) → length front ≡ index + 1 → AreNear targets (heads slots) after → Ran (index + 1) slots after front)
      → Ran index (HeadSlot number at len ∷ slots) ms done
  head index number at len slots ms done None is long range near rest = absurd range
  head index number at len slots ms done (Some target) is long range near rest = by (near.each number target is)
    where
      bytes_are : range_bytes targets number at len ≡ part target.bytes at len
      bytes_are = ap (λ (o : Option Memory). memory_part o at len) is

      by : (memory : Memory) × (slice_get ms number ≡ Some memory) × IsNear (record { memory = number; at = at; len = len } ∷ heads slots) number memory target
          → Ran index (HeadSlot number at len ∷ slots) ms done
      by (memory, found, close) =
          let bytes = range_bytes targets number at len in
          let size : length bytes ≡ len = ap (λ (bs : List ℕ). length bs) bytes_are ∙ length-part target.bytes at len range.1 in
          let after = altered (λ (x : Memory). with_bytes at bytes x) ms number in
          let closer = subst (λ (bs : List ℕ). AreNear targets (heads slots) (altered (λ (x : Memory). with_bytes at bs x) ms number)) (sym bytes_are)
          (nearer targets (record { memory = number; at = at; len = len }) (heads slots) ms target is range.1 near) in
          let ran = rest after (done ++ [] ∷ []) (one_longer done [] index long) closer in
          record {
            memories = ran.memories;
            is =
                behind index (record { mode = ActiveData number (constant_code (I32 at)); bytes = bytes }) slots [] ms after done long
                (copies m number at bytes b ms memory done (bytes_for targets slots) found (omega (arith, size, range.1, close.size))) ran;
            near = ran.near;
          }

  pub runs : (index : ℕ) (slots : List Slot) (ms : List Memory) (done : List (List ℕ)) → length done ≡ index
      → All (λ segment. IsRangeOf targets segment) (heads slots) → AreNear targets (heads slots) ms → Ran index slots ms done
  runs index [] ms done long ranges near = record { memories = ms; is = refl; near = near }
  runs index (PassiveSlot bytes ∷ slots) ms done long ranges near =
      let ran = runs (index + 1) slots ms (done ++ bytes ∷ []) (one_longer done bytes index long) ranges near in
      record {
        memories = ran.memories;
        is = behind index (record { mode = PassiveData; bytes = bytes }) slots bytes ms ms done long refl ran;
        near = ran.near;
      }
  runs index (EmptySlot ∷ slots) ms done long ranges near =
      let ran = runs (index + 1) slots ms (done ++ [] ∷ []) (one_longer done [] index long) ranges near in
      record {
        memories = ran.memories;
        is = behind index (record { mode = PassiveData; bytes = [] }) slots [] ms ms done long refl ran;
        near = ran.near;
      }
  runs index (HeadSlot number at len ∷ slots) ms done long ranges near =
      let P = λ (segment : ChosenSegment). IsRangeOf targets segment in
      head index number at len slots ms done (slice_get targets number) refl long
      (All-head P (record { memory = number; at = at; len = len }) (heads slots) ranges) near
      (λ after front more closer. runs (index + 1) slots after front more (All-tail P (record { memory = number; at = at; len = len }) (heads slots) ranges) closer)

-- ---- what is left begins with what the run left of the input's

-- a passive segment that the run dropped, or none of whose bytes were there, is empty; any other has its bytes
passive_left : (bytes now : List ℕ) (one other : Bool) → has_no_items bytes ≡ one → has_no_items now ≡ other → (Some bytes ≡ Some now) ⊎ (now ≡ [])
    → slot_left (if not one && other then EmptySlot else PassiveSlot bytes) ≡ now
passive_left bytes now true other e e' (inl same) = cc same
passive_left bytes now true other e e' (inr none) = no_items bytes e ∙ sym none
passive_left bytes now false true e e' h = sym (no_items now e')
passive_left bytes now false false e e' (inl same) = cc same
passive_left bytes now false false e e' (inr none) = absurd (cc (has_none now none, e'))

-- slots that leave these data segments, and empty ones behind
pub record BeginsWith (slots : List Slot) (nows : List (List ℕ)) : Type 0 where
  pub more : List (List ℕ)
  pub is : map slot_left slots ≡ nows ++ more
  pub empty : All (λ bytes. bytes ≡ []) more

behind_first : (slot : Slot) (slots : List Slot) (now : List ℕ) (nows : List (List ℕ)) → slot_left slot ≡ now → BeginsWith slots nows → BeginsWith (slot ∷ slots) (now ∷ nows)
behind_first slot slots now nows e h = record {
  more = h.more;
  is = ap (λ (bs : List ℕ). bs ∷ map slot_left slots) e ∙ ap (λ (bss : List (List ℕ)). now ∷ bss) h.is;
  empty = h.empty;
}

only_empty : (chosen : List ChosenSegment) → All (λ bytes. bytes ≡ []) (map slot_left (map head_slot chosen))
only_empty [] = All-nil (λ (bytes : List ℕ). bytes ≡ [])
only_empty (segment ∷ chosen) = All-cons (λ (bytes : List ℕ). bytes ≡ []) [] (map slot_left (map head_slot chosen)) refl (only_empty chosen)

emptied : (now : List ℕ) → (Some [] ≡ Some now) ⊎ (now ≡ []) → [] ≡ now
emptied now (inl same) = cc same
emptied now (inr none) = sym none

active_begins : (chosen : List ChosenSegment) (others : List ChosenSegment → List Slot) (now : List ℕ) (nows : List (List ℕ)) → [] ≡ now
    → ((left : List ChosenSegment) → BeginsWith (others left) nows) → BeginsWith (active_slots chosen others) (now ∷ nows)
active_begins [] others now nows e h = behind_first EmptySlot (others []) now nows e (h [])
active_begins (segment ∷ chosen) others now nows e h = behind_first (head_slot segment) (others chosen) now nows e (h chosen)

slot_begins : (mode : DataMode) (bytes : List ℕ) (mark : Bool) (chosen : List ChosenSegment) (others : List ChosenSegment → List Slot) (now : List ℕ) (nows : List (List ℕ))
    → mark ≡ has_no_items now → (Some (bytes_left mode bytes) ≡ Some now) ⊎ (now ≡ []) → ((left : List ChosenSegment) → BeginsWith (others left) nows)
    → BeginsWith (slots_at mode bytes mark chosen others) (now ∷ nows)
slot_begins PassiveData bytes mark chosen others now nows e h rest =
    behind_first (passive_slot bytes mark) (others chosen) now nows (passive_left bytes now (has_no_items bytes) mark refl (sym e) h) (rest chosen)
slot_begins (ActiveData memory offset) bytes mark chosen others now nows e h rest = active_begins chosen others now nows (emptied now h) rest

pub begins : (marks : List Bool) (n : ℕ) (datas : List DataSegment) (chosen : List ChosenSegment) (nows : List (List ℕ)) → length nows ≡ length datas
    → ((i : ℕ) (now : List ℕ) → slice_get nows i ≡ Some now → is_empty_at marks (n + i) ≡ has_no_items now)
    → ((i : ℕ) (now : List ℕ) → slice_get nows i ≡ Some now → (slice_get (all_left datas) i ≡ Some now) ⊎ (now ≡ []))
    → BeginsWith (slots_from marks n datas chosen) nows
begins marks n [] chosen [] many marked h = record { more = map slot_left (map head_slot chosen); is = refl; empty = only_empty chosen }
begins marks n [] chosen (now ∷ nows) many marked h = absurd (omega (arith, many))
begins marks n (d ∷ datas) chosen [] many marked h = absurd (omega (arith, many))
begins marks n (d ∷ datas) chosen (now ∷ nows) many marked h =
    slot_begins d.mode d.bytes (is_empty_at marks n) chosen (λ left. slots_from marks (n + 1) datas left) now nows
    (subst (λ (k : ℕ). is_empty_at marks k ≡ has_no_items now) (omega arith) (marked 0 now refl)) (h 0 now refl)
    (λ left. begins marks (n + 1) datas left nows (omega (arith, many))
    (λ i other here. subst (λ (k : ℕ). is_empty_at marks k ≡ has_no_items other) (omega arith) (marked (suc i) other here))
    (λ i other here. h (suc i) other here))
