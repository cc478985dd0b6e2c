-- The data segments of the output.
use Rattle.std.proofs.Common.{ℕ, suc, ◌+◌, ◌^◌, ◌<◌, ◌≤◌, List, [], ◌∷◌, length, map, Bool, true, false, cond}
use Rattle.std.proofs.Common.{All, arith}
use Rattle.std.proofs.lemmas.List.Elements.{All-nil, All-cons, All-head, All-tail, All-map}
use Rattle.wz_types.specs.declared.types.ValType.TheVariants.{I32}
use Rattle.wz_store.specs.State.{Memory}
use Rattle.wz_module.specs.Datas.{DataMode, PassiveData, ActiveData, DataSegment}
use Rattle.wz_valid_code.specs.Context.{TypingContext}
use Rattle.wz_valid_code.specs.Typing.{IsConstant}
use Rattle.wz_encode.specs.Datas.{Slot, PassiveSlot, EmptySlot, HeadSlot, segment_of}
use Rattle.wz_snapshot.specs.declared.segment.ChosenSegment.{ChosenSegment}
use Rattle.wz_rewrite.specs.Dropped.{was_emptied, is_empty_at}
use Rattle.wz_rewrite.specs.Slots.{passive_slot, head_slot, active_slots, slots_at, slots_from, with_behind}
use Rattle.wz_rewrite.proofs.ConstantLemmas.{address-ok}

-- ---- what holds of each slot

abbrev pub IsAddressOk : ℕ → ℕ → ℕ → Type 0
IsAddressOk memories memory at = (memory < memories) × (at < 2 ^ 32)

abbrev pub IsChosenOk : ℕ → ChosenSegment → Type 0
IsChosenOk memories segment = IsAddressOk memories segment.memory segment.at

abbrev pub IsSlotOk : ℕ → Slot → Type 0
IsSlotOk memories (PassiveSlot bytes) = Unit {0}
IsSlotOk memories EmptySlot = Unit {0}
IsSlotOk memories (HeadSlot memory at len) = IsAddressOk memories memory at

passive-ok : (memories : ℕ) (b : Bool) (bytes : List ℕ) → IsSlotOk memories (cond b EmptySlot (PassiveSlot bytes))
passive-ok memories true bytes = tt
passive-ok memories false bytes = tt

module _ (memories : ℕ) where
  abbrev pub AllOk : List Slot → Type 0
  AllOk slots = All (λ slot. IsSlotOk memories slot) slots

  abbrev pub AllChosenOk : List ChosenSegment → Type 0
  AllChosenOk chosen = All (λ segment. IsChosenOk memories segment) chosen

  active-ok : (chosen : List ChosenSegment) (others : List ChosenSegment → List Slot) → AllChosenOk chosen
      → ((left : List ChosenSegment) → AllChosenOk left → AllOk (others left)) → AllOk (active_slots chosen others)
  active-ok [] others ok more = All-cons (λ (slot : Slot). IsSlotOk memories slot) EmptySlot (others []) tt (more [] ok)
  active-ok (segment ∷ chosen) others ok more =
      let P : ChosenSegment → Type 0 = λ segment. IsChosenOk memories segment in
      All-cons (λ (slot : Slot). IsSlotOk memories slot) (head_slot segment) (others chosen) (All-head P segment chosen ok) (more chosen (All-tail P segment chosen ok))

  at-ok : (mode : DataMode) (bytes : List ℕ) (b : Bool) (chosen : List ChosenSegment) (others : List ChosenSegment → List Slot) → AllChosenOk chosen
      → ((left : List ChosenSegment) → AllChosenOk left → AllOk (others left)) → AllOk (slots_at mode bytes b chosen others)
  at-ok PassiveData bytes b chosen others ok more =
      All-cons (λ (slot : Slot). IsSlotOk memories slot) (passive_slot bytes b) (others chosen) (passive-ok memories (was_emptied bytes b) bytes) (more chosen ok)
  at-ok (ActiveData memory offset) bytes b chosen others ok more = active-ok chosen others ok more

  pub slots-ok : (marks : List Bool) (n : ℕ) (datas : List DataSegment) (chosen : List ChosenSegment) → AllChosenOk chosen → AllOk (slots_from marks n datas chosen)
  slots-ok marks n [] chosen ok = All-map (λ (slot : Slot). IsSlotOk memories slot) head_slot chosen ok
  slots-ok marks n (d ∷ datas) chosen ok =
      at-ok d.mode d.bytes (is_empty_at marks n) chosen (λ left. slots_from marks (n + 1) datas left) ok (λ left fine. slots-ok marks (n + 1) datas left fine)

-- ---- there are no fewer slots than segments

active-many : (least : ℕ) (chosen : List ChosenSegment) (others : List ChosenSegment → List Slot) → ((left : List ChosenSegment) → least ≤ length (others left))
    → suc least ≤ length (active_slots chosen others)
active-many least [] others more = let many = more [] in omega (arith, many)
active-many least (segment ∷ chosen) others more = let many = more chosen in omega (arith, many)

at-many : (mode : DataMode) (bytes : List ℕ) (b : Bool) (least : ℕ) (chosen : List ChosenSegment) (others : List ChosenSegment → List Slot)
    → ((left : List ChosenSegment) → least ≤ length (others left)) → suc least ≤ length (slots_at mode bytes b chosen others)
at-many PassiveData bytes b least chosen others more = let many = more chosen in omega (arith, many)
at-many (ActiveData memory offset) bytes b least chosen others more = active-many least chosen others more

pub slots-many : (marks : List Bool) (n : ℕ) (datas : List DataSegment) (chosen : List ChosenSegment) → length datas ≤ length (slots_from marks n datas chosen)
slots-many marks n [] chosen = omega arith
slots-many marks n (d ∷ datas) chosen =
    at-many d.mode d.bytes (is_empty_at marks n) (length datas) chosen (λ left. slots_from marks (n + 1) datas left) (λ left. slots-many marks (n + 1) datas left)

-- ---- the segments

abbrev pub IsModeIn : TypingContext → DataMode → Type 0
IsModeIn context PassiveData = Unit {0}
IsModeIn context (ActiveData memory offset) = (memory < context.memories) × IsConstant context offset I32

segment-ok : (context : TypingContext) (slot : Slot) (behind : List ℕ) → IsSlotOk context.memories slot → IsModeIn context (segment_of slot behind).mode
segment-ok context (PassiveSlot bytes) behind ok = tt
segment-ok context EmptySlot behind ok = tt
segment-ok context (HeadSlot memory at len) behind ok = (ok.0, address-ok context at ok.1)

pub segments-ok : (context : TypingContext) (memories : List Memory) (slots : List Slot) → All (λ slot. IsSlotOk context.memories slot) slots
    → All (λ d. IsModeIn context d.mode) (map (λ s. segment_of s.0 s.1) (map (λ slot. with_behind memories slot) slots))
segments-ok context memories [] ok = All-nil (λ (d : DataSegment). IsModeIn context d.mode)
segments-ok context memories (slot ∷ slots) ok =
    let P : Slot → Type 0 = λ slot. IsSlotOk context.memories slot in
    let both = with_behind memories slot in
    All-cons (λ (d : DataSegment). IsModeIn context d.mode) (segment_of both.0 both.1)
    (map (λ s. segment_of s.0 s.1) (map (λ slot. with_behind memories slot) slots)) (segment-ok context slot both.1 (All-head P slot slots ok))
    (segments-ok context memories slots (All-tail P slot slots ok))
