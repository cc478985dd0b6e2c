-- What stands in the output's data section (section 5.5.14 of the WebAssembly Core Specification 2.0). Which ranges of the memories are
-- chosen, and where they stand, is the tool's own.
use Rattle.std.specs.Prelude.{ℕ, ◌+◌, Bool, List, [], ◌∷◌, map, if◌then◌else◌}
use Rattle.wz_store.specs.State.{Memory}
use Rattle.wz_module.specs.Datas.{DataMode, PassiveData, ActiveData, DataSegment}
use Rattle.wz_module.specs.Module.{Module}
use Rattle.wz_encode.specs.Datas.{Slot, PassiveSlot, EmptySlot, HeadSlot}
use Rattle.wz_snapshot.specs.declared.segment.ChosenSegment.{ChosenSegment}
use Rattle.wz_rewrite.specs.OutputState.{OutputState, range_bytes}
use Rattle.wz_rewrite.specs.Dropped.{was_emptied, is_empty_at}

-- A passive segment keeps its bytes and its place. One that was dropped has none any more.
abbrev pub passive_slot : List ℕ → Bool → Slot
passive_slot bytes empty = if was_emptied bytes empty then EmptySlot else PassiveSlot bytes

-- a chosen range as an active segment
abbrev pub head_slot : ChosenSegment → Slot
head_slot segment = HeadSlot segment.memory segment.at segment.len

-- The place of an active segment takes the next chosen range, or nothing once these are used up. What follows gets the rest of them.
abbrev pub active_slots : List ChosenSegment → (List ChosenSegment → List Slot) → List Slot
active_slots [] others = EmptySlot ∷ others []
active_slots (segment ∷ chosen) others = head_slot segment ∷ others chosen

abbrev pub slots_at : DataMode → List ℕ → Bool → List ChosenSegment → (List ChosenSegment → List Slot) → List Slot
slots_at PassiveData bytes empty chosen others = passive_slot bytes empty ∷ others chosen
slots_at (ActiveData memory offset) bytes empty chosen others = active_slots chosen others

-- Each segment's place in its order, where the first has this number, and behind them the chosen ranges that are left.
abbrev pub slots_from : List Bool → ℕ → List DataSegment → List ChosenSegment → List Slot
slots_from marks number [] chosen = map head_slot chosen
slots_from marks number (d ∷ datas) chosen = slots_at d.mode d.bytes (is_empty_at marks number) chosen (λ left. slots_from marks (number + 1) datas left)

abbrev pub output_slots : Module → OutputState → List Slot
output_slots m o = slots_from o.empty_datas 0 m.datas o.chosen

-- the bytes that follow a slot: those of its range, where it is one
abbrev pub behind_slot : List Memory → Slot → List ℕ
behind_slot memories (PassiveSlot bytes) = []
behind_slot memories EmptySlot = []
behind_slot memories (HeadSlot number at len) = range_bytes memories number at len

-- each slot with the bytes that follow it
abbrev pub with_behind : List Memory → Slot → Slot × List ℕ
with_behind memories slot = (slot, behind_slot memories slot)

abbrev pub filled_slots : Module → OutputState → List (Slot × List ℕ)
filled_slots m o = map (λ slot. with_behind o.memories slot) (output_slots m o)
