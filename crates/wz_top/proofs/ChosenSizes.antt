-- The chosen ranges have together no more bytes than the memories, and with the slots that they take no more than their own.
use Rattle.std.proofs.Common.{◌≡◌, ℕ, zero, suc, ◌+◌, ◌*◌, ◌-◌, ◌/◌, ◌<◌, ◌≤◌, List, [], ◌∷◌, length, take, drop, get_or, map, Bool, true, false, cond, Option, Some, None, refl, ap, arith}
use Rattle.std.specs.Prelude.{slice_get, IsSomeAnd}
use Rattle.std.specs.List.{All, sum_by}
use Rattle.std.proofs.lemmas.List.Elements.{All-nil, All-head, All-tail, All-take, All-drop}
use Rattle.std.proofs.lemmas.List.Sums.{sum_by-cons, sum_by-append, get_or-le-sum_by}
use Rattle.std.proofs.lemmas.Option.{slice_get-get_or, slice_get_within, get_or_from_slice_get}
use Rattle.wz_linear.specs.Bytes.{IsWithin, part}
use Rattle.wz_plan.specs.declared.runs.Run.{Run}
use Rattle.wz_plan.specs.Ranges.{shortest_cut, end_of, RisesFrom, EndsBy}
use Rattle.wz_plan.specs.Plan.{plan}
use Rattle.wz_plan.specs.Laws.{PlanRises, PlanIsWithin}
use Rattle.wz_store.specs.State.{Memory, pages_of, pages_together}
use Rattle.wz_machine.specs.TypedState.{HoldsBytes}
use Rattle.wz_module.specs.Datas.{DataMode, PassiveData, ActiveData, DataSegment}
use Rattle.wz_encode.specs.Datas.{Slot, PassiveSlot, EmptySlot}
use Rattle.wz_snapshot.specs.declared.segment.ChosenSegment.{ChosenSegment}
use Rattle.wz_snapshot.specs.Recorded.{memory_limit, chosen_segment, chosen_in, chosen_from, chosen_segments}
use Rattle.wz_rewrite.specs.OutputState.{memory_part, HasRange}
use Rattle.wz_rewrite.specs.Dropped.{was_emptied, is_empty_at}
use Rattle.wz_rewrite.specs.Slots.{passive_slot, head_slot, slots_at, slots_from, with_behind}
use Rattle.wz_rewrite.specs.Laws.{CanBeRange}
use Rattle.wz_top.proofs.TextSizes.{slot_size}

abbrev pub range_size : ChosenSegment → ℕ
range_size c = c.len

-- ---- the ranges of a plan

abbrev run_size : Run → ℕ
run_size range = range.len

ranges_sum : (low high : ℕ) (ranges : List Run) → RisesFrom shortest_cut low ranges → EndsBy high ranges → sum_by run_size ranges ≤ high - low
ranges_sum low high [] rise ends = omega arith
ranges_sum low high (range ∷ ranges) rise ends =
    let last = All-head (λ (r : Run). end_of r ≤ high) range ranges ends in
    let more = ranges_sum (end_of range + shortest_cut) high ranges rise.1 (All-tail (λ (r : Run). end_of r ≤ high) range ranges ends) in
    let step = sum_by-cons run_size range ranges in
    let first = rise.0 in
    omega (arith, last, more, step, first)

mapped_sum : (number : ℕ) (ranges : List Run) → sum_by range_size (map (chosen_segment number) ranges) ≡ sum_by run_size ranges
mapped_sum number [] = refl
mapped_sum number (range ∷ ranges) =
    let one = sum_by-cons range_size (chosen_segment number range) (map (chosen_segment number) ranges) in
    let other = sum_by-cons run_size range ranges in
    let more = mapped_sum number ranges in
    omega (arith, one, other, more)

abbrev bytes_size : Memory → ℕ
bytes_size memory = length memory.bytes

chosen_sum : PlanRises → PlanIsWithin → (limit number : ℕ) (memories : List Memory) → sum_by range_size (chosen_from limit number memories) ≤ sum_by bytes_size memories
chosen_sum rise within limit number [] = omega arith
chosen_sum rise within limit number (memory ∷ memories) =
    let one = ranges_sum 0 (length memory.bytes) (plan memory.bytes limit) (rise memory.bytes limit) (within memory.bytes limit) in
    let same = mapped_sum number (plan memory.bytes limit) in
    let split = sum_by-append range_size (chosen_in limit number memory.bytes) (chosen_from limit (number + 1) memories) in
    let more = chosen_sum rise within limit (number + 1) memories in
    let step = sum_by-cons bytes_size memory memories in
    omega (arith, one, same, split, more, step)

bytes_sum : (memories : List Memory) → sum_by bytes_size memories ≤ 65536 * pages_together memories + 65536 * length memories
bytes_sum [] = omega arith
bytes_sum (memory ∷ memories) =
    let more = bytes_sum memories in
    let bytes = sum_by-cons bytes_size memory memories in
    let pages = sum_by-cons pages_of memory memories in
    let one : length memory.bytes ≤ 65536 * (length memory.bytes / 65536) + 65536 = omega arith in
    omega (arith, more, bytes, pages, one)

-- memories of the profile, of which there is one at most
pub record AreFew (memories : List Memory) : Type 0 where
  pub pages : pages_together memories ≤ 16384
  pub count : length memories ≤ 1

abbrev pub most_bytes : ℕ
most_bytes = 1073807360

bytes_few : (memories : List Memory) → AreFew memories → sum_by bytes_size memories ≤ most_bytes
bytes_few memories few = let all = bytes_sum memories in let pages = few.pages in let count = few.count in omega (arith, all, pages, count)

pub ranges_short : PlanRises → PlanIsWithin → (memories : List Memory) → AreFew memories → sum_by range_size (chosen_segments memories) ≤ most_bytes
ranges_short rise within memories few =
    let chosen = chosen_sum rise within (memory_limit (length memories)) 0 memories in
    let bytes = bytes_few memories few in
    omega (arith, chosen, bytes)

-- ---- what stands in them

pub all_from : {X : Type 0} (P : X → Type 0) (xs : List X) → ((i : ℕ) (x : X) → slice_get xs i ≡ Some x → P x) → All P xs
all_from P xs each k d less = each k (get_or xs k d) (slice_get-get_or xs k d less)

take_short : (n : ℕ) (xs : List ℕ) → length (take n xs) ≤ n
take_short zero xs = omega arith
take_short (suc n) [] = omega arith
take_short (suc n) (x ∷ xs) = let more = take_short n xs in omega (arith, more)

in_short : (o : Option Memory) (at len : ℕ) → length (memory_part o at len) ≤ len
unfolding part
in_short None at len = omega arith
in_short (Some memory) at len = take_short len (drop at memory.bytes)

in_bytes : (o : Option Memory) (at len : ℕ) → ((memory : Memory) → o ≡ Some memory → HoldsBytes memory.bytes) → All (λ b. b < 256) (memory_part o at len)
unfolding part
in_bytes None at len each = All-nil (λ b. b < 256)
in_bytes (Some memory) at len each =
    All-take (λ b. b < 256) len (drop at memory.bytes) (All-drop (λ b. b < 256) at memory.bytes (all_from (λ b. b < 256) memory.bytes (each memory refl)))

-- each range can be written: its place is a number of 32 bits, and it holds bytes
pub range_can : (memories : List Memory) (c : ChosenSegment) → AreFew memories → HasRange memories c
    → ((index : ℕ) (memory : Memory) → slice_get memories index ≡ Some memory → HoldsBytes memory.bytes) → CanBeRange memories c
range_can memories c few range each = by (slice_get memories c.memory) refl range where
  by : (o : Option Memory) → slice_get memories c.memory ≡ o → IsSomeAnd o (λ memory. IsWithin memory.bytes c.at c.len) → CanBeRange memories c
  by None is h = absurd h
  by (Some memory) is h =
      let inside = slice_get_within memories c.memory memory is in
      let one = get_or-le-sum_by bytes_size memories c.memory memory inside in
      let same = ap bytes_size (get_or_from_slice_get memories c.memory memory memory is) in
      let all = bytes_few memories few in
      let count = few.count in
      let short = in_short (slice_get memories c.memory) c.at c.len in
      (omega (arith, inside, count), omega (arith, one, same, all, h), (omega (arith, one, same, all, h, short), in_bytes (slice_get memories c.memory) c.at c.len (each c.memory)))

-- ---- with the slots

-- the slots of these, with the bytes that follow each
module _ (memories : List Memory) where
  abbrev behind_all : List Slot → List (Slot × List ℕ)
  behind_all slots = map (λ slot. with_behind memories slot) slots

  abbrev size_all : List Slot → ℕ
  size_all slots = sum_by slot_size (behind_all slots)

  size-cons : (slot : Slot) (slots : List Slot) → size_all (slot ∷ slots) ≡ slot_size (with_behind memories slot) + size_all slots
  size-cons slot slots = sum_by-cons slot_size (with_behind memories slot) (behind_all slots)

  head_size : (c : ChosenSegment) → slot_size (with_behind memories (head_slot c)) ≤ c.len
  head_size c = let short = in_short (slice_get memories c.memory) c.at c.len in omega (arith, short)

  heads_size : (chosen : List ChosenSegment) → size_all (map head_slot chosen) ≤ sum_by range_size chosen
  heads_size [] = omega arith
  heads_size (c ∷ chosen) =
      let one = head_size c in
      let more = heads_size chosen in
      let slots = size-cons (head_slot c) (map head_slot chosen) in
      let step = sum_by-cons range_size c chosen in
      omega (arith, one, more, slots, step)

  passive_size : (bytes : List ℕ) (b : Bool) → slot_size (with_behind memories (cond b EmptySlot (PassiveSlot bytes))) ≤ length bytes
  passive_size bytes true = omega arith
  passive_size bytes false = omega arith

  at_size : (mode : DataMode) (bytes : List ℕ) (empty : Bool) (chosen : List ChosenSegment) (others : List ChosenSegment → List Slot) (rest : ℕ)
      → ((left : List ChosenSegment) → size_all (others left) ≤ rest + sum_by range_size left)
      → size_all (slots_at mode bytes empty chosen others) ≤ length bytes + rest + sum_by range_size chosen
  at_size PassiveData bytes empty chosen others rest each =
      let one = passive_size bytes (was_emptied bytes empty) in
      let more = each chosen in
      let slots = size-cons (passive_slot bytes empty) (others chosen) in
      omega (arith, one, more, slots)
  at_size (ActiveData memory offset) bytes empty [] others rest each =
      let more = each [] in
      let slots = size-cons EmptySlot (others []) in
      omega (arith, more, slots)
  at_size (ActiveData memory offset) bytes empty (c ∷ chosen) others rest each =
      let one = head_size c in
      let more = each chosen in
      let slots = size-cons (head_slot c) (others chosen) in
      let step = sum_by-cons range_size c chosen in
      omega (arith, one, more, slots, step)

  pub slots_size : (marks : List Bool) (number : ℕ) (datas : List DataSegment) (chosen : List ChosenSegment)
      → size_all (slots_from marks number datas chosen) ≤ sum_by (λ (d : DataSegment). length d.bytes) datas + sum_by range_size chosen
  slots_size marks number [] chosen = let heads = heads_size chosen in omega (arith, heads)
  slots_size marks number (d ∷ datas) chosen =
      let one = at_size d.mode d.bytes (is_empty_at marks number) chosen (λ left. slots_from marks (number + 1) datas left)
      (sum_by (λ (d : DataSegment). length d.bytes) datas) (λ left. slots_size marks (number + 1) datas left) in
      let step = sum_by-cons (λ (d : DataSegment). length d.bytes) d datas in
      omega (arith, one, step)

heads_count : (chosen : List ChosenSegment) → length (map head_slot chosen) ≤ length chosen
heads_count [] = omega arith
heads_count (c ∷ chosen) = let more = heads_count chosen in omega (arith, more)

at_count : (mode : DataMode) (bytes : List ℕ) (empty : Bool) (chosen : List ChosenSegment) (others : List ChosenSegment → List Slot) (rest : ℕ)
    → ((left : List ChosenSegment) → length (others left) ≤ rest + length left) → length (slots_at mode bytes empty chosen others) ≤ 1 + rest + length chosen
at_count PassiveData bytes empty chosen others rest each = let more = each chosen in omega (arith, more)
at_count (ActiveData memory offset) bytes empty [] others rest each = let more = each [] in omega (arith, more)
at_count (ActiveData memory offset) bytes empty (c ∷ chosen) others rest each = let more = each chosen in omega (arith, more)

pub slots_count : (marks : List Bool) (number : ℕ) (datas : List DataSegment) (chosen : List ChosenSegment)
    → length (slots_from marks number datas chosen) ≤ length datas + length chosen
slots_count marks number [] chosen = let heads = heads_count chosen in omega (arith, heads)
slots_count marks number (d ∷ datas) chosen =
    let one = at_count d.mode d.bytes (is_empty_at marks number) chosen (λ left. slots_from marks (number + 1) datas left) (length datas)
    (λ left. slots_count marks (number + 1) datas left) in
    omega (arith, one)
