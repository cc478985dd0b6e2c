-- What the input's data segments leave: the active ones are empty, and memories keep whole pages.
use Rattle.std.proofs.Common.{◌≡◌, ℕ, ◌+◌, ◌≤◌, List, [], ◌∷◌, ◌++◌, length, map, Option, Some, None, Bool, true, false, ◌&&◌, if◌then◌else◌, slice_get, refl, sym, ap, subst, ◌∙◌, arith}
use Rattle.std.proofs.Common.{leb-true}
use Rattle.std.proofs.lemmas.List.{append_assoc}
use Rattle.wz_types.specs.declared.trap.TrapKind.TheVariants.{MemoryBounds}
use Rattle.wz_linear.specs.Bytes.{part}
use Rattle.wz_module.specs.Datas.{DataMode, PassiveData, ActiveData, DataSegment}
use Rattle.wz_module.specs.Module.{Module}
use Rattle.wz_store.specs.State.{Memory}
use Rattle.wz_store.specs.Changes.{Change, WriteMemory, EmptyData, altered, with_bytes, applied}
use Rattle.wz_bulk.specs.Effects.{BulkEffect, Makes, Aborts, Misfits, within}
use Rattle.wz_bulk.specs.MemoryEffects.{memory_init_effect}
use Rattle.wz_machine.specs.State.{State}
use Rattle.wz_init.specs.Constants.{constant_number}
use Rattle.wz_init.specs.Instances.{Instance, ElementUnfit, DataUnfit, NoInstance, Fresh, instance_then}
use Rattle.wz_init.specs.Instantiation.{copied, data_copied, data_run, datas_run}
use Rattle.wz_init.proofs.FreshLemmas.{same_state}
use Rattle.wz_init.proofs.FineLemmas.{part_short}
use Rattle.wz_top.proofs.FreshRunLemmas.{AreWhole, whole_written}
use Rattle.wz_top.proofs.FreshElementLemmas.{altered_there, one_longer}

-- the state with these memories and data segments
abbrev pub filled : State → List Memory → List (List ℕ) → State
filled b memories datas = record b { memories = memories; datas = datas }

-- ---- what is left of the input's data segments

abbrev pub bytes_left : DataMode → List ℕ → List ℕ
bytes_left PassiveData bytes = bytes
bytes_left (ActiveData memory offset) bytes = []

abbrev pub all_left : List DataSegment → List (List ℕ)
all_left segments = map (λ (d : DataSegment). bytes_left d.mode d.bytes) segments

writes : (memory at count : ℕ) (o : Option Memory) (bytes : Option (List ℕ)) (change : Change) → memory_init_effect memory o bytes at 0 count ≡ Makes change
    → (new : List ℕ) × (change ≡ WriteMemory memory at new) × ((m : Memory) → o ≡ Some m → at + length new ≤ length m.bytes)
writes memory at count None bytes change h = absurd (cc h)
writes memory at count (Some m) None change h = absurd (cc h)
writes memory at count (Some m) (Some bytes) change h = by (within at count (length m.bytes)) (within 0 count (length bytes)) refl h
  where
    by : (b c : Bool) → within at count (length m.bytes) ≡ b → (if b && c then Makes (WriteMemory memory at (part bytes 0 count)) else Aborts MemoryBounds) ≡ Makes change
        → (new : List ℕ) × (change ≡ WriteMemory memory at new) × ((other : Memory) → Some m ≡ Some other → at + length new ≤ length other.bytes)
    by true true fits h =
        let same : WriteMemory memory at (part bytes 0 count) ≡ change = cc h in (
          part bytes 0 count,
          sym same,
          λ other is.
              let alike : m ≡ other = cc is in
              omega (arith, ap (λ (x : Memory). length x.bytes) alike, part_short bytes 0 count, leb-true (at + count) (length m.bytes) fits),
        )
    by true false fits h = absurd (cc h)
    by false c fits h = absurd (cc h)

record Stepped (mode : DataMode) (bytes : List ℕ) (b : State) (done more : List (List ℕ)) (mid : State) : Type 0 where
  memories : List Memory
  whole : AreWhole memories
  is : mid ≡ filled b memories (done ++ bytes_left mode bytes ∷ more)

one : (m : Module) (count : ℕ) (mode : DataMode) (bytes : List ℕ) (b : State) (ms : List Memory) (done more : List (List ℕ)) (mid : State) → AreWhole ms
    → data_run m (length done) count mode (filled b ms (done ++ bytes ∷ more)) ≡ Instance mid → Stepped mode bytes b done more mid
one m count PassiveData bytes b ms done more mid whole h = record { memories = ms; whole = whole; is = sym (same_state (filled b ms (done ++ bytes ∷ more)) mid h) }
one m count (ActiveData memory offset) bytes b ms done more mid whole h = by (constant_number m offset) h
  where
    by : (o : Option ℕ) → data_copied (length done) memory count o (filled b ms (done ++ bytes ∷ more)) ≡ Instance mid
        → Stepped (ActiveData memory offset) bytes b done more mid
    by None h = absurd (cc h)
    by (Some at) h = made (memory_init_effect memory (slice_get ms memory) (slice_get (done ++ bytes ∷ more) (length done)) at 0 count) refl h
      where
        made : (effect : BulkEffect) → memory_init_effect memory (slice_get ms memory) (slice_get (done ++ bytes ∷ more) (length done)) at 0 count ≡ effect
            → copied (DataUnfit (length done)) (EmptyData (length done)) (filled b ms (done ++ bytes ∷ more)) effect ≡ Instance mid
            → Stepped (ActiveData memory offset) bytes b done more mid
        made (Makes change) e k =
            let s = filled b ms (done ++ bytes ∷ more) in
            let wrote = writes memory at count (slice_get ms memory) (slice_get (done ++ bytes ∷ more) (length done)) change e in
            let now = altered (λ (x : Memory). with_bytes at wrote.0 x) ms memory in
            record {
              memories = now;
              whole = whole_written ms memory at wrote.0 whole wrote.2;
              is =
                  sym (same_state (applied (EmptyData (length done)) (applied change s)) mid k)
                  ∙ ap (λ (c : Change). applied (EmptyData (length done)) (applied c s)) wrote.1
                  ∙ ap (λ (ds : List (List ℕ)). filled b now ds) (altered_there (λ (x : List ℕ). []) done bytes more);
            }
        made (Aborts kind) e k = absurd (cc k)
        made Misfits e k = absurd (cc k)

pub record Ran (segments : List DataSegment) (b : State) (done : List (List ℕ)) (now : State) : Type 0 where
  pub memories : List Memory
  pub whole : AreWhole memories
  pub is : now ≡ filled b memories (done ++ all_left segments)

one_more : (m : Module) (index : ℕ) (d : DataSegment) (segments : List DataSegment) (b : State) (ms : List Memory) (done more : List (List ℕ)) (now : State)
    → AreWhole ms → length done ≡ index
    → ((front : List (List ℕ)) (after : List Memory) → AreWhole after → length front ≡ index + 1 → datas_run m (index + 1) segments (filled b after (front ++ more)) ≡ Instance now
    → Ran segments b front now)
    → (made : Fresh) → data_run m index (length d.bytes) d.mode (filled b ms (done ++ d.bytes ∷ more)) ≡ made
    → instance_then (λ next. datas_run m (index + 1) segments next) made ≡ Instance now → Ran (d ∷ segments) b done now
one_more m index d segments b ms done more now whole at rest (Instance mid) h k =
    let step = one m (length d.bytes) d.mode d.bytes b ms done more mid whole
    (subst (λ (n : ℕ). data_run m n (length d.bytes) d.mode (filled b ms (done ++ d.bytes ∷ more)) ≡ Instance mid) (sym at) h) in
    let left = bytes_left d.mode d.bytes in
    let ran = rest (done ++ left ∷ []) step.memories step.whole (one_longer done left index at)
    (ap (λ (ds : List (List ℕ)). datas_run m (index + 1) segments (filled b step.memories ds)) (append_assoc done (left ∷ []) more)
    ∙ ap (λ (s : State). datas_run m (index + 1) segments s) (sym step.is) ∙ k) in
    record { memories = ran.memories; whole = ran.whole; is = ran.is ∙ ap (λ (ds : List (List ℕ)). filled b ran.memories ds) (append_assoc done (left ∷ []) (all_left segments)) }
one_more m index d segments b ms done more now whole at rest (ElementUnfit i) h k = absurd (cc k)
one_more m index d segments b ms done more now whole at rest (DataUnfit i) h k = absurd (cc k)
one_more m index d segments b ms done more now whole at rest NoInstance h k = absurd (cc k)

-- what the input's data segments leave
pub runs : (m : Module) (index : ℕ) (segments : List DataSegment) (b : State) (ms : List Memory) (done : List (List ℕ)) (now : State) → AreWhole ms → length done ≡ index
    → datas_run m index segments (filled b ms (done ++ map (λ (d : DataSegment). d.bytes) segments)) ≡ Instance now → Ran segments b done now
runs m index [] b ms done now whole at h = record { memories = ms; whole = whole; is = sym (same_state (filled b ms (done ++ [])) now h) }
runs m index (d ∷ segments) b ms done now whole at h =
    one_more m index d segments b ms done (map (λ (x : DataSegment). x.bytes) segments) now whole at
    (λ front after whole long k. runs m (index + 1) segments b after front now whole long k)
    (data_run m index (length d.bytes) d.mode (filled b ms (done ++ d.bytes ∷ map (λ (x : DataSegment). x.bytes) segments))) refl h
