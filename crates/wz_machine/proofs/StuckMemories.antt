-- Memory instructions do what their rules say.
use Rattle.std.proofs.Common.{◌≡◌, ◌≤◌, ◌+◌, ◌%◌, ◌^◌, ◌∷◌, ◌&&◌, [], ℕ, if◌then◌else◌, slice_get, Some, lt-ltb, drop, refl, List, length, subst, Bool, true, nat_le, arith, replicate, Option, sym, false}
use Rattle.std.proofs.lemmas.Bool.{and_parts, leb-true}
use Rattle.std.proofs.lemmas.List.{length-replicate}
use Rattle.wz_types.specs.declared.value.Value.{Value}
use Rattle.wz_types.specs.declared.trap.TrapKind.TheVariants.{MemoryBounds}
use Rattle.wz_types.specs.declared.types.ValType.TheVariants as valtype
use Rattle.wz_code.specs.declared.accesses.MemOp.{MemOp}
use Rattle.wz_code.specs.Accesses.{shape_of}
use Rattle.wz_linear.specs.Bytes.{part, bytes_of}
use Rattle.wz_linear.proofs.BytesLemmas.{length-bytes_of}
use Rattle.wz_valid_code.specs.Operands.{Operands}
use Rattle.wz_valid_code.specs.Rules.{Leads, Exchange}
use Rattle.wz_valid_code.specs.Instructions.{access_rule}
use Rattle.wz_store.specs.State.{Memory, pages_of}
use Rattle.wz_store.specs.Growth.{may_grow}
use Rattle.wz_store.specs.Changes.{Nothing, WriteMemory}
use Rattle.wz_bulk.specs.MemoryEffects.{bytes_effect}
use Rattle.wz_bulk.specs.Effects.{BulkEffect, Makes, Aborts, within}
use Rattle.wz_machine.specs.State.{State}
use Rattle.wz_machine.specs.TypedState.{IsStateTyped, state_context, HoldsBytes}
use Rattle.wz_machine.specs.MemorySteps.{memory_size_step, memory_grow_step, memory_fill_step, memory_copy_step, memory_init_step, load_step, value_effect, store_step, write_effect, access_step}
use Rattle.wz_machine.specs.Outcomes.{Effect, Poses, Yields, Fails}
use Rattle.wz_machine.specs.Terms.{AskMemory}
use Rattle.wz_machine.specs.BulkSteps.{minus_one, bulk_step}
use Rattle.wz_machine.proofs.StuckOperands.{Serves, take-i32, if-tested, take-three, by-rule}
use Rattle.wz_machine.proofs.StuckRelations.{Have, EffectServes}
use Rattle.wz_machine.proofs.LeafLemmas.{if-both}
use Rattle.wz_machine.proofs.StuckParts.{bytes-part, part-short, bytes-same, bytes-of}
use Rattle.wz_machine.proofs.StuckLoads.{loads, stores}

module _ (s : State) (typed : IsStateTyped (state_context s) s) where
  -- ---- sizes

  pub size-serves : (index : ℕ) (memory : Memory) → slice_get s.memories index ≡ Some memory → Serves s (λ vs. memory_size_step (Some memory) vs) [] (valtype.I32 ∷ [])
  size-serves index memory is values below off st = (tt, (lt-ltb (pages_of memory) (2 ^ 32) (typed.pages index memory is), st))

  pub grow-serves : (index : ℕ) (memory : Memory) → Serves s (λ vs. memory_grow_step index (Some memory) vs) (valtype.I32 ∷ []) (valtype.I32 ∷ [])
  grow-serves index memory values below off st =
      take-i32 (state_context s) (λ vs. Have s (drop 1 vs) below → EffectServes s (Some valtype.I32 ∷ below) (memory_grow_step index (Some memory) vs)) []
      (λ by vs lt off st. if-both (λ (e : Effect). EffectServes s (Some valtype.I32 ∷ below) e) (may_grow (pages_of memory) memory.maximum by)
      (Poses (AskMemory index by) vs) (Yields Nothing (minus_one ∷ vs)) (below, st, refl, tt) (tt, (refl, st))) values off st

  -- ---- ranges

  -- a write that lies within the memory
  memory-write : (index at : ℕ) (bytes : List ℕ) (memory : Memory) → slice_get s.memories index ≡ Some memory → at + length bytes ≤ length memory.bytes
      → (other : Memory) → slice_get s.memories index ≡ Some other → at + length bytes ≤ length other.bytes
  memory-write index at bytes memory is le other is_other =
      let same : memory ≡ other = cc in subst (λ (m : Memory). at + length bytes ≤ length m.bytes) same le

  bytes-serve : (index to : ℕ) (bytes : List ℕ) (fits : Bool) (memory : Memory) (values : List Value) (below : Operands) → slice_get s.memories index ≡ Some memory
      → HoldsBytes bytes → (fits ≡ true → to + length bytes ≤ length memory.bytes) → Have s values below
      → EffectServes s below (bulk_step values (bytes_effect index to bytes fits))
  bytes-serve index to bytes fits memory values below is hold le st =
      if-tested (λ (e : BulkEffect). EffectServes s below (bulk_step values e)) fits (Makes (WriteMemory index to bytes)) (Aborts MemoryBounds)
      (λ test. ((hold, memory-write index to bytes memory is (le test)), st)) tt

  -- bytes of a list go to a place, where both ranges lie within
  copied-serves : (index to from count : ℕ) (memory : Memory) (source : List ℕ) (values : List Value) (below : Operands) → slice_get s.memories index ≡ Some memory
      → HoldsBytes source → Have s values below
      → EffectServes s below (bulk_step values (bytes_effect index to (part source from count) (within to count (length memory.bytes) && within from count (length source))))
  copied-serves index to from count memory source values below is hold st =
      bytes-serve index to (part source from count) (nat_le (to + count) (length memory.bytes) && nat_le (from + count) (length source)) memory values below is
      (bytes-part source from count hold)
      (λ test. let r = and_parts (nat_le (to + count) (length memory.bytes)) (nat_le (from + count) (length source)) test in
      let le = leb-true (to + count) (length memory.bytes) r.0 in let short = part-short source from count in omega (arith, le, short)) st

  pub fill-serves : (index : ℕ) (memory : Memory) → slice_get s.memories index ≡ Some memory
      → Serves s (λ vs. memory_fill_step index (Some memory) vs) (valtype.I32 ∷ valtype.I32 ∷ valtype.I32 ∷ []) []
  fill-serves index memory is values below off st =
      take-three (state_context s) (λ vs. Have s (drop 3 vs) below → EffectServes s below (memory_fill_step index (Some memory) vs))
      (λ count byte to vs st. bytes-serve index to (replicate count (byte % 256)) (nat_le (to + count) (length memory.bytes)) memory vs below is (bytes-same count byte)
      (λ test. let le = leb-true (to + count) (length memory.bytes) test in let long = length-replicate count (byte % 256) in omega (arith, le, long)) st) values off st

  pub copy-serves : (index : ℕ) (memory : Memory) (other : ℕ) (source : Memory) → slice_get s.memories index ≡ Some memory → slice_get s.memories other ≡ Some source
      → Serves s (λ vs. memory_copy_step index (Some memory) (Some source) vs) (valtype.I32 ∷ valtype.I32 ∷ valtype.I32 ∷ []) []
  copy-serves index memory other source is_memory is values below off st =
      take-three (state_context s) (λ vs. Have s (drop 3 vs) below → EffectServes s below (memory_copy_step index (Some memory) (Some source) vs))
      (λ count from to vs st. copied-serves index to from count memory source.bytes vs below is_memory (typed.memories other source is) st) values off st

  pub init-serves : (index : ℕ) (memory : Memory) (segment : ℕ) (bytes : List ℕ) → slice_get s.memories index ≡ Some memory → slice_get s.datas segment ≡ Some bytes
      → Serves s (λ vs. memory_init_step index (Some memory) (Some bytes) vs) (valtype.I32 ∷ valtype.I32 ∷ valtype.I32 ∷ []) []
  init-serves index memory segment bytes is_memory is values below off st =
      take-three (state_context s) (λ vs. Have s (drop 3 vs) below → EffectServes s below (memory_init_step index (Some memory) (Some bytes) vs))
      (λ count from to vs st. copied-serves index to from count memory bytes vs below is_memory (typed.datas segment bytes is) st) values off st

  -- ---- loads and stores

  load-serves : (op : MemOp) (offset index : ℕ) (memory : Memory) → slice_get s.memories index ≡ Some memory
      → Serves s (λ vs. load_step (shape_of op) offset (Some memory) vs) (valtype.I32 ∷ []) ((shape_of op).value ∷ [])
  load-serves op offset index memory is values below off st =
      let next : Operands = Some (shape_of op).value ∷ below in
      take-i32 (state_context s) (λ vs. Have s (drop 1 vs) below → EffectServes s next (load_step (shape_of op) offset (Some memory) vs)) []
      (λ base vs lt off st. let r = loads (state_context s) op memory.bytes (base + offset) (typed.memories index memory is) in
      subst (λ (o : Option Value). EffectServes s next (if nat_le (base + offset + (shape_of op).bytes)
      (length memory.bytes) then value_effect o vs else Fails MemoryBounds)) (sym r.1)
      (if-both (λ (e : Effect). EffectServes s next e) (nat_le (base + offset + (shape_of op).bytes) (length memory.bytes)) (Yields Nothing (r.0 ∷ vs))
      (Fails MemoryBounds)
      (tt, (r.2, st)) tt)) values off st

  store-serves : (op : MemOp) (offset index : ℕ) (memory : Memory) → slice_get s.memories index ≡ Some memory
      → Serves s (λ vs. store_step (shape_of op) offset index (Some memory) vs) (valtype.I32 ∷ (shape_of op).value ∷ []) []
  store-serves op offset index memory is [] below off st = absurd off
  store-serves op offset index memory is (value ∷ values) below off st =
      let r = stores (state_context s) op value off.0 in
      take-i32 (state_context s) (λ vs. Have s (drop 1 vs) below → EffectServes s below (store_step (shape_of op) offset index (Some memory) (value ∷ vs))) []
      (λ base vs lt off st. subst (λ (o : Option ℕ). EffectServes s below (write_effect (shape_of op) (base + offset) index memory o vs)) (sym r.1)
      (if-tested (λ (e : Effect). EffectServes s below e) (nat_le (base + offset + (shape_of op).bytes) (length memory.bytes))
      (Yields (WriteMemory index (base + offset) (bytes_of (shape_of op).bytes r.0)) vs) (Fails MemoryBounds)
      (λ test. let le = leb-true (base + offset + (shape_of op).bytes) (length memory.bytes) test in let long = length-bytes_of (shape_of op).bytes r.0 in (
        (
          bytes-of (shape_of op).bytes r.0,
          memory-write index (base + offset) (bytes_of (shape_of op).bytes r.0) memory is
              (omega (arith, le, long)),
        ),
        st,
      )) tt)) values off.1 st

  pub access-serves : (op : MemOp) (offset index : ℕ) (memory : Memory) (values : List Value) (before next : Operands) → slice_get s.memories index ≡ Some memory
      → Leads (access_rule (shape_of op)) before next → Have s values before → EffectServes s next (access_step (shape_of op) offset index (Some memory) values)
  access-serves op offset index memory values before next is h st = by (shape_of op).store h
    where
      by : (b : Bool) → Leads (if b then Exchange (valtype.I32 ∷ (shape_of op).value ∷ []) [] else Exchange (valtype.I32 ∷ []) ((shape_of op).value ∷ [])) before next
          → EffectServes s next (if b then store_step (shape_of op) offset index (Some memory) values else load_step (shape_of op) offset (Some memory) values)
      by true l =
          by-rule s (λ vs. store_step (shape_of op) offset index (Some memory) vs) (valtype.I32 ∷ (shape_of op).value ∷ []) [] values before next
          (store-serves op offset index memory is) l st
      by false l =
          by-rule s (λ vs. load_step (shape_of op) offset (Some memory) vs) (valtype.I32 ∷ []) ((shape_of op).value ∷ []) values before next
          (load-serves op offset index memory is) l st
