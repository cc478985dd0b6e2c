-- The ranges of several memories, one memory after the other.
use Rattle.std.proofs.Common.{◌≡◌, ℕ, suc, ◌+◌, ◌/◌, ◌<◌, ◌≤◌, List, ◌∷◌, ◌++◌, length, get_or, slice_get, drop, map, [], Option, Some, inl, inr, sym, ap, ◌∙◌, arith, append_assoc}
use Rattle.std.proofs.Common.{drop-cons, add-one}
use Rattle.std.proofs.lemmas.List.Sums.{get_or-le-sum_by}
use Rattle.std.proofs.lemmas.Option.{slice_get_cases}
use Rattle.std.specs.Option.{option_map}
use Rattle.wz_store.specs.State.{Memory, pages_of, pages_together}
use Rattle.wz_snapshot.specs.declared.segment.ChosenSegment.{ChosenSegment}
use Rattle.wz_snapshot.specs.Recorded.{chosen_in, chosen_from}
use Rattle.wz_snapshot.proofs.ListLemmas.{some-inj}

-- the memory that is read
at-place : (memories : List Memory) (i : ℕ) (bytes : List ℕ) → Some bytes ≡ option_map (λ m. m.bytes) (slice_get memories i)
    → (m : Memory) × (i < length memories) × (get_or memories i m ≡ m) × (m.bytes ≡ bytes)
at-place memories i bytes read = elim (slice_get_cases memories i).1 [
  | inl here ↦ (here.0, here.1, here.3, some-inj here.0.bytes bytes (sym (read ∙ ap (λ (o : Option Memory). option_map (λ m. m.bytes) o) here.2)))
  | inr past ↦ let none = read ∙ ap (λ (o : Option Memory). option_map (λ m. m.bytes) o) past.1 in absurd cc
]

-- it has no more pages than all together
pub has_few_pages : (memories : List Memory) (i : ℕ) (bytes : List ℕ) → Some bytes ≡ option_map (λ m. m.bytes) (slice_get memories i)
    → pages_together memories ≤ 16384 → length bytes / 65536 ≤ 16384
has_few_pages memories i bytes read few =
    let m = at-place memories i bytes read in
    let e = get_or-le-sum_by pages_of memories i m.0 m.1 in
    let f = ap pages_of m.2 in
    let h = ap (λ (bytes : List ℕ). length bytes / 65536) m.3 in
    omega (arith, e, f, h, few)

-- its ranges are the next
pub next_ranges : (limit i : ℕ) (memories : List Memory) (bytes : List ℕ) (done now all : List ChosenSegment) → done ++ chosen_from limit i (drop i memories) ≡ all
    → Some bytes ≡ option_map (λ m. m.bytes) (slice_get memories i) → now ≡ done ++ chosen_in limit i bytes → now ++ chosen_from limit (i + 1) (drop (i + 1) memories) ≡ all
next_ranges limit i memories bytes done now all so_far read more =
    let m = at-place memories i bytes read in
    let rest = chosen_from limit (i + 1) (drop (i + 1) memories) in
    let split : drop i memories ≡ m.0 ∷ drop (i + 1) memories =
    drop-cons memories i m.0 m.1 ∙ ap (λ (x : Memory). x ∷ drop (suc i) memories) m.2 ∙ ap (λ (n : ℕ). m.0 ∷ drop n memories) (sym (add-one i)) in
    ap (λ (segments : List ChosenSegment). segments ++ rest) (more ∙ ap (λ (b : List ℕ). done ++ chosen_in limit i b) (sym m.3))
    ∙ append_assoc done (chosen_in limit i m.0.bytes) rest
    ∙ ap (λ (ms : List Memory). done ++ chosen_from limit i ms) (sym split)
    ∙ so_far

-- one memory has its own pages alone
pub one_memory : (memories : List Memory) (pages : List ℕ) (only : ℕ) → pages ≡ map pages_of memories → length pages ≡ 1 → only ≡ get_or pages 0 only
    → only ≤ 16384 → pages_together memories ≤ 16384
one_memory [] pages only made one read few = let e = ap length made in absurd (omega (arith, e, one))
one_memory (m ∷ []) pages only made one read few = let e = ap (λ (ps : List ℕ). get_or ps 0 only) made in omega (arith, e, read, few)
one_memory (m ∷ n ∷ memories) pages only made one read few = let e = ap length made in absurd (omega (arith, e, one))
