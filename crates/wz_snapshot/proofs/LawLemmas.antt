-- The chosen segments are few, and lie within their memories.
use Rattle.std.proofs.Common.{◌≡◌, ℕ, suc, ◌+◌, ◌*◌, ◌<◌, ◌≤◌, List, [], ◌∷◌, length, slice_get, Option, Some, sym, ap, subst, ◌∙◌}
use Rattle.std.proofs.Common.{arith, length-append, get_or}
use Rattle.std.specs.List.{All}
use Rattle.std.specs.Prelude.{IsSomeAnd}
use Rattle.std.proofs.Math.Nat.{div-mul-le_self}
use Rattle.std.proofs.lemmas.Nat.{le-div}
use Rattle.std.proofs.lemmas.List.{length-map}
use Rattle.std.proofs.lemmas.List.Elements.{All-append, All-map, All-nil}
use Rattle.wz_plan.specs.Ranges.{end_of}
use Rattle.wz_plan.specs.Plan.{plan}
use Rattle.wz_plan.specs.Laws.{PlanIsFew, PlanIsWithin, PlanIsTight}
use Rattle.wz_store.specs.State.{Memory}
use Rattle.wz_snapshot.specs.Recorded.{segments_limit, memory_limit, chosen_segment, chosen_in, chosen_from, chosen_segments}
use Rattle.wz_snapshot.specs.Laws.{IsRangeOf}

-- each memory has at most as many as its limit
few_from : PlanIsFew → (limit number : ℕ) (memories : List Memory) → 1 ≤ limit → length (chosen_from limit number memories) ≤ limit * length memories
few_from law limit number [] some = omega arith
few_from law limit number (memory ∷ memories) some =
    let first = law memory.bytes limit some in
    let rest = few_from law limit (number + 1) memories some in
    let size = length-map (plan memory.bytes limit) (chosen_segment number) in
    let both = length-append (chosen_in limit number memory.bytes) (chosen_from limit (number + 1) memories) in
    omega (arith, first, rest, size, both)

pub few : PlanIsFew → (memories : List Memory) → length memories ≤ 100 → length (chosen_segments memories) ≤ segments_limit
few law [] short = omega arith
few law (memory ∷ memories) short =
    let all = memory ∷ memories in
    let some : 1 ≤ memory_limit (length all) = le-div 1 10000 (length all) (omega arith) (omega (arith, short)) in
    let share = div-mul-le_self 10000 (length all) in
    let e = few_from law (memory_limit (length all)) 0 all some in
    omega (arith, share, e)

-- a range of a memory's plan
range-of : PlanIsWithin → PlanIsTight → (memories : List Memory) (number limit : ℕ) (memory : Memory) → slice_get memories number ≡ Some memory
    → All (λ segment. IsRangeOf memories segment) (chosen_in limit number memory.bytes)
range-of within tight memories number limit memory there =
    All-map (λ segment. IsRangeOf memories segment) (chosen_segment number) (plan memory.bytes limit)
    (λ k d less. subst (λ (o : Option Memory). IsSomeAnd o (λ m. (0 < (get_or (plan memory.bytes limit) k d).len) × (end_of (get_or (plan memory.bytes limit) k d) ≤ length
    m.bytes))) (sym there)
    ((tight memory.bytes limit k d less).not_empty, within memory.bytes limit k d less))

-- those of the memories from one of them on
ranges-from : PlanIsWithin → PlanIsTight → (all : List Memory) (limit number : ℕ) (memories : List Memory) → ((i : ℕ) → slice_get all (number + i) ≡ slice_get memories i)
    → All (λ segment. IsRangeOf all segment) (chosen_from limit number memories)
ranges-from within tight all limit number [] same = All-nil (λ segment. IsRangeOf all segment)
ranges-from within tight all limit number (memory ∷ memories) same =
    let here : number + 0 ≡ number = omega arith in
    All-append (λ segment. IsRangeOf all segment) (chosen_in limit number memory.bytes) (chosen_from limit (number + 1) memories)
    (range-of within tight all number limit memory (ap (λ (n : ℕ). slice_get all n) (sym here) ∙ same 0))
    (ranges-from within tight all limit (number + 1) memories
    (λ i. let next : number + 1 + i ≡ number + suc i = omega arith in ap (λ (n : ℕ). slice_get all n) next ∙ same (suc i)))

pub ranges : PlanIsWithin → PlanIsTight → (memories : List Memory) → All (λ segment. IsRangeOf memories segment) (chosen_segments memories)
ranges within tight memories =
    ranges-from within tight memories (memory_limit (length memories)) 0 memories (λ i. let e : 0 + i ≡ i = omega arith in ap (λ (n : ℕ). slice_get memories n) e)
