-- Memories stay within their maxima.
use Rattle.std.proofs.Common.{◌≡◌, ℕ, zero, suc, ◌+◌, ◌*◌, ◌<◌, ◌≤◌, ◌^◌, ◌⊎◌, inl, inr, List, [], ◌∷◌, Option, Some, None, Bool, true, false, ◌&&◌, IsSomeAnd, length, map, slice_get, nat_le, ap, subst, ◌∙◌, arith, leb-true}
use Rattle.std.specs.Prelude.{IfSome}
use Rattle.std.proofs.Math.ListN.{length-replicate}
use Rattle.wz_types.specs.declared.types.MemType.{MemType}
use Rattle.wz_valid.specs.Limits.{IsMaximumOk, IsMemoryOk}
use Rattle.wz_store.specs.State.{Memory, pages_of, page_size}
use Rattle.wz_store.specs.Changes.{altered}
use Rattle.wz_store.specs.Growth.{within_maximum, may_grow}
use Rattle.wz_store.specs.Made.{new_memory}
use Rattle.wz_store.proofs.ChangeLemmas.{get-altered}
use Rattle.wz_init.specs.Reached.{IsWithinMaximum, AreWithinMaxima}

-- one memory that stays within its maximum
pub within_altered : (alter : Memory → Memory) (ms : List Memory) (index : ℕ) → ((m : Memory) → slice_get ms index ≡ Some m → IsWithinMaximum m → IsWithinMaximum (alter m))
    → AreWithinMaxima ms → AreWithinMaxima (altered alter ms index)
within_altered alter ms index keeps h i m here = by (get-altered alter ms index i m here)
  where
    by : (x : Memory) × (slice_get ms i ≡ Some x) × ((x ≡ m) ⊎ ((index ≡ i) × (alter x ≡ m))) → IsWithinMaximum m
    by (x, is, inl same) = subst (λ (y : Memory). IsWithinMaximum y) same (h i x is)
    by (x, is, inr same) = subst (λ (y : Memory). IsWithinMaximum y) same.1 (keeps x (ap (λ (n : ℕ). slice_get ms n) same.0 ∙ is) (h i x is))

grown_within : (maximum : Option ℕ) (size now : ℕ) → within_maximum maximum size ≡ true → now ≤ size → IfSome maximum (λ max. now ≤ max)
grown_within None size now fits less = tt
grown_within (Some max) size now fits less = let below = leb-true size max fits in omega (arith, below, less)

and_second : (a b : Bool) → (a && b) ≡ true → b ≡ true
and_second true b h = h
and_second false b h = absurd (cc h)

-- by a growth that it may make
pub may_grow_within : (maximum : Option ℕ) (pages by now : ℕ) → may_grow pages maximum by ≡ true → now ≤ pages + by → IfSome maximum (λ max. now ≤ max)
may_grow_within maximum pages by now may less =
    grown_within maximum (pages + by) now (and_second (nat_le (pages + by) 65536) (within_maximum maximum (pages + by)) may) less

-- a new memory, by the limits of its type
one_within : (maximum : Option ℕ) (min now : ℕ) → IsMaximumOk maximum min (2 ^ 16) → now ≡ min → IfSome maximum (λ max. now ≤ max)
one_within None min now ok same = tt
one_within (Some max) min now ok same = omega (arith, ok.1, same)

pub new_within : (types : List MemType) → ((i : ℕ) → i < length types → IsSomeAnd (slice_get types i) IsMemoryOk) → AreWithinMaxima (map new_memory types)
new_within [] ok i m here = absurd (cc here)
new_within (type ∷ types) ok zero m here =
    let same : new_memory type ≡ m = cc here in
    let size : pages_of (new_memory type) ≡ type.limits.min = omega (arith, length-replicate {A = ℕ} (type.limits.min * page_size) 0) in
    subst (λ (x : Memory). IsWithinMaximum x) same (one_within type.limits.max type.limits.min (pages_of (new_memory type)) (ok 0 (omega arith)).1 size)
new_within (type ∷ types) ok (suc i) m here = new_within types (λ j less. ok (suc j) (omega (arith, less))) i m here
