-- Small states, for tests.
use Rattle.std.proofs.Common.{◌≡◌, ℕ, ◌≤◌, List, [], ◌∷◌, length, slice_get, leb, Some, None, ap, inl, inr, arith}
use Rattle.std.specs.Bool.{OnTrue}
use Rattle.std.specs.Option.{option_map}
use Rattle.std.proofs.lemmas.Bool.{cases_Bool, leb-true}
use Rattle.wz_types.specs.declared.types.MemType.{MemType}
use Rattle.wz_store.specs.State.{Memory, memory_type_of, pages_together}
use Rattle.wz_snapshot.proofs.ListLemmas.{some-inj}

-- there is no memory
pub none_small : (memories : List Memory) → None ≡ option_map memory_type_of (slice_get memories 0) → (length memories ≤ 100) × (pages_together memories ≤ 16384)
none_small [] is = (omega arith, omega arith)
none_small (m ∷ memories) is = absurd cc

-- there is one
pub one_small : (memories : List Memory) (kind : MemType) → Some kind ≡ option_map memory_type_of (slice_get memories 0) → length memories ≡ 1
    → kind.limits.min ≤ 16384 → pages_together memories ≤ 16384
one_small [] kind is one few = absurd cc
one_small (m ∷ []) kind is one few =
    let e = ap (λ (k : MemType). k.limits.min) (some-inj kind (memory_type_of m) is) in
    omega (arith, e, few)
one_small (m ∷ n ∷ memories) kind is one few = absurd (omega (arith, one))

pub where_at_most : {P : Type 0} (n most : ℕ) → (n ≤ most → P) → OnTrue (leb n most) P
where_at_most n most h = elim (cases_Bool (leb n most)) [ inl e ↦ rw e (h (leb-true n most e)) | inr e ↦ rw e tt ]
