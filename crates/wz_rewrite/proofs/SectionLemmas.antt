-- Sections in their order, each at most once.
use Rattle.std.proofs.Common.{◌≡◌, ℕ, ◌<◌, ◌≤◌, Bool, true, false, List, [], ◌∷◌, ◌++◌, length, Option, Some, None, ap, ◌∙◌, refl, inl, inr, arith, append-nil}
use Rattle.std.specs.Prelude.{◌&&◌, ◌==◌, if◌then◌else◌, is_none, IsSome}
use Rattle.std.specs.List.{flat_map}
use Rattle.std.proofs.lemmas.Bool.{cases_Bool, eqb-true}
use Rattle.wz_module.specs.Sections.{Section, section_rank, ranks_of, Rises, payload_of}
use Rattle.wz_snapshot.specs.Recorded.{has_no_items}

pub no_items : {X : Type 0} (xs : List X) → has_no_items xs ≡ true → xs ≡ []
no_items [] e = refl
no_items (x ∷ xs) e = let n = eqb-true (length (x ∷ xs)) 0 e in absurd (omega (arith, n))

pub none_of : {X : Type 0} (o : Option X) → is_none o ≡ true → o ≡ None
none_of None e = refl
none_of (Some x) e = absurd cc

pub some_from : {X : Type 0} (o : Option X) → is_none o ≡ false → (x : X) × (o ≡ Some x)
some_from None e = absurd cc
some_from (Some x) e = (x, refl)

pub some_of : {X : Type 0} (o : Option X) → IsSome o → (x : X) × (o ≡ Some x)
some_of None e = absurd cc
some_of (Some x) e = (x, refl)

pub and_false : {X : Type 0} (b : Bool) (xs : List X) → (if b && false then xs else []) ≡ []
and_false true xs = refl
and_false false xs = refl

pub and_true : {X : Type 0} (b : Bool) (xs : List X) → (if b && true then xs else []) ≡ (if b then xs else [])
and_true true xs = refl
and_true false xs = refl

-- ---- sections with one id

pub flat_map_none : {X : Type 0} (id : ℕ) (xs : List X) (sections : List Section) → payload_of id sections ≡ None
    → flat_map (λ (s : Section). if s.id == id then xs else []) sections ≡ []
flat_map_none id xs [] none = refl
flat_map_none {X = X} id xs (s ∷ sections) none = elim (cases_Bool (s.id == id)) [
  | inl e ↦ let here : Some s.payload ≡ None = rw e at none in absurd cc
  | inr e ↦ let behind : payload_of id sections ≡ None = rw e at none in rw e (flat_map_none id xs sections behind)
]

-- no section with an id of this rank or a lower one stands behind
none_behind : {X : Type 0} (id : ℕ) (xs : List X) (sections : List Section) (low : ℕ) → 0 < id → section_rank id ≤ low → Rises low (ranks_of sections)
    → flat_map (λ (s : Section). if s.id == id then xs else []) sections ≡ []
none_behind id xs [] low some below rises = refl
none_behind id xs (s ∷ sections) low some below rises = elim (cases_Bool (s.id == id)) [
  | inl e ↦
      let same = eqb-true s.id id e in
      elim (cases_Bool (s.id == 0)) [
        | inl z ↦ let zero_id = eqb-true s.id 0 z in absurd (omega (arith, same, zero_id, some))
        | inr z ↦
            let r : (low < section_rank s.id) × Rises (section_rank s.id) (ranks_of sections) = rw z at rises in
            let rank = ap (λ (n : ℕ). section_rank n) same in
            absurd (omega (arith, r.0, rank, below))
      ]
  | inr e ↦ elim (cases_Bool (s.id == 0)) [
    | inl z ↦ let r : Rises low (ranks_of sections) = rw z at rises in rw e (none_behind id xs sections low some below r)
    | inr z ↦
        let r : (low < section_rank s.id) × Rises (section_rank s.id) (ranks_of sections) = rw z at rises in
        rw e (none_behind id xs sections (section_rank s.id) some (omega (arith, r.0, below)) r.1)
  ]
]

pub flat_map_once : {X : Type 0} (id : ℕ) (xs : List X) (sections : List Section) (low : ℕ) (payload : List ℕ) → 0 < id → Rises low (ranks_of sections)
    → payload_of id sections ≡ Some payload → flat_map (λ (s : Section). if s.id == id then xs else []) sections ≡ xs
flat_map_once id xs [] low payload some rises there = absurd cc
flat_map_once {X = X} id xs (s ∷ sections) low payload some rises there = elim (cases_Bool (s.id == id)) [
  | inl e ↦
      let same = eqb-true s.id id e in
      elim (cases_Bool (s.id == 0)) [
        | inl z ↦ let zero_id = eqb-true s.id 0 z in absurd (omega (arith, same, zero_id, some))
        | inr z ↦
            let r : (low < section_rank s.id) × Rises (section_rank s.id) (ranks_of sections) = rw z at rises in
            let rank = ap (λ (n : ℕ). section_rank n) same in
            let others = none_behind id xs sections (section_rank s.id) some (omega (arith, rank)) r.1 in
            rw e (ap (λ (t : List X). xs ++ t) others ∙ append-nil xs)
      ]
  | inr e ↦
      let behind : payload_of id sections ≡ Some payload = rw e at there in
      elim (cases_Bool (s.id == 0)) [
        | inl z ↦ let r : Rises low (ranks_of sections) = rw z at rises in rw e (flat_map_once id xs sections low payload some r behind)
        | inr z ↦
            let r : (low < section_rank s.id) × Rises (section_rank s.id) (ranks_of sections) = rw z at rises in
            rw e (flat_map_once id xs sections (section_rank s.id) payload some r.1 behind)
      ]
]
