-- The output's sections are in their order, each at most once, as the input's are.
use Rattle.std.proofs.Common.{◌≡◌, ◌≢◌, ℕ, ◌<◌, ◌≤◌, Bool, true, false, List, [], ◌∷◌, ◌++◌, Option, Some, None, sym, ap, subst, ◌∙◌, refl, inl, inr, arith, append_assoc, lit<}
use Rattle.std.specs.Prelude.{◌⊎◌, ◌==◌, ◌&&◌, nat_lt, if◌then◌else◌}
use Rattle.std.specs.List.{All, flat_map}
use Rattle.std.proofs.lemmas.Bool.{cases_Bool, eqb-true, eqb-false, ltb-true}
use Rattle.std.proofs.lemmas.List.Elements.{All-nil, All-cons, All-head, All-tail}
use Rattle.wz_module.specs.Sections.{Section, section_rank, ranks_of, Rises, payload_of}
use Rattle.wz_module.specs.Module.{Module}
use Rattle.wz_rewrite.specs.OutputState.{OutputState}
use Rattle.wz_rewrite.specs.Sections.{output_payload, lacks, elements_before, brings_elements, new_elements, brings_datas, new_datas, section_with, sections_for, output_sections}
use Rattle.wz_rewrite.specs.Laws.{SectionsAreInOrder}
use Rattle.wz_rewrite.proofs.SectionLemmas.{none_of}

-- ---- ranks

ranks_of-append : (xs ys : List Section) → ranks_of (xs ++ ys) ≡ ranks_of xs ++ ranks_of ys
ranks_of-append [] ys = refl
ranks_of-append (s ∷ xs) ys = elim (cases_Bool (s.id == 0)) [
  | inl e ↦ rw e (ranks_of-append xs ys)
  | inr e ↦ rw e (ap (λ (t : List ℕ). section_rank s.id ∷ t) (ranks_of-append xs ys))
]

-- what rank an id has
record HasRank (id : ℕ) : Type 0 where
  pub most : section_rank id ≤ 12
  pub nine : section_rank id ≡ 9 → id ≡ 9
  pub ten : section_rank id ≡ 10 → id ≡ 12
  pub twelve : section_rank id ≡ 12 → id ≡ 11

rank_with : (id rank : ℕ) → section_rank id ≡ rank → rank ≤ 12 → (rank ≡ 9 → id ≡ 9) → (rank ≡ 10 → id ≡ 12) → (rank ≡ 12 → id ≡ 11) → HasRank id
rank_with id rank is most nine ten twelve = record {
  most = omega (arith, is, most);
  nine = λ e. nine (sym is ∙ e);
  ten = λ e. ten (sym is ∙ e);
  twelve = λ e. twelve (sym is ∙ e);
}

rank_of : (id : ℕ) → HasRank id
rank_of id = elim (cases_Bool (id == 10)) [
  | inl e ↦
      let r : section_rank id ≡ 11 = rw e refl in
      rank_with id 11 r (omega arith) (λ x. absurd (omega (arith, x))) (λ x. absurd (omega (arith, x))) (λ x. absurd (omega (arith, x)))
  | inr e10 ↦ elim (cases_Bool (id == 11)) [
    | inl e ↦
        let r : section_rank id ≡ 12 = rw (e10, e) refl in
        rank_with id 12 r (omega arith) (λ x. absurd (omega (arith, x))) (λ x. absurd (omega (arith, x))) (λ x. eqb-true id 11 e)
    | inr e11 ↦ elim (cases_Bool (id == 12)) [
      | inl e ↦
          let r : section_rank id ≡ 10 = rw (e10, e11, e) refl in
          rank_with id 10 r (omega arith) (λ x. absurd (omega (arith, x))) (λ x. eqb-true id 12 e) (λ x. absurd (omega (arith, x)))
      | inr e12 ↦ elim (cases_Bool (nat_lt id 10)) [
        | inl e ↦
            let r : section_rank id ≡ id = rw (e10, e11, e12, e) refl in
            let below = ltb-true id 10 e in
            rank_with id id r (omega (arith, below)) (λ x. x) (λ x. absurd (omega (arith, x, below))) (λ x. absurd (omega (arith, x, below)))
        | inr e ↦
            let r : section_rank id ≡ 0 = rw (e10, e11, e12, e) refl in
            rank_with id 0 r (omega arith) (λ x. absurd (omega (arith, x))) (λ x. absurd (omega (arith, x))) (λ x. absurd (omega (arith, x)))
      ]
    ]
  ]
]

rises_from : (low other : ℕ) (ranks : List ℕ) → other ≤ low → Rises low ranks → Rises other ranks
rises_from low other [] below h = tt
rises_from low other (n ∷ ranks) below h = (omega (arith, below, h.0), h.1)

pub none_has : (k : ℕ) (sections : List Section) → payload_of k sections ≡ None → All (λ s. s.id ≢ k) sections
none_has k [] none = All-nil (λ (s : Section). s.id ≢ k)
none_has k (s ∷ sections) none = elim (cases_Bool (s.id == k)) [
  | inl e ↦ let there : Some s.payload ≡ None = rw e at none in absurd cc
  | inr e ↦ let behind : payload_of k sections ≡ None = rw e at none in All-cons (λ (s : Section). s.id ≢ k) s sections (eqb-false s.id k e) (none_has k sections behind)
]

both_true : (a b : Bool) → (a && b) ≡ true → (a ≡ true) × (b ≡ true)
both_true true b h = (refl, h)
both_true false b h = absurd cc

module _ (m : Module) (o : OutputState) where
  -- where sections come in, no section has their ids, and a data count isn't behind the place
  record Suits (id : ℕ) : Type 0 where
    pub elements : (other : ℕ) → brings_elements m o other ≡ true → id ≢ 9
    pub datas : (other : ℕ) → brings_datas m o other ≡ true → id ≢ 11
    pub count : elements_before m.sections ≡ 10 → id ≢ 12

  -- the first and the last rank in the place of a section
  abbrev first_rank : ℕ → ℕ
  first_rank id = if brings_elements m o id then 9 else section_rank id

  abbrev last_rank : ℕ → ℕ
  last_rank id = if brings_datas m o id then 12 else section_rank id

  before_cases : (elements_before m.sections ≡ 10) ⊎ (elements_before m.sections ≡ 12)
  before_cases = elim (cases_Bool (lacks 12 m.sections)) [ inl e ↦ rw e (inl refl) | inr e ↦ rw e (inr refl) ]

  -- an element section comes in before ranks 10 and 11 alone
  brings_at : (id : ℕ) → brings_elements m o id ≡ true → ((id ≡ 10) × (elements_before m.sections ≡ 10)) ⊎ ((id ≡ 12) × (elements_before m.sections ≡ 12))
  brings_at id h =
      let same = eqb-true id (elements_before m.sections) (both_true (id == elements_before m.sections) _ h).0 in
      elim before_cases [ inl e ↦ inl (same ∙ e, e) | inr e ↦ inr (same ∙ e, e) ]

  brings_behind : (id : ℕ) → brings_datas m o id ≡ true → id ≡ 10
  brings_behind id h = eqb-true id 10 (both_true (id == 10) _ h).0

  -- where one section stands before another, so do their places
  apart : (id next : ℕ) → Suits id → Suits next → section_rank id < section_rank next → last_rank id < first_rank next
  apart id next suits suits_next h =
      let own = rank_of id in
      let other = rank_of next in
      elim (cases_Bool (brings_elements m o next)) [
        | inl b ↦
            let not_nine : section_rank id ≢ 9 = λ e. suits.elements next b (own.nine e) in
            elim (cases_Bool (brings_datas m o id)) [
              | inl d ↦
                  let rank : section_rank id ≡ 11 = ap section_rank (brings_behind id d) in
                  elim (brings_at next b) [
                    | inl at ↦ let r : section_rank next ≡ 11 = ap section_rank at.0 in absurd (omega (arith, h, rank, r))
                    | inr at ↦ let r : section_rank next ≡ 10 = ap section_rank at.0 in absurd (omega (arith, h, rank, r))
                  ]
              | inr d ↦ elim (brings_at next b) [
                | inl at ↦
                    let r : section_rank next ≡ 11 = ap section_rank at.0 in
                    let not_ten : section_rank id ≢ 10 = λ e. suits.count at.1 (own.ten e) in
                    let low : section_rank id < 9 = omega (arith, h, r, not_nine, not_ten) in
                    rw (b, d) low
                | inr at ↦
                    let r : section_rank next ≡ 10 = ap section_rank at.0 in
                    let low : section_rank id < 9 = omega (arith, h, r, not_nine) in
                    rw (b, d) low
              ]
            ]
        | inr b ↦ elim (cases_Bool (brings_datas m o id)) [
          | inl d ↦
              let rank : section_rank id ≡ 11 = ap section_rank (brings_behind id d) in
              let top : section_rank next ≡ 12 = omega (arith, h, rank, other.most) in
              absurd (suits_next.datas id d (other.twelve top))
          | inr d ↦ rw (b, d) h
        ]
      ]

  -- ---- the ranks in one place

  own_rises : (id : ℕ) (payload : Option (List ℕ)) (low : ℕ) (ranks : List ℕ) → (id == 0) ≡ false → low < section_rank id → Rises (section_rank id) ranks
      → Rises low (ranks_of (section_with id payload) ++ ranks)
  own_rises id None low ranks zero_id below h = rises_from (section_rank id) low ranks (omega (arith, below)) h
  own_rises id (Some payload) low ranks zero_id below h = rw zero_id (below, h)

  new_datas_rises : (id : ℕ) (ranks : List ℕ) → Rises (last_rank id) ranks → Rises (section_rank id) (ranks_of (section_with 11 (new_datas m o id)) ++ ranks)
  new_datas_rises id ranks h = elim (cases_Bool (brings_datas m o id)) [
    | inl d ↦
        let rank : section_rank id ≡ 11 = ap section_rank (brings_behind id d) in
        let behind : Rises 12 ranks = rw d at h in
        let below : section_rank id < 12 = omega (arith, rank) in
        rw d (below, behind)
    | inr d ↦ let behind : Rises (section_rank id) ranks = rw d at h in rw d behind
  ]

  new_elements_rises : (id low : ℕ) (ranks : List ℕ) → low < first_rank id → ((other : ℕ) → other < section_rank id → Rises other ranks)
      → Rises low (ranks_of (section_with 9 (new_elements m o id)) ++ ranks)
  new_elements_rises id low ranks below h = elim (cases_Bool (brings_elements m o id)) [
    | inl b ↦
        let first : low < 9 = rw b at below in
        let rank : 9 < section_rank id = elim (brings_at id b) [
          | inl at ↦ let r : section_rank id ≡ 11 = ap section_rank at.0 in omega (arith, r)
          | inr at ↦ let r : section_rank id ≡ 10 = ap section_rank at.0 in omega (arith, r)
        ] in
        rw b (first, h 9 rank)
    | inr b ↦ let first : low < section_rank id = rw b at below in rw b (h low first)
  ]

  place_rises : (s : Section) (low : ℕ) (ranks : List ℕ) → (s.id == 0) ≡ false → low < first_rank s.id → Rises (last_rank s.id) ranks
      → Rises low (ranks_of (sections_for m o s) ++ ranks)
  place_rises s low ranks zero_id below h =
      let a = section_with 9 (new_elements m o s.id) in
      let b = section_with s.id (output_payload m o s.id s.payload) in
      let c = section_with 11 (new_datas m o s.id) in
      let parts : ranks_of (a ++ (b ++ c)) ++ ranks ≡ ranks_of a ++ (ranks_of b ++ (ranks_of c ++ ranks)) =
      ap (λ (t : List ℕ). t ++ ranks) (ranks_of-append a (b ++ c) ∙ ap (λ (t : List ℕ). ranks_of a ++ t) (ranks_of-append b c))
      ∙ append_assoc (ranks_of a) (ranks_of b ++ ranks_of c) ranks
      ∙ ap (λ (t : List ℕ). ranks_of a ++ t) (append_assoc (ranks_of b) (ranks_of c) ranks) in
      let behind = new_datas_rises s.id ranks h in
      let all = new_elements_rises s.id low (ranks_of b ++ (ranks_of c ++ ranks)) below
      (λ other lower. own_rises s.id (output_payload m o s.id s.payload) other (ranks_of c ++ ranks) zero_id lower behind) in
      subst (λ (t : List ℕ). Rises low t) (sym parts) all

  -- a custom section has no rank, and nothing comes in beside it
  custom_place : (payload : List ℕ)
      → ranks_of (section_with 9 (new_elements m o 0) ++ (section_with 0 (output_payload m o 0 payload) ++ section_with 11 (new_datas m o 0))) ≡ []
  custom_place payload = elim (cases_Bool (lacks 12 m.sections)) [ inl e ↦ rw e refl | inr e ↦ rw e refl ]

  -- ---- all places

  all_rises : (sections : List Section) (low now : ℕ) → ((id : ℕ) → Suits id → low < section_rank id → now < first_rank id) → All (λ s. Suits s.id) sections
      → Rises low (ranks_of sections) → Rises now (ranks_of (flat_map (λ s. sections_for m o s) sections))
  all_rises [] low now first suits h = tt
  all_rises (s ∷ sections) low now first suits h =
      let rest = flat_map (λ s. sections_for m o s) sections in
      let here = All-head (λ (s : Section). Suits s.id) s sections suits in
      let others = All-tail (λ (s : Section). Suits s.id) s sections suits in
      let parts = ranks_of-append (sections_for m o s) rest in
      elim (cases_Bool (s.id == 0)) [
        | inl z ↦
            let behind : Rises low (ranks_of sections) = rw z at h in
            let none : ranks_of (sections_for m o s) ≡ [] = ap (λ (id : ℕ).
            ranks_of (section_with 9 (new_elements m o id) ++ (section_with id (output_payload m o id s.payload) ++ section_with 11 (new_datas m o id)))) (eqb-true s.id 0 z)
            ∙ custom_place s.payload in
            subst (λ (t : List ℕ). Rises now t) (sym (parts ∙ ap (λ (t : List ℕ). t ++ ranks_of rest) none)) (all_rises sections low now first others behind)
        | inr z ↦
            let r : (low < section_rank s.id) × Rises (section_rank s.id) (ranks_of sections) = rw z at h in
            let behind = all_rises sections (section_rank s.id) (last_rank s.id) (λ id suits_next lower. apart s.id id here suits_next lower) others r.1 in
            subst (λ (t : List ℕ). Rises now t) (sym parts) (place_rises s now (ranks_of rest) z (first s.id here r.0) behind)
      ]

  all_suit : All (λ s. Suits s.id) m.sections
  all_suit k d inside = record {
    elements = λ other b.
        let lacked = (both_true (lacks 9 m.sections) _ (both_true (other == elements_before m.sections) _ b).1).0 in
        none_has 9 m.sections (none_of (payload_of 9 m.sections) lacked) k d inside;
    datas = λ other b.
        let lacked = (both_true (lacks 11 m.sections) _ (both_true (other == 10) _ b).1).0 in
        none_has 11 m.sections (none_of (payload_of 11 m.sections) lacked) k d inside;
    count = λ e. elim (cases_Bool (lacks 12 m.sections)) [
      | inl lacked ↦ none_has 12 m.sections (none_of (payload_of 12 m.sections) lacked) k d inside
      | inr there ↦ let wrong : 12 ≡ 10 = rw there at e in absurd (omega (arith, wrong))
    ];
  }

  pub output_in_order : SectionsAreInOrder m.sections → SectionsAreInOrder (output_sections m o)
  output_in_order order =
      all_rises m.sections 0 0 (λ id suits lower. elim (cases_Bool (brings_elements m o id)) [ inl b ↦ rw b (lit< tt) | inr b ↦ rw b lower ]) all_suit order
