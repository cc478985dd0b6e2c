-- Which contents the output's sections have, by their ids.
use Rattle.std.proofs.Common.{◌≡◌, ℕ, true, false, List, [], ◌∷◌, ◌++◌, Option, Some, None, ap, ◌∙◌, refl, inl, inr}
use Rattle.std.specs.Prelude.{◌==◌, if◌then◌else◌, option_map}
use Rattle.std.specs.List.{flat_map}
use Rattle.std.proofs.lemmas.Bool.{cases_Bool, eqb-true}
use Rattle.wz_module.specs.Sections.{Section, payload_of}
use Rattle.wz_module.specs.Module.{Module}
use Rattle.wz_snapshot.specs.Recorded.{has_no_items}
use Rattle.wz_encode.specs.Elements.{elements_text}
use Rattle.wz_rewrite.specs.OutputState.{OutputState}
use Rattle.wz_rewrite.specs.Slots.{filled_slots}
use Rattle.wz_rewrite.specs.Sections.{datas_text, output_payload, lacks, elements_before, brings_elements, new_elements, brings_datas, new_datas, section_with, sections_for}

-- the first of two that is there
abbrev pub either : {X : Type 0} → Option X → Option X → Option X
either None other = other
either (Some x) other = Some x

either_none : {X : Type 0} (o : Option X) → either o None ≡ o
either_none None = refl
either_none (Some x) = refl

payload_of-append : (k : ℕ) (xs ys : List Section) → payload_of k (xs ++ ys) ≡ either (payload_of k xs) (payload_of k ys)
payload_of-append k [] ys = refl
payload_of-append k (s ∷ xs) ys = elim (cases_Bool (s.id == k)) [
  | inl e ↦ rw e refl
  | inr e ↦ rw e (payload_of-append k xs ys)
]

payload_of_one : (k id : ℕ) (payload : Option (List ℕ)) → payload_of k (section_with id payload) ≡ (if id == k then payload else None)
payload_of_one k id None = elim (cases_Bool (id == k)) [ inl e ↦ rw e refl | inr e ↦ rw e refl ]
payload_of_one k id (Some payload) = refl

module _ (m : Module) (o : OutputState) where
  abbrev own_of : ℕ → Section → Option (List ℕ)
  own_of k s = if s.id == k then output_payload m o s.id s.payload else None

  place_lookup : (k : ℕ) (s : Section) → payload_of k (sections_for m o s)
      ≡ either (if 9 == k then new_elements m o s.id else None) (either (own_of k s) (if 11 == k then new_datas m o s.id else None))
  place_lookup k s =
      let a = section_with 9 (new_elements m o s.id) in
      let b = section_with s.id (output_payload m o s.id s.payload) in
      let c = section_with 11 (new_datas m o s.id) in
      payload_of-append k a (b ++ c)
      ∙ ap (λ (p : Option (List ℕ)). either p (payload_of k (b ++ c))) (payload_of_one k 9 (new_elements m o s.id))
      ∙ ap (λ (p : Option (List ℕ)). either (if 9 == k then new_elements m o s.id else None) p)
      (payload_of-append k b c
      ∙ ap (λ (p : Option (List ℕ)). either p (payload_of k c)) (payload_of_one k s.id (output_payload m o s.id s.payload))
      ∙ ap (λ (p : Option (List ℕ)). either (own_of k s) p) (payload_of_one k 11 (new_datas m o s.id)))

  -- an id that has no section but the input's own
  pub plain_lookup : (k : ℕ) → (9 == k) ≡ false → (11 == k) ≡ false → (s : Section) → payload_of k (sections_for m o s) ≡ own_of k s
  plain_lookup k nine eleven s = place_lookup k s ∙ rw (nine, eleven) (either_none (own_of k s))

  -- no element section comes in, or no data section
  pub same_elements : ((id : ℕ) → brings_elements m o id ≡ false) → (s : Section) → payload_of 9 (sections_for m o s) ≡ own_of 9 s
  same_elements none s = place_lookup 9 s ∙ rw (none s.id) (either_none (own_of 9 s))

  pub same_datas : ((id : ℕ) → brings_datas m o id ≡ false) → (s : Section) → payload_of 11 (sections_for m o s) ≡ own_of 11 s
  same_datas none s = place_lookup 11 s ∙ rw (none s.id) (either_none (own_of 11 s))

  own_is : (k : ℕ) (s : Section) → (s.id == k) ≡ true → own_of k s ≡ output_payload m o k s.payload
  own_is k s e = rw e (ap (λ (id : ℕ). output_payload m o id s.payload) (eqb-true s.id k e))

  -- what the output has of a section that is there
  pub found_lookup : (k : ℕ) (f : List ℕ → List ℕ) → ((p : List ℕ) → output_payload m o k p ≡ Some (f p))
      → ((s : Section) → payload_of k (sections_for m o s) ≡ own_of k s)
      → (sections : List Section) → payload_of k (flat_map (λ s. sections_for m o s) sections) ≡ option_map f (payload_of k sections)
  found_lookup k f gives own [] = refl
  found_lookup k f gives own (s ∷ sections) =
      let rest = flat_map (λ s. sections_for m o s) sections in
      let here = payload_of-append k (sections_for m o s) rest ∙ ap (λ (p : Option (List ℕ)). either p (payload_of k rest)) (own s) in
      elim (cases_Bool (s.id == k)) [
        | inl e ↦ here ∙ ap (λ (p : Option (List ℕ)). either p (payload_of k rest)) (own_is k s e ∙ gives s.payload) ∙ rw e refl
        | inr e ↦ here ∙ rw e (found_lookup k f gives own sections)
      ]

  -- of one that is left out
  pub gone_lookup : (k : ℕ) → ((p : List ℕ) → output_payload m o k p ≡ None) → ((s : Section) → payload_of k (sections_for m o s) ≡ own_of k s)
      → (sections : List Section) → payload_of k (flat_map (λ s. sections_for m o s) sections) ≡ None
  gone_lookup k gone own [] = refl
  gone_lookup k gone own (s ∷ sections) =
      let rest = flat_map (λ s. sections_for m o s) sections in
      let here = payload_of-append k (sections_for m o s) rest ∙ ap (λ (p : Option (List ℕ)). either p (payload_of k rest)) (own s) in
      let more = gone_lookup k gone own sections in
      elim (cases_Bool (s.id == k)) [
        | inl e ↦ here ∙ ap (λ (p : Option (List ℕ)). either p (payload_of k rest)) (own_is k s e ∙ gone s.payload) ∙ more
        | inr e ↦ here ∙ rw e more
      ]

  -- of one that comes in beside the section of another id
  pub new_lookup : (k beside : ℕ) (text : List ℕ) → ((s : Section) → (s.id == k) ≡ false → payload_of k (sections_for m o s) ≡ (if s.id == beside then Some text else None))
      → (sections : List Section) → payload_of k sections ≡ None
      → payload_of k (flat_map (λ s. sections_for m o s) sections) ≡ option_map (λ p. text) (payload_of beside sections)
  new_lookup k beside text own [] none = refl
  new_lookup k beside text own (s ∷ sections) none = elim (cases_Bool (s.id == k)) [
    | inl e ↦ let there : Some s.payload ≡ None = rw e at none in absurd cc
    | inr other ↦
        let rest = flat_map (λ s. sections_for m o s) sections in
        let behind : payload_of k sections ≡ None = rw other at none in
        let here = payload_of-append k (sections_for m o s) rest ∙ ap (λ (p : Option (List ℕ)). either p (payload_of k rest)) (own s other) in
        elim (cases_Bool (s.id == beside)) [
          | inl e ↦ here ∙ rw e refl
          | inr e ↦ here ∙ rw e (new_lookup k beside text own sections behind)
        ]
  ]

  -- the element section that comes in, and the data section
  pub new_elements_lookup : lacks 9 m.sections ≡ true → has_no_items o.undeclared ≡ false → (s : Section) → (s.id == 9) ≡ false
      → payload_of 9 (sections_for m o s) ≡ (if s.id == elements_before m.sections then Some (elements_text None [] [] o.undeclared) else None)
  new_elements_lookup lacked some s other = elim (cases_Bool (s.id == elements_before m.sections)) [
    | inl e ↦ place_lookup 9 s ∙ rw (other, e, lacked, some) refl
    | inr e ↦ place_lookup 9 s ∙ rw (other, e) refl
  ]

  pub new_datas_lookup : lacks 11 m.sections ≡ true → has_no_items o.chosen ≡ false → (s : Section) → (s.id == 11) ≡ false
      → payload_of 11 (sections_for m o s) ≡ (if s.id == 10 then Some (datas_text (filled_slots m o)) else None)
  new_datas_lookup lacked some s other = elim (cases_Bool (s.id == 10)) [
    | inl e ↦ place_lookup 11 s ∙ rw (other, e, lacked, some) refl
    | inr e ↦ place_lookup 11 s ∙ rw (other, e) refl
  ]
