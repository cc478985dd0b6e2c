-- The output has no start section.
use Rattle.std.proofs.Common.{◌≢◌, ℕ, ◌==◌, List, [], ◌∷◌, Option, Some, None, inl, inr, sym, subst}
use Rattle.std.specs.List.{All, flat_map}
use Rattle.std.proofs.lemmas.Bool.{cases_Bool, eqb-true, eqb-false}
use Rattle.std.proofs.lemmas.List.Elements.{All-nil, All-cons, All-append}
use Rattle.wz_module.specs.Sections.{Section}
use Rattle.wz_module.specs.Module.{Module}
use Rattle.wz_rewrite.specs.OutputState.{OutputState}
use Rattle.wz_rewrite.specs.Sections.{output_payload, section_with, sections_for, new_elements, new_datas}
use Rattle.wz_rewrite.specs.ValidOutput.{HasNoStartSection}

abbrev IsOther : Section → Type 0
IsOther s = s.id ≢ 8

other-id : (id : ℕ) (payload : Option (List ℕ)) → id ≢ 8 → All IsOther (section_with id payload)
other-id id None other = All-nil IsOther
other-id id (Some payload) other = All-cons IsOther (record { id = id; payload = payload }) [] other (All-nil IsOther)

own-place : (m : Module) (o : OutputState) (id : ℕ) (payload : List ℕ) → All IsOther (section_with id (output_payload m o id payload))
own-place m o id payload = elim (cases_Bool (id == 8)) [
  | inl e ↦ subst (λ (k : ℕ). All IsOther (section_with k (output_payload m o k payload))) (sym (eqb-true id 8 e)) (All-nil IsOther)
  | inr e ↦ other-id id (output_payload m o id payload) (eqb-false id 8 e)
]

one-place : (m : Module) (o : OutputState) (s : Section) → All IsOther (sections_for m o s)
one-place m o s =
    let nine = other-id 9 (new_elements m o s.id) (λ e. absurd cc) in
    let eleven = other-id 11 (new_datas m o s.id) (λ e. absurd cc) in
    All-append IsOther (section_with 9 (new_elements m o s.id)) _ nine
    (All-append IsOther (section_with s.id (output_payload m o s.id s.payload)) _ (own-place m o s.id s.payload) eleven)

all-places : (m : Module) (o : OutputState) (sections : List Section) → All IsOther (flat_map (λ s. sections_for m o s) sections)
all-places m o [] = All-nil IsOther
all-places m o (s ∷ sections) = All-append IsOther (sections_for m o s) _ (one-place m o s) (all-places m o sections)

pub has_no_start_section : HasNoStartSection
has_no_start_section m o = all-places m o m.sections
