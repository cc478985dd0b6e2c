-- Exports that are written one by one.
use Rattle.std.proofs.Common.{◌≡◌, ℕ, ◌+◌, ◌<◌, List, [], ◌∷◌, ◌++◌, length, take, slice_get, Some, None, sym, ap, ◌∙◌, inl, inr, arith}
use Rattle.std.specs.List.{flat_map}
use Rattle.std.proofs.lemmas.List.{take_more, flat_map_more}
use Rattle.std.proofs.lemmas.Option.{slice_get_cases}
use Rattle.wz_module.specs.Exports.{Export}
use Rattle.wz_snapshot.proofs.ListLemmas.{some-inj}

-- the export of a place was added
pub export_more : (f : Export → List ℕ) (entries : List Export) (at : ℕ) (e : Export) (front old now : List ℕ) → Some e ≡ slice_get entries at
    → old ≡ front ++ flat_map f (take at entries) → now ≡ old ++ f e → now ≡ front ++ flat_map f (take (at + 1) entries)
export_more f entries at e front old now is done more = elim (slice_get_cases entries at).1 [
  | inl here ↦
      let same = some-inj here.0 e (sym (is ∙ here.2)) in
      let taken : take (at + 1) entries ≡ take at entries ++ e ∷ [] =
      take_more entries at here.0 here.1 ∙ ap (λ (x : Export). take at entries ++ x ∷ []) (here.3 ∙ same) in
      more
      ∙ ap (λ (t : List ℕ). t ++ f e) done
      ∙ flat_map_more f front (take at entries) e
      ∙ ap (λ (es : List Export). front ++ flat_map f es) (sym taken)
  | inr past ↦ let none = is ∙ past.1 in absurd cc
]

-- there is one at each place
pub export_there : {A : Type 0} (entries : List Export) (at : ℕ) → None ≡ slice_get entries at → at < length entries → A
export_there entries at is h = elim (slice_get_cases entries at).1 [
  | inl here ↦ let some = is ∙ here.2 in absurd cc
  | inr past ↦ absurd (omega (arith, h, past.0))
]
