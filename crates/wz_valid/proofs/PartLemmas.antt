-- Items and parts in their order.
use Rattle.std.proofs.Common.{◌≡◌, ℕ, zero, suc, ◌+◌, ◌<◌, ◌≤◌, List, [], ◌∷◌, length, Option, Some, None, IsSomeAnd, inl, inr, refl, sym, subst, ◌∙◌, slice_get, take, arith}
use Rattle.std.proofs.Common.{All}
use Rattle.wz_module.specs.Exports.{Export}
use Rattle.wz_module.specs.Module.{Module}
use Rattle.wz_valid.specs.declared.faults.Part.{Part}
use Rattle.wz_valid.specs.declared.faults.Part.TheVariants as part
use Rattle.wz_valid.specs.Items.{IsTarget, IsExportOk}
use Rattle.wz_valid.specs.Validity.{IsItemOk, IsPartOk, IsValid, part_rank, part_length, IsFirstInvalid}
use Rattle.wz_valid.specs.Checking.{AreItemsBeforeOk, ArePartsBeforeOk, IsNameNew, AreNamesNew}
use Rattle.wz_valid.proofs.LawLemmas.{same_rank, three_ways}

pub items_before : (m : Module) (part : Part) (index : ℕ) → ArePartsBeforeOk m (part_rank part) → ((k : ℕ) → k < index → IsItemOk m part k) → AreItemsBeforeOk m part index
items_before m part index parts items one other there stands =
    elim stands [
      | inl less ↦ parts one less other there
      | inr same ↦ subst (λ (p : Part). IsItemOk m p other) (sym same.0) (items other same.1)
    ]

pub first_invalid : (m : Module) (part : Part) (index : ℕ) → ArePartsBeforeOk m (part_rank part) → ((k : ℕ) → k < index → IsItemOk m part k) → index < part_length m part
    → (IsItemOk m part index → ⊥) → IsFirstInvalid m part index
first_invalid m part index parts items there broken = record { there = there; broken = broken; before = items_before m part index parts items }

-- ---- the parts one behind the other

pub none_before : (m : Module) → ArePartsBeforeOk m 0
none_before m one less = absurd (omega (arith, less))

pub one_more_part : (m : Module) (part : Part) (rank : ℕ) → part_rank part ≡ rank → ArePartsBeforeOk m rank → IsPartOk m part → ArePartsBeforeOk m (rank + 1)
one_more_part m part rank here before ok one less =
    elim (three_ways (part_rank one) rank) [
      | inl earlier ↦ before one earlier
      | inr later ↦
          elim later [
            | inl last ↦ subst (λ (p : Part). IsPartOk m p) (same_rank part one (here ∙ sym last)) ok
            | inr past ↦ absurd (omega (arith, less, past))
          ]
    ]

rank_below : (part : Part) → part_rank part < 10
rank_below part.Import = omega arith
rank_below part.Function = omega arith
rank_below part.Table = omega arith
rank_below part.Memory = omega arith
rank_below part.Global = omega arith
rank_below part.Export = omega arith
rank_below part.Start = omega arith
rank_below part.Element = omega arith
rank_below part.Code = omega arith
rank_below part.DataSegment = omega arith

pub all_parts : (m : Module) (rank : ℕ) → 10 ≤ rank → ArePartsBeforeOk m rank → IsValid m
all_parts m rank past before part = before part (let below = rank_below part in omega (arith, below, past))

-- ---- exports

export_there : (exports : List Export) (P : Export → Type 0) (index : ℕ) → IsSomeAnd (slice_get exports index) P → index < length exports
export_there [] P index h = absurd h
export_there (e ∷ exports) P zero h = omega arith
export_there (e ∷ exports) P (suc index) h = let less = export_there exports P index h in omega (arith, less)

name_of_item : (m : Module) (index : ℕ) (o : Option Export) → IsSomeAnd o (λ e. IsExportOk m index e)
    → IsSomeAnd o (λ e. All (λ earlier. earlier.name ≡ e.name → ⊥) (take index m.exports))
name_of_item m index None h = h
name_of_item m index (Some e) h = h.1

-- past the names that are new no export is ok, if those before it are
pub past_new_names : (m : Module) (count index : ℕ) → AreNamesNew m count → AreItemsBeforeOk m part.Export index → count ≤ index → IsItemOk m part.Export index → ⊥
past_new_names m count index names before past ok =
    let there = export_there m.exports (λ e. IsExportOk m index e) index ok in
    let new : (k : ℕ) → IsItemOk m part.Export k → IsNameNew m k = λ k h. name_of_item m k (slice_get m.exports k) h in
    elim (three_ways count index) [
      | inl less ↦ names.again (omega (arith, less, there)) (new count (before part.Export count (omega (arith, less, there)) (inr (refl, less))))
      | inr more ↦
          elim more [
            | inl here ↦ names.again (omega (arith, here, there)) (subst (λ (k : ℕ). IsNameNew m k) (sym here) (new index ok))
            | inr above ↦ absurd (omega (arith, past, above))
          ]
    ]

-- where the name is new, the export is ok if what it names is there
pub export_by_target : (m : Module) (index : ℕ) (e : Export) → slice_get m.exports index ≡ Some e → IsNameNew m index → IsTarget m e.target → IsItemOk m part.Export index
export_by_target m index e here new there =
    by (slice_get m.exports index) here new where
      by : (o : Option Export) → o ≡ Some e → IsSomeAnd o (λ x. All (λ earlier. earlier.name ≡ x.name → ⊥) (take index m.exports)) → IsSomeAnd o (λ x. IsExportOk m index x)
      by None h n = n
      by (Some x) h n = (subst (λ (y : Export). IsTarget m y.target) (let same : e ≡ x = cc in same) there, n)

pub target_of_export : (m : Module) (index : ℕ) (e : Export) → slice_get m.exports index ≡ Some e → IsItemOk m part.Export index → IsTarget m e.target
target_of_export m index e here ok =
    let P : Option Export → Type 0 = λ o. IsSomeAnd o (λ x. IsExportOk m index x) in
    let found : IsExportOk m index e = subst P here ok in
    found.0
