-- What the steps of `keep` find, put together.
use Rattle.std.proofs.Common.{◌≡◌, ℕ, List, Option, Some, None, Result, Ok, Err, inl, inr, sym, ap, ◌∙◌}
use Rattle.std.specs.Prelude.{◌⊎◌}
use Rattle.wz_module.specs.Exports.{Export}
use Rattle.wz_module.specs.Module.{Module}
use Rattle.wz_words.specs.Settings.{Settings}
use Rattle.wz_exports.specs.declared.fault.ExportFault.{ExportFault}
use Rattle.wz_exports.specs.declared.fault.ExportFault.TheVariants.{NoMemory}
use Rattle.wz_exports.specs.Kept.{KeptExports, function_named, reactor_in, first_misnamed, kept_exports, kept_beside, unless_misnamed, kept}

module _ (m : Module) (s : Settings) (name : List ℕ) (from : name ≡ s.function) where
  at_function : (f : Result ℕ ExportFault) → function_named m name ≡ f → kept m s ≡ kept_beside m s f (reactor_in m s)
  unfolding kept
  at_function f found =
      ap (λ (n : List ℕ). kept_beside m s (function_named m n) (reactor_in m s)) (sym from) ∙ ap (λ (f : Result ℕ ExportFault). kept_beside m s f (reactor_in m s)) found

  pub no_function : (fault : ExportFault) → (fault ≡ NoMemory) ⊎ (function_named m name ≡ Err fault) → (fault ≡ NoMemory) ⊎ (kept m s ≡ Err fault)
  no_function fault (inl none) = inl none
  no_function fault (inr found) = inr (at_function (Err fault) found)

  module _ (function : ℕ) (runs : function_named m name ≡ Ok function) where
    at_reactor : (r : Result (Option ℕ) ExportFault) → reactor_in m s ≡ r → kept m s ≡ kept_beside m s (Ok function) r
    at_reactor r found = at_function (Ok function) runs ∙ ap (λ (r : Result (Option ℕ) ExportFault). kept_beside m s (Ok function) r) found

    pub no_reactor : (fault : ExportFault) → (fault ≡ NoMemory) ⊎ (reactor_in m s ≡ Err fault) → (fault ≡ NoMemory) ⊎ (kept m s ≡ Err fault)
    no_reactor fault (inl none) = inl none
    no_reactor fault (inr found) = inr (at_reactor (Err fault) found)

    module _ (reactor : Option ℕ) (first : reactor_in m s ≡ Ok reactor) (exports : List Export) (same : exports ≡ m.exports) where
      abbrev all_kept : KeptExports
      all_kept = record { entries = kept_exports s m.exports; function = function; reactor = reactor }

      at_renames : (o : Option ExportFault) → first_misnamed s exports s.renames ≡ o → kept m s ≡ unless_misnamed o all_kept
      at_renames o found =
          at_reactor (Ok reactor) first
          ∙ ap (λ (o : Option ExportFault). unless_misnamed o all_kept) (ap (λ (es : List Export). first_misnamed s es s.renames) (sym same) ∙ found)

      pub no_rename : (fault : ExportFault) → (fault ≡ NoMemory) ⊎ (first_misnamed s exports s.renames ≡ Some fault) → (fault ≡ NoMemory) ⊎ (kept m s ≡ Err fault)
      no_rename fault (inl none) = inl none
      no_rename fault (inr found) = inr (at_renames (Some fault) found)

      pub all_fit : (k before : KeptExports) → first_misnamed s exports s.renames ≡ None → before.function ≡ function → before.reactor ≡ reactor
          → k ≡ record before { entries = kept_exports s exports } → kept m s ≡ Ok k
      all_fit k before found f r made =
          at_renames None found
          ∙ ap (λ (x : KeptExports). Ok x)
          (sym (made ∙ (λ i. record { entries = kept_exports s (same i); function = f i; reactor = r i })))
