-- The index space of functions, walked import by import.
use Rattle.std.proofs.Common.{◌≡◌, ℕ, zero, suc, ◌+◌, ◌-◌, ◌<◌, ◌≤◌, List, [], ◌∷◌, ◌++◌, length, get_or, slice_get, drop, map, Option, Some, None, refl, sym, ap, ◌∙◌, arith}
use Rattle.std.proofs.Common.{append_assoc, Bor}
use Rattle.std.specs.Prelude.{IfSome, MatchOption, option_copied}
use Rattle.std.specs.List.{HoldsAt}
use Rattle.std.proofs.lemmas.Option.{slice_get_past, slice_get-get_or}
use Rattle.std.specs.List.{flat_map}
use Rattle.std.proofs.lemmas.List.{drop_all}
use Rattle.wz_module.specs.declared.items.Import as item
use Rattle.wz_module.specs.declared.items.ImportKind.{ImportKind}
use Rattle.wz_module.specs.declared.items.ImportKind.TheVariants as kind
use Rattle.wz_module.specs.Views.{import_of}
use Rattle.wz_exports.specs.Functions.{import_signature}
use Rattle.wz_exports.proofs.NameLemmas.{drop_before}

abbrev signatures : List item.Import → List ℕ
signatures imports = flat_map (λ i. import_signature i.kind) (map import_of imports)

no-function : (k : ImportKind) → ((type : ℕ) → k ≡ kind.Func type → ⊥) → import_signature k ≡ []
no-function (kind.Func type) other = absurd (other type refl)
no-function (kind.Table type) other = refl
no-function (kind.Memory type) other = refl
no-function (kind.Global type) other = refl

behind-first : (number : ℕ) (numbers : List ℕ) (left now : ℕ) → 0 < left → now ≡ left - 1 → slice_get (number ∷ numbers) left ≡ slice_get numbers now
behind-first number numbers zero now some less = absurd (omega (arith, some))
behind-first number numbers (suc left) now some less = let e : left ≡ now = omega (arith, less) in ap (λ (n : ℕ). slice_get numbers n) e

module _ (imports : List item.Import) (i : ℕ) (d : item.Import) (own : List ℕ) (left : ℕ) (asked : Option ℕ) (less : i < length imports)
    (so_far : slice_get (signatures (drop i imports) ++ own) left ≡ asked) where
  opened : slice_get (import_signature (get_or imports i d).kind ++ (signatures (drop (i + 1) imports) ++ own)) left ≡ asked
  opened =
      ap (λ (numbers : List ℕ). slice_get numbers left)
      (sym (append_assoc (import_signature (get_or imports i d).kind) (signatures (drop (i + 1) imports)) own)
      ∙ sym (ap (λ (is : List item.Import). signatures is ++ own) (drop_before imports i (i + 1) d less refl)))
      ∙ so_far

  pub found_here : (number : ℕ) → (get_or imports i d).kind ≡ kind.Func number → left ≡ 0 → Some number ≡ asked
  found_here number is none =
      sym (ap (λ (k : ImportKind). slice_get (import_signature k ++ (signatures (drop (i + 1) imports) ++ own)) left) is
      ∙ ap (λ (n : ℕ). slice_get (number ∷ (signatures (drop (i + 1) imports) ++ own)) n) none)
      ∙ opened

  pub one_behind : (number now : ℕ) → (get_or imports i d).kind ≡ kind.Func number → 0 < left → now ≡ left - 1 → slice_get (signatures (drop (i + 1) imports) ++ own) now ≡ asked
  one_behind number now is some step =
      sym (ap (λ (k : ImportKind). slice_get (import_signature k ++ (signatures (drop (i + 1) imports) ++ own)) left) is
      ∙ behind-first number (signatures (drop (i + 1) imports) ++ own) left now some step)
      ∙ opened

  pub other_kind : (now : ℕ) → ((type : ℕ) → (get_or imports i d).kind ≡ kind.Func type → ⊥) → now ≡ left → slice_get (signatures (drop (i + 1) imports) ++ own) now ≡ asked
  other_kind now other same =
      ap (λ (n : ℕ). slice_get (signatures (drop (i + 1) imports) ++ own) n) same
      ∙ sym (ap (λ (first : List ℕ). slice_get (first ++ (signatures (drop (i + 1) imports) ++ own)) left) (no-function (get_or imports i d).kind other))
      ∙ opened

pub own_left : (imports : List item.Import) (i : ℕ) (own : List ℕ) (left : ℕ) (asked : Option ℕ) → length imports ≤ i
    → slice_get (signatures (drop i imports) ++ own) left ≡ asked → slice_get own left ≡ asked
own_left imports i own left asked past so_far = sym (ap (λ (is : List item.Import). slice_get (signatures is ++ own) left) (drop_all i imports past)) ∙ so_far

-- what is read at a place
pub read_number : (o : Option (Bor ℕ)) (numbers : List ℕ) (i : ℕ) → IfSome o (λ x. x.now ≡ get_or numbers i x.now)
    → MatchOption o (length numbers ≤ i) (λ x. (i < length numbers) × HoldsAt (λ y. x.now ≡ y) numbers i) → option_copied o ≡ slice_get numbers i
read_number None numbers i same there = sym (slice_get_past numbers i there)
read_number (Some x) numbers i same there = ap (λ (n : ℕ). Some n) same ∙ sym (slice_get-get_or numbers i x.now there.0)
