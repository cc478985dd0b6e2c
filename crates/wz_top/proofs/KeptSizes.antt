-- The kept exports are no more than the module's, under names that are theirs or that renames give.
use Rattle.std.proofs.Common.{◌≡◌, ◌≢◌, ℕ, ◌+◌, ◌≤◌, List, [], ◌∷◌, length, Bool, true, false, cond, Option, Some, None, refl, sym, ap, subst, arith}
use Rattle.std.specs.List.{All, sum_by}
use Rattle.std.specs.Str.{bytes_eq}
use Rattle.std.proofs.lemmas.List.{length-append}
use Rattle.std.proofs.lemmas.List.Elements.{All-nil, All-cons, All-head, All-tail, All-append}
use Rattle.std.proofs.lemmas.List.Sums.{sum_by-cons, sum_by-append, sum_by-le-sum_by, get_or-le-sum_by}
use Rattle.std.proofs.lemmas.Slice.Eq.{bytes_eq-Decides}
use Rattle.wz_module.specs.declared.items.ExportTarget.{ExportTarget}
use Rattle.wz_module.specs.Exports.{Export}
use Rattle.wz_words.specs.declared.settings.Rename.{Rename}
use Rattle.wz_words.specs.Faults.{renames_to}
use Rattle.wz_words.specs.Settings.{Settings}
use Rattle.wz_exports.specs.Names.{renamed_to}
use Rattle.wz_exports.specs.Kept.{leaves, name_beside, kept_name, under_name, kept_exports}
use Rattle.wz_exports.proofs.KeptLemmas.{NamesDiffer, pairs-head, pairs-tail}
use Rattle.wz_top.proofs.RenameSizes.{new_size}

abbrev pub export_size : Export → ℕ
export_size e = length e.name

abbrev name_size : Option (List ℕ) → ℕ
name_size None = 0
name_size (Some name) = length name

-- the bytes of the name that renames give the export
abbrev renamed_size : List Rename → Export → ℕ
renamed_size renames e = name_size (renamed_to e.name renames)

-- ---- one export

beside_size : (renames : List Rename) (name : List ℕ) (o : Option (List ℕ)) → name_size (name_beside renames name o) ≤ length name + name_size o
beside_size renames name (Some dst) = omega arith
beside_size renames name None = by (renames_to name renames) where
  by : (b : Bool) → name_size (cond b None (Some name)) ≤ length name + 0
  by true = omega arith
  by false = omega arith

kept_size : (s : Settings) (name : List ℕ) → name_size (kept_name s name) ≤ length name + name_size (renamed_to name s.renames)
kept_size s name = by (leaves s name) (beside_size s.renames name (renamed_to name s.renames)) where
  by : (b : Bool) → name_size (name_beside s.renames name (renamed_to name s.renames)) ≤ length name + name_size (renamed_to name s.renames)
      → name_size (cond b None (name_beside s.renames name (renamed_to name s.renames))) ≤ length name + name_size (renamed_to name s.renames)
  by true h = omega arith
  by false h = h

under_size : (t : ExportTarget) (o : Option (List ℕ)) → sum_by export_size (under_name t o) ≤ name_size o
under_size t None = omega arith
under_size t (Some name) = let step = sum_by-cons export_size (record { name = name; target = t }) [] in omega (arith, step)

under_count : (t : ExportTarget) (o : Option (List ℕ)) → length (under_name t o) ≤ 1
under_count t None = omega arith
under_count t (Some name) = omega arith

-- ---- all of them

pub kept_count : (s : Settings) (exports : List Export) → length (kept_exports s exports) ≤ length exports
kept_count s [] = omega arith
kept_count s (e ∷ exports) =
    let split = length-append (under_name e.target (kept_name s e.name)) (kept_exports s exports) in
    let one = under_count e.target (kept_name s e.name) in
    let more = kept_count s exports in
    omega (arith, split, one, more)

kept_sum : (s : Settings) (exports : List Export)
    → sum_by export_size (kept_exports s exports) ≤ sum_by export_size exports + sum_by (renamed_size s.renames) exports
kept_sum s [] = omega arith
kept_sum s (e ∷ exports) =
    let split = sum_by-append export_size (under_name e.target (kept_name s e.name)) (kept_exports s exports) in
    let one = under_size e.target (kept_name s e.name) in
    let name = kept_size s e.name in
    let more = kept_sum s exports in
    let own = sum_by-cons export_size e exports in
    let new = sum_by-cons (renamed_size s.renames) e exports in
    omega (arith, split, one, name, more, own, new)

-- ---- each rename gives its name to one export at most

abbrev given_size : Rename → Export → ℕ
given_size r e = cond (bytes_eq e.name r.src) (length r.dst) 0

at_most : (b : Bool) (n : ℕ) → cond b n 0 ≤ n
at_most true n = omega arith
at_most false n = omega arith

given_none : (r : Rename) (e : Export) (b : Bool) → bytes_eq e.name r.src ≡ b → r.src ≢ e.name → cond b (length r.dst) 0 ≤ 0
given_none r e true p other = absurd (other (sym ((bytes_eq-Decides e.name r.src).0 p)))
given_none r e false p other = omega arith

none_given : (r : Rename) (exports : List Export) → All (λ e. r.src ≢ e.name) exports → sum_by (given_size r) exports ≤ 0
none_given r [] all = omega arith
none_given r (e ∷ exports) all =
    let here = given_none r e (bytes_eq e.name r.src) refl (All-head (λ (e : Export). r.src ≢ e.name) e exports all) in
    let more = none_given r exports (All-tail (λ (e : Export). r.src ≢ e.name) e exports all) in
    let step = sum_by-cons (given_size r) e exports in
    omega (arith, here, more, step)

one_given : (r : Rename) (exports : List Export) → NamesDiffer exports → sum_by (given_size r) exports ≤ length r.dst
one_given r [] differ = omega arith
one_given r (e ∷ exports) differ =
    by (bytes_eq e.name r.src) refl (one_given r exports (pairs-tail (λ (x y : Export). x.name ≢ y.name) e exports differ)) where
      by : (b : Bool) → bytes_eq e.name r.src ≡ b → sum_by (given_size r) exports ≤ length r.dst → sum_by (given_size r) (e ∷ exports) ≤ length r.dst
      by true p more =
          let others = subst (λ (name : List ℕ). All (λ (y : Export). name ≢ y.name) exports) ((bytes_eq-Decides e.name r.src).0 p)
          (pairs-head (λ (x y : Export). x.name ≢ y.name) e exports differ) in
          let none = none_given r exports others in
          let here = at_most (bytes_eq e.name r.src) (length r.dst) in
          let step = sum_by-cons (given_size r) e exports in
          omega (arith, none, here, step)
      by false p more =
          let here : given_size r e ≡ 0 = ap (λ (b : Bool). cond b (length r.dst) 0) p in
          let step = sum_by-cons (given_size r) e exports in
          omega (arith, more, here, step)

two_sums : (f g : Export → ℕ) (exports : List Export) → sum_by (λ e. f e + g e) exports ≡ sum_by f exports + sum_by g exports
two_sums f g [] = omega arith
two_sums f g (e ∷ exports) =
    let all = sum_by-cons (λ (e : Export). f e + g e) e exports in
    let one = sum_by-cons f e exports in
    let other = sum_by-cons g e exports in
    let more = two_sums f g exports in
    omega (arith, all, one, other, more)

no_renames : (exports : List Export) → sum_by (renamed_size []) exports ≤ 0
no_renames [] = omega arith
no_renames (e ∷ exports) = let step = sum_by-cons (renamed_size []) e exports in let more = no_renames exports in omega (arith, step, more)

first_or : (b : Bool) (dst : List ℕ) (o : Option (List ℕ)) → name_size (cond b (Some dst) o) ≤ cond b (length dst) 0 + name_size o
first_or true dst o = omega arith
first_or false dst o = omega arith

renamed_sum : (renames : List Rename) (exports : List Export) → NamesDiffer exports → sum_by (renamed_size renames) exports ≤ sum_by new_size renames
renamed_sum [] exports differ = no_renames exports
renamed_sum (r ∷ renames) exports differ =
    let each = sum_by-le-sum_by (renamed_size (r ∷ renames)) (λ e. given_size r e + renamed_size renames e) exports
    (λ e. first_or (bytes_eq e.name r.src) r.dst (renamed_to e.name renames)) in
    let split = two_sums (given_size r) (renamed_size renames) exports in
    let one = one_given r exports differ in
    let more = renamed_sum renames exports differ in
    let step = sum_by-cons new_size r renames in
    omega (arith, each, split, one, more, step)

pub kept_names_sum : (s : Settings) (exports : List Export) → NamesDiffer exports
    → sum_by export_size (kept_exports s exports) ≤ sum_by export_size exports + sum_by new_size s.renames
kept_names_sum s exports differ =
    let all = kept_sum s exports in
    let new = renamed_sum s.renames exports differ in
    omega (arith, all, new)

-- ---- what holds of the names

module _ (P : List ℕ → Type 0) where
  renamed_named : (name : List ℕ) (renames : List Rename) → All (λ r. P r.dst) renames → (n : List ℕ) → renamed_to name renames ≡ Some n → P n
  renamed_named name [] all n e = absurd cc
  renamed_named name (r ∷ renames) all n e =
      by (bytes_eq name r.src) e (λ later. renamed_named name renames (All-tail (λ (r : Rename). P r.dst) r renames all) n later) where
        by : (b : Bool) → cond b (Some r.dst) (renamed_to name renames) ≡ Some n → (renamed_to name renames ≡ Some n → P n) → P n
        by true p later = let same : r.dst ≡ n = cc in subst P same (All-head (λ (r : Rename). P r.dst) r renames all)
        by false p later = later p

  beside_named : (renames : List Rename) (name : List ℕ) (o : Option (List ℕ)) → P name → ((n : List ℕ) → o ≡ Some n → P n)
      → (n : List ℕ) → name_beside renames name o ≡ Some n → P n
  beside_named renames name (Some dst) own new n e = new n e
  beside_named renames name None own new n e = by (renames_to name renames) e where
    by : (b : Bool) → cond b None (Some name) ≡ Some n → P n
    by true p = absurd cc
    by false p = let same : name ≡ n = cc in subst P same own

  kept_named : (s : Settings) (name : List ℕ) → P name → All (λ r. P r.dst) s.renames → (n : List ℕ) → kept_name s name ≡ Some n → P n
  kept_named s name own all n e = by (leaves s name) e where
    by : (b : Bool) → cond b None (name_beside s.renames name (renamed_to name s.renames)) ≡ Some n → P n
    by true p = absurd cc
    by false p = beside_named s.renames name (renamed_to name s.renames) own (λ n e. renamed_named name s.renames all n e) n p

  under_named : (t : ExportTarget) (o : Option (List ℕ)) → ((n : List ℕ) → o ≡ Some n → P n) → All (λ e. P e.name) (under_name t o)
  under_named t None each = All-nil (λ (e : Export). P e.name)
  under_named t (Some name) each = All-cons (λ (e : Export). P e.name) (record { name = name; target = t }) [] (each name refl) (All-nil (λ (e : Export). P e.name))

  pub names_kept : (s : Settings) (exports : List Export) → All (λ e. P e.name) exports → All (λ r. P r.dst) s.renames → All (λ e. P e.name) (kept_exports s exports)
  names_kept s [] own all = All-nil (λ (e : Export). P e.name)
  names_kept s (e ∷ exports) own all =
      All-append (λ (e : Export). P e.name) (under_name e.target (kept_name s e.name)) (kept_exports s exports)
      (under_named e.target (kept_name s e.name) (kept_named s e.name (All-head (λ (e : Export). P e.name) e exports own) all))
      (names_kept s exports (All-tail (λ (e : Export). P e.name) e exports own) all)

pub new_names_short : (renames : List Rename) (n : ℕ) → sum_by new_size renames ≤ n → All (λ r. length r.dst ≤ n) renames
new_names_short renames n few k d less = let one = get_or-le-sum_by new_size renames k d less in omega (arith, one, few)
