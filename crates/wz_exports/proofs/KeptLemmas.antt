-- The names of kept exports differ.
use Rattle.std.proofs.Common.{◌≡◌, ◌≢◌, ℕ, suc, ◌+◌, ◌<◌, List, [], ◌∷◌, ◌++◌, length, get_or, take, map, Option, Some, None, Bool, true, false, cond, refl, sym, ap, ◌∙◌, arith}
use Rattle.std.proofs.Common.{unwrap_or, append-nil, length-take-le, Bor}
use Rattle.std.specs.List.{All, AllPairs}
use Rattle.std.specs.Prelude.{◌||◌, IfSome, option_copied}
use Rattle.std.specs.Str.{bytes_eq}
use Rattle.std.proofs.lemmas.Slice.Eq.{bytes_eq-Decides}
use Rattle.std.proofs.lemmas.List.Elements.{All-head, All-tail, All-cons, All-nil}
use Rattle.std.proofs.lemmas.List.Kept.{AllPairs-cons}
use Rattle.std.proofs.lemmas.List.{length-map, map_more, take-map, get_or-take, get_or-map}
use Rattle.std.proofs.lemmas.List.Concat.{flat_map-append}
use Rattle.wz_module.specs.Exports.{Export}
use Rattle.wz_module.specs.Views.{export_of}
use Rattle.wz_module.specs.declared.items.Export as item
use Rattle.wz_words.specs.declared.settings.Rename.{Rename}
use Rattle.wz_words.specs.Faults.{renames_to}
use Rattle.wz_words.specs.Options.{same_text}
use Rattle.wz_words.specs.Settings.{Settings}
use Rattle.wz_words.proofs.RenamesLaws.{same_is_pointwise}
use Rattle.wz_exports.specs.Names.{target_named, renamed_to}
use Rattle.wz_exports.specs.Kept.{leaves, name_beside, kept_name, under_name, kept_exports}

-- ---- tests and options

same_bytes : (a b : List ℕ) → bytes_eq a b ≡ true → a ≡ b
same_bytes a b h = (bytes_eq-Decides a b).0 h

of_same : (a b : List ℕ) → a ≡ b → bytes_eq a b ≡ true
of_same a b e = (bytes_eq-Decides a b).1 e

some-inj : {X : Type 0} (x y : X) → Some x ≡ Some y → x ≡ y
some-inj {X = X} x y e = ap (λ (o : Option X). unwrap_or o x) e

-- ---- pairs of a list

pub pairs-head : {X : Type 0} (R : X → X → Type 0) (x : X) (xs : List X) → AllPairs R (x ∷ xs) → All (R x) xs
pairs-head R x xs h = λ k d less. h 0 (suc k) d (omega arith) (omega (arith, less))

pub pairs-tail : {X : Type 0} (R : X → X → Type 0) (x : X) (xs : List X) → AllPairs R (x ∷ xs) → AllPairs R xs
pairs-tail R x xs h = λ i j d below less. h (suc i) (suc j) d (omega (arith, below)) (omega (arith, less))

abbrev pub DstsDiffer : List Rename → Type 0
DstsDiffer renames = AllPairs (λ x y. x.dst ≢ y.dst) renames

abbrev pub NamesDiffer : List Export → Type 0
NamesDiffer exports = AllPairs (λ x y. x.name ≢ y.name) exports

-- ---- renames

-- a name that no rename gives isn't given
not_given : (dst name n : List ℕ) (renames : List Rename) → All (λ r. dst ≢ r.dst) renames → renamed_to name renames ≡ Some n → dst ≡ n → ⊥
not_given dst name n [] others some same = absurd cc
not_given dst name n (r ∷ renames) others some same =
    by (bytes_eq name r.src) some (λ e. not_given dst name n renames (All-tail (λ (r : Rename). dst ≢ r.dst) r renames others) e same) where
      by : (b : Bool) → cond b (Some r.dst) (renamed_to name renames) ≡ Some n → (renamed_to name renames ≡ Some n → ⊥) → ⊥
      by true e later = All-head (λ (r : Rename). dst ≢ r.dst) r renames others (same ∙ sym (some-inj r.dst n e))
      by false e later = later e

-- two exports that are renamed to one name are one
one_source : (a b n : List ℕ) (renames : List Rename) → DstsDiffer renames → renamed_to a renames ≡ Some n → renamed_to b renames ≡ Some n → a ≡ b
one_source a b n [] differ first second = absurd cc
one_source a b n (r ∷ renames) differ first second =
    by (bytes_eq a r.src) (bytes_eq b r.src) refl refl first second (one_source a b n renames (pairs-tail (λ (x y : Rename). x.dst ≢ y.dst) r renames differ)) where
      heads : All (λ other. r.dst ≢ other.dst) renames
      heads = pairs-head (λ (x y : Rename). x.dst ≢ y.dst) r renames differ

      by : (s t : Bool) → bytes_eq a r.src ≡ s → bytes_eq b r.src ≡ t → cond s (Some r.dst) (renamed_to a renames) ≡ Some n → cond t (Some r.dst) (renamed_to b renames) ≡ Some n
          → (renamed_to a renames ≡ Some n → renamed_to b renames ≡ Some n → a ≡ b) → a ≡ b
      by true true p q e f later = same_bytes a r.src p ∙ sym (same_bytes b r.src q)
      by true false p q e f later = absurd (not_given r.dst b n renames heads f (some-inj r.dst n e))
      by false true p q e f later = absurd (not_given r.dst a n renames heads e (some-inj r.dst n f))
      by false false p q e f later = later e f

or-true : (s t : Bool) → t ≡ true → (s || t) ≡ true
or-true true t h = refl
or-true false t h = h

-- the new name of an export is one that renames give
given : (name n : List ℕ) (renames : List Rename) → renamed_to name renames ≡ Some n → renames_to n renames ≡ true
given name n [] some = absurd cc
given name n (r ∷ renames) some = by (bytes_eq name r.src) some (given name n renames) where
  by : (b : Bool) → cond b (Some r.dst) (renamed_to name renames) ≡ Some n → (renamed_to name renames ≡ Some n → renames_to n renames ≡ true) → renames_to n (r ∷ renames) ≡ true
  by true e later = ap (λ (t : Bool). t || renames_to n renames) (same_is_pointwise r.dst n ∙ of_same r.dst n (some-inj r.dst n e))
  by false e later = or-true (same_text r.dst n) (renames_to n renames) (later e)

-- ---- kept names

unrenamed : (renames : List Rename) (name n : List ℕ) (t : Bool) → renames_to name renames ≡ t → cond t None (Some name) ≡ Some n → (name ≡ n) × (renames_to name renames ≡ false)
unrenamed renames name n true e f = absurd cc
unrenamed renames name n false e f = (some-inj name n f, e)

clash : (renames : List Rename) (name other n : List ℕ) → name ≡ n → renames_to name renames ≡ false → renamed_to other renames ≡ Some n → ⊥
clash renames name other n same none some =
    let e : true ≡ false = sym (given other n renames some) ∙ ap (λ (m : List ℕ). renames_to m renames) (sym same) ∙ none in absurd cc

beside : (renames : List Rename) (a b n : List ℕ) → DstsDiffer renames → (x y : Option (List ℕ)) → renamed_to a renames ≡ x → renamed_to b renames ≡ y
    → name_beside renames a x ≡ Some n → name_beside renames b y ≡ Some n → a ≡ b
beside renames a b n differ (Some x) (Some y) p q e f = one_source a b n renames differ (p ∙ e) (q ∙ f)
beside renames a b n differ (Some x) None p q e f = let u = unrenamed renames b n (renames_to b renames) refl f in absurd (clash renames b a n u.0 u.1 (p ∙ e))
beside renames a b n differ None (Some y) p q e f = let u = unrenamed renames a n (renames_to a renames) refl e in absurd (clash renames a b n u.0 u.1 (q ∙ f))
beside renames a b n differ None None p q e f = (unrenamed renames a n (renames_to a renames) refl e).0 ∙ sym (unrenamed renames b n (renames_to b renames) refl f).0

-- two exports that have one name in the output are one
pub one_name : (s : Settings) (a b n : List ℕ) → DstsDiffer s.renames → kept_name s a ≡ Some n → kept_name s b ≡ Some n → a ≡ b
one_name s a b n differ first second = staying (leaves s a) (leaves s b) first second where
  staying : (l k : Bool) → cond l None (name_beside s.renames a (renamed_to a s.renames)) ≡ Some n → cond k None (name_beside s.renames b (renamed_to b s.renames)) ≡ Some n → a ≡ b
  staying true k e f = absurd cc
  staying false true e f = absurd cc
  staying false false e f = beside s.renames a b n differ (renamed_to a s.renames) (renamed_to b s.renames) refl refl e f

-- ---- kept exports

-- the name of another export isn't among those that exports have in the output
pub fresh_name : (s : Settings) (name n : List ℕ) (exports : List Export) → DstsDiffer s.renames → All (λ e. e.name ≢ name) exports → kept_name s name ≡ Some n
    → target_named n (kept_exports s exports) ≡ None
fresh_name s name n [] differ others kept = refl
fresh_name s name n (x ∷ exports) differ others kept =
    by (kept_name s x.name) refl (fresh_name s name n exports differ (All-tail (λ (e : Export). e.name ≢ name) x exports others) kept) where
      test : (m : List ℕ) (b : Bool) → kept_name s x.name ≡ Some m → bytes_eq n m ≡ b → target_named n (kept_exports s exports) ≡ None
          → cond b (Some x.target) (target_named n (kept_exports s exports)) ≡ None
      test m true p q rest =
          absurd (All-head (λ (e : Export). e.name ≢ name) x exports others
          (one_name s x.name name n differ (p ∙ ap (λ (k : List ℕ). Some k) (sym (same_bytes n m q))) kept))
      test m false p q rest = rest

      by : (o : Option (List ℕ)) → kept_name s x.name ≡ o → target_named n (kept_exports s exports) ≡ None → target_named n (under_name x.target o ++ kept_exports s exports) ≡ None
      by None p rest = rest
      by (Some m) p rest = test m (bytes_eq n m) p refl rest

not_named : (n : List ℕ) (exports : List Export) → target_named n exports ≡ None → All (λ e. n ≢ e.name) exports
not_named n [] none = All-nil (λ (e : Export). n ≢ e.name)
not_named n (x ∷ exports) none = by (bytes_eq n x.name) refl none (not_named n exports) where
  by : (b : Bool) → bytes_eq n x.name ≡ b → cond b (Some x.target) (target_named n exports) ≡ None → (target_named n exports ≡ None → All (λ e. n ≢ e.name) exports)
      → All (λ e. n ≢ e.name) (x ∷ exports)
  by true p e later = absurd cc
  by false p e later =
      All-cons (λ (e : Export). n ≢ e.name) x exports
      (λ same. let both : true ≡ false = sym (of_same n x.name same) ∙ p in absurd cc)
      (later e)

pub names_differ : (s : Settings) (exports : List Export) → DstsDiffer s.renames → NamesDiffer exports → NamesDiffer (kept_exports s exports)
names_differ s [] differ names = λ i j d below less. absurd (omega (arith, less))
names_differ s (x ∷ exports) differ names =
    by (kept_name s x.name) refl (names_differ s exports differ (pairs-tail (λ (x y : Export). x.name ≢ y.name) x exports names)) where
      others : All (λ e. e.name ≢ x.name) exports
      others = λ k d less same. pairs-head (λ (x y : Export). x.name ≢ y.name) x exports names k d less (sym same)

      by : (o : Option (List ℕ)) → kept_name s x.name ≡ o → NamesDiffer (kept_exports s exports) → NamesDiffer (under_name x.target o ++ kept_exports s exports)
      by None p rest = rest
      by (Some m) p rest =
          AllPairs-cons (λ (x y : Export). x.name ≢ y.name) (record { name = m; target = x.target }) (kept_exports s exports)
          (not_named m (kept_exports s exports) (fresh_name s x.name m exports differ others p)) rest

-- ---- one export after the other

pub next_export : (s : Settings) (xs : List item.Export) (i : ℕ) (d : item.Export) → i < length xs
    → kept_exports s (map export_of (take i xs)) ++ under_name (get_or xs i d).target (kept_name s (get_or xs i d).name.now) ≡ kept_exports s (map export_of (take (i + 1) xs))
next_export s xs i d less =
    let F = λ (e : Export). under_name e.target (kept_name s e.name) in
    let e = export_of (get_or xs i d) in
    ap (λ (es : List Export). kept_exports s (map export_of (take i xs)) ++ es) (sym (append-nil (F e)))
    ∙ sym (flat_map-append F (map export_of (take i xs)) (e ∷ []))
    ∙ ap (λ (es : List Export). kept_exports s es) (sym (map_more export_of xs i d less))

-- the names before a place differ from the one there
pub names_before : (xs : List item.Export) (i : ℕ) (d : item.Export) → i < length xs → NamesDiffer (map export_of xs)
    → All (λ e. e.name ≢ (get_or xs i d).name.now) (map export_of (take i xs))
names_before xs i d less differ k d' within same =
    let size = length-map (take i xs) export_of in
    let upto = length-take-le i xs (omega (arith, less)) in
    let here : k < i = omega (arith, within, size, upto) in
    let all = length-map xs export_of in
    let read = ap (λ (es : List Export). get_or es k d') (sym (take-map export_of i xs)) ∙ get_or-take i (map export_of xs) k d' here in
    let there = get_or-map export_of xs i d d' less in
    differ k i d' here (omega (arith, less, all)) (ap (λ (e : Export). e.name) (sym read) ∙ same ∙ ap (λ (e : Export). e.name) (sym there))

-- the next export's name in the output is new
pub may_add : (s : Settings) (xs : List item.Export) (i : ℕ) (d : item.Export) (o : Option (Bor (List ℕ))) (entries : List Export) → i < length xs → DstsDiffer s.renames
    → NamesDiffer (map export_of xs)
    → option_copied o ≡ kept_name s (get_or xs i d).name.now → entries ≡ kept_exports s (map export_of (take i xs)) → IfSome o (λ n. target_named n.now entries ≡ None)
may_add s xs i d None entries less differ names asked so_far = tt
may_add s xs i d (Some n) entries less differ names asked so_far =
    ap (λ (es : List Export). target_named n.now es) so_far
    ∙ fresh_name s (get_or xs i d).name.now n.now (map export_of (take i xs)) differ (names_before xs i d less names) (sym asked)
