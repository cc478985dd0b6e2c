-- Look-ups by name: in maps, and in the lists of exports and renames.
use Rattle.std.proofs.Common.{◌≡◌, ℕ, ◌+◌, ◌-◌, ◌<◌, List, [], ◌∷◌, ◌++◌, length, get_or, drop, map, Option, Some, None, Bool, true, false, cond, HashMap, HashSet, Bor, String}
use Rattle.std.proofs.Common.{inl, inr, refl, sym, ap, subst, ◌∙◌, arith, drop-cons, add-one}
use Rattle.std.specs.Prelude.{◌||◌, ◌⊎◌}
use Rattle.std.specs.HashSet.{contains_by}
use Rattle.std.specs.HashMap.{UpdatesBy, get_by}
use Rattle.std.specs.Map.{lookup}
use Rattle.std.specs.Option.{option_map}
use Rattle.std.specs.Prelude.{string_bytes}
use Rattle.std.specs.String.{string_eq}
use Rattle.indexmap.specs.IndexMap.{IndexMap, get, insert_entry}
use Rattle.indexmap.proofs.CallerLemmas.{insert_entry-new}
use Rattle.std.specs.Str.{bytes_eq}
use Rattle.std.proofs.lemmas.Cmp.{nat_list_eq_equiv}
use Rattle.std.proofs.lemmas.Map.Text.{hash_map_updates_str}
use Rattle.wz_module.specs.declared.items.ExportTarget.{ExportTarget}
use Rattle.wz_module.specs.Exports.{Export}
use Rattle.wz_module.specs.Views.{export_of}
use Rattle.wz_module.specs.declared.items.Export as item
use Rattle.wz_words.specs.Faults.{renames_to}
use Rattle.wz_words.specs.Options.{same_text}
use Rattle.wz_words.specs.Settings.{Settings}
use Rattle.wz_words.proofs.RenamesLaws.{same_is_pointwise}
use Rattle.wz_exports.specs.declared.fault.ExportFault.{ExportFault}
use Rattle.wz_exports.specs.declared.fault.ExportFault.TheVariants.{NoMemory}
use Rattle.wz_exports.specs.Kept.{misnamed_at, or_next, first_misnamed}
use Rattle.wz_words.specs.declared.settings.Rename.{Rename}
use Rattle.wz_exports.specs.Names.{target_named}
use Rattle.wz_exports.specs.Answers.{HasTargets, HasNewNames}
use Rattle.wz_exports.specs.Listed.{exports_in}

pub flips : (a b : List ℕ) → bytes_eq a b ≡ bytes_eq b a
flips a b = nat_list_eq_equiv.symm a b

-- ---- a list from one of its places on

pub drop_before : {X : Type 0} (xs : List X) (k next : ℕ) (d : X) → k < length xs → k + 1 ≡ next → drop k xs ≡ get_or xs k d ∷ drop next xs
drop_before xs k next d less e = drop-cons xs k d less ∙ ap (λ (n : ℕ). get_or xs k d ∷ drop n xs) (sym (add-one k) ∙ e)

-- ---- maps

pub targets_next : {S : Type 0} (m n : HashMap (Bor (List ℕ)) ExportTarget S) (exports : List Export) (e : Export) → HasTargets m exports
    → UpdatesBy (λ x y. bytes_eq x.now y.now) (λ k. bytes_eq e.name k.now) m n (Some e.target) → HasTargets n (e ∷ exports)
targets_next m n exports e has updates name =
    hash_map_updates_str e.name m n (Some e.target) updates name
    ∙ ap (λ (b : Bool). cond b (Some e.target) (get_by (λ k. bytes_eq name k.now) m)) (flips e.name name)
    ∙ ap (λ (o : Option ExportTarget). cond (bytes_eq name e.name) (Some e.target) o) (has name)

-- the next export from behind
pub targets_step : {S : Type 0} (xs : List item.Export) (m n : HashMap (Bor (List ℕ)) ExportTarget S) (done : ℕ) (d : item.Export) → done < length xs
    → HasTargets m (map export_of (drop (length xs - done) xs))
    → UpdatesBy (λ x y. bytes_eq x.now y.now) (λ k. bytes_eq (get_or xs (length xs - 1 - done) d).name.now k.now) m n (Some (get_or xs (length xs - 1 - done) d).target)
    → HasTargets n (map export_of (drop (length xs - (done + 1)) xs))
targets_step xs m n done d less has updates =
    let place : length xs - (done + 1) ≡ length xs - 1 - done = omega arith in
    let split = drop_before xs (length xs - 1 - done) (length xs - done) d (omega (arith, less)) (omega (arith, less)) in
    subst (λ (es : List item.Export). HasTargets n (map export_of es)) (sym (ap (λ (k : ℕ). drop k xs) place ∙ split))
    (targets_next m n (map export_of (drop (length xs - done) xs)) (export_of (get_or xs (length xs - 1 - done) d)) has updates)

map-cond : {X Y : Type 0} (f : X → Y) (b : Bool) (x : X) (o : Option X) → option_map f (cond b (Some x) o) ≡ cond b (Some (f x)) (option_map f o)
map-cond f true x o = refl
map-cond f false x o = refl

new_names_next : {S : Type 0} (m n : HashMap (Bor (List ℕ)) (Bor (List ℕ)) S) (renames : List Rename) (rename : Rename) (key : List ℕ) (dst : Bor (List ℕ)) → HasNewNames m renames
    → key ≡ rename.src → dst.now ≡ rename.dst → UpdatesBy (λ x y. bytes_eq x.now y.now) (λ k. bytes_eq key k.now) m n (Some dst) → HasNewNames n (rename ∷ renames)
new_names_next m n renames rename key dst has from same updates name =
    ap (λ (o : Option (Bor (List ℕ))). option_map (λ x. x.now) o) (hash_map_updates_str key m n (Some dst) updates name)
    ∙ map-cond (λ (x : Bor (List ℕ)). x.now) (bytes_eq key name) dst (get_by (λ k. bytes_eq name k.now) m)
    ∙ ap (λ (b : Bool). cond b (Some dst.now) (option_map (λ x. x.now) (get_by (λ k. bytes_eq name k.now) m))) (flips key name ∙ ap (λ (k : List ℕ). bytes_eq name k) from)
    ∙ ap (λ (d : List ℕ). cond (bytes_eq name rename.src) (Some d) (option_map (λ x. x.now) (get_by (λ k. bytes_eq name k.now) m))) same
    ∙ ap (λ (o : Option (List ℕ)). cond (bytes_eq name rename.src) (Some rename.dst) o) (has name)

-- the next rename from behind
renames-split : (xs : List Rename) (done : ℕ) (rename : Rename) → done < length xs → rename ≡ get_or xs (length xs - 1 - done) rename
    → rename ∷ drop (length xs - done) xs ≡ drop (length xs - (done + 1)) xs
renames-split xs done rename less read =
    let place : length xs - (done + 1) ≡ length xs - 1 - done = omega arith in
    let split = drop_before xs (length xs - 1 - done) (length xs - done) rename (omega (arith, less)) (omega (arith, less)) in
    ap (λ (r : Rename). r ∷ drop (length xs - done) xs) read ∙ sym (ap (λ (k : ℕ). drop k xs) place ∙ split)

pub new_names_step : {S : Type 0} (xs : List Rename) (m n : HashMap (Bor (List ℕ)) (Bor (List ℕ)) S) (done : ℕ) (rename : Rename) (key : List ℕ) (dst : Bor (List ℕ))
    → done < length xs
    → rename ≡ get_or xs (length xs - 1 - done) rename → HasNewNames m (drop (length xs - done) xs) → key ≡ rename.src → dst.now ≡ rename.dst
    → UpdatesBy (λ x y. bytes_eq x.now y.now) (λ k. bytes_eq key k.now) m n (Some dst) → HasNewNames n (drop (length xs - (done + 1)) xs)
new_names_step xs m n done rename key dst less read has from same updates =
    subst (λ (rs : List Rename). HasNewNames n rs) (renames-split xs done rename less read)
    (new_names_next m n (drop (length xs - done) xs) rename key dst has from same updates)

or-cond : (t b : Bool) → cond t true b ≡ (t || b)
or-cond true b = refl
or-cond false b = refl

pub given_step : {S : Type 0} (xs : List Rename) (m n : HashSet (Bor (List ℕ)) S) (done : ℕ) (rename : Rename) (key : List ℕ) → done < length xs
    → rename ≡ get_or xs (length xs - 1 - done) rename → ((q : List ℕ) → contains_by (λ k. bytes_eq q k.now) m ≡ renames_to q (drop (length xs - done) xs)) → key ≡ rename.dst
    → ((q : Bor (List ℕ)) → contains_by (λ k. bytes_eq q.now k.now) n ≡ cond (bytes_eq key q.now) true (contains_by (λ k. bytes_eq q.now k.now) m))
    → (q : List ℕ) → contains_by (λ k. bytes_eq q k.now) n ≡ renames_to q (drop (length xs - (done + 1)) xs)
given_step xs m n done rename key less read has from updates q =
    updates (record { ref_ptr = (0, 0); now = q })
    ∙ or-cond (bytes_eq key q) (contains_by (λ k. bytes_eq q k.now) m)
    ∙ ap (λ (b : Bool). b || contains_by (λ k. bytes_eq q k.now) m) (ap (λ (k : List ℕ). bytes_eq k q) from ∙ sym (same_is_pointwise rename.dst q))
    ∙ ap (λ (b : Bool). same_text rename.dst q || b) (has q)
    ∙ ap (λ (rs : List Rename). renames_to q rs) (renames-split xs done rename less read)

-- ---- the faults of renames

module _ (s : Settings) (exports : List Export) (renames : List Rename) (i : ℕ) (rename : Rename) (t : Option ExportTarget) (src : List ℕ) (asked : Option ExportFault) (less : i
    < length renames)
    (read : rename ≡ get_or renames i rename) (so_far : first_misnamed s exports (drop i renames) ≡ asked) (from : src ≡ rename.src) (found : t ≡ target_named src exports) where
  next-rename : or_next (misnamed_at s src t) (first_misnamed s exports (drop (i + 1) renames)) ≡ asked
  next-rename =
      ap (λ (o : Option ExportTarget). or_next (misnamed_at s src o) (first_misnamed s exports (drop (i + 1) renames))) found
      ∙ ap (λ (n : List ℕ). or_next (misnamed_at s n (target_named n exports)) (first_misnamed s exports (drop (i + 1) renames))) from
      ∙ ap (λ (r : Rename). first_misnamed s exports (r ∷ drop (i + 1) renames)) read
      ∙ sym (ap (λ (rs : List Rename). first_misnamed s exports rs) (drop_before renames i (i + 1) rename less refl))
      ∙ so_far

  pub none_yet : misnamed_at s src t ≡ None → first_misnamed s exports (drop (i + 1) renames) ≡ asked
  none_yet none = sym (ap (λ (o : Option ExportFault). or_next o (first_misnamed s exports (drop (i + 1) renames))) none) ∙ next-rename

  pub fault_here : (fault : ExportFault) → (fault ≡ NoMemory) ⊎ (misnamed_at s src t ≡ Some fault) → (fault ≡ NoMemory) ⊎ (asked ≡ Some fault)
  fault_here fault (inl none) = inl none
  fault_here fault (inr some) = inr (sym next-rename ∙ ap (λ (o : Option ExportFault). or_next o (first_misnamed s exports (drop (i + 1) renames))) some)

-- ---- the kept exports

pub found_by_name : {A : Type 0} (name : List ℕ) (entries : List (String A × ExportTarget))
    → lookup (λ k. bytes_eq name (string_bytes k)) entries ≡ target_named name (exports_in entries)
found_by_name name [] = refl
found_by_name name (e ∷ entries) = ap (λ (o : Option ExportTarget). cond (bytes_eq name (string_bytes e.0)) (Some e.1) o) (found_by_name name entries)

exports-append : {A : Type 0} (xs ys : List (String A × ExportTarget)) → exports_in (xs ++ ys) ≡ exports_in xs ++ exports_in ys
exports-append [] ys = refl
exports-append (x ∷ xs) ys = ap (λ (es : List Export). record { name = string_bytes x.0; target = x.1 } ∷ es) (exports-append xs ys)

-- an export under a new name goes last
pub added_export : {A S : Type 0} (m : IndexMap (String A) ExportTarget S) (key : String A) (target : ExportTarget) (name : List ℕ) (entries : List (String A × ExportTarget))
    (old : List Export)
    → string_bytes key ≡ name → exports_in m.entries ≡ old → target_named name old ≡ None → entries ≡ insert_entry string_eq m.entries key target
    → exports_in entries ≡ old ++ record { name = name; target = target } ∷ []
added_export m key target name entries old named listed absent inserted =
    let none : get string_eq m key ≡ None =
    found_by_name (string_bytes key) m.entries
    ∙ ap (λ (n : List ℕ). target_named n (exports_in m.entries)) named
    ∙ ap (λ (es : List Export). target_named name es) listed
    ∙ absent in
    ap exports_in (inserted ∙ insert_entry-new string_eq m key target none)
    ∙ exports-append m.entries ((key, target) ∷ [])
    ∙ ap (λ (es : List Export). es ++ record { name = string_bytes key; target = target } ∷ []) listed
    ∙ ap (λ (n : List ℕ). old ++ record { name = n; target = target } ∷ []) named

-- an item of a list that is another
pub at_list : {X : Type 0} (xs ys : List X) → xs ≡ ys → (i : ℕ) (x : X) → i < length xs → x ≡ get_or xs i x → (i < length ys) × (x ≡ get_or ys i x)
at_list xs ys same i x less read = (subst (λ zs. i < length zs) same less, subst (λ zs. x ≡ get_or zs i x) same read)
