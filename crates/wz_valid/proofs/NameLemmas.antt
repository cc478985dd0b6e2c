-- Names of exports that were seen.
use Rattle.std.proofs.Common.{◌≡◌, ℕ, ◌+◌, ◌<◌, List, [], ◌∷◌, ◌++◌, Bor, Bool, true, false, cond, map, take, get_or, length, Option, Some, IsSomeAnd}
use Rattle.std.proofs.Common.{refl, sym, ap, subst, ◌∙◌, slice_get, All}
use Rattle.std.specs.Ordering.{nat_cmp}
use Rattle.std.specs.declared.cmp.Ordering.{Ordering}
use Rattle.std.specs.Prelude.{nat_eq, ◌||◌, not}
use Rattle.std.specs.List.{list_any}
use Rattle.std.specs.Cmp.Lexicographic.{slice_cmp, pointwise, same_text, other_text, texts_ties}
use Rattle.std.specs.BTreeMap.{is_at}
use Rattle.std.specs.BTreeSet.{BTreeSet, contains}
use Rattle.std.proofs.lemmas.Option.{slice_get-get_or}
use Rattle.std.proofs.lemmas.List.Folds.{list_any-append}
use Rattle.std.proofs.lemmas.List.Elements.{All-nil, All-cons, All-head, All-tail}
use Rattle.wz_module.specs.Exports.{Export}
use Rattle.wz_module.specs.Module.{Module}
use Rattle.wz_module.specs.Views.{export_of}
use Rattle.wz_module.specs.declared.items.Export as export
use Rattle.wz_valid.specs.Checking.{IsNameNew}
use Rattle.wz_valid.proofs.ListLemmas.{map_next, item_at}

abbrev same : List ℕ → List ℕ → Bool
same key name = pointwise nat_eq name key

abbrev text_cmp : Bor (List ℕ) → Bor (List ℕ) → Ordering
text_cmp x y = slice_cmp nat_cmp x.now y.now

-- the set has the names of these exports
abbrev pub HasSeen : BTreeSet (Bor (List ℕ)) → List Export → Type 0
HasSeen seen exports = (q : Bor (List ℕ)) → contains (λ x y. slice_cmp nat_cmp x.now y.now) seen q ≡ list_any (λ e. pointwise nat_eq e.name q.now) exports

or_left : (a b : Bool) → (a || b) ≡ false → a ≡ false
or_left true b e = absurd cc
or_left false b e = refl

or_right : (a b : Bool) → (a || b) ≡ false → b ≡ false
or_right true b e = absurd cc
or_right false b e = e

none_same : (exports : List Export) (key : List ℕ) → list_any (λ e. same key e.name) exports ≡ false → All (λ e. e.name ≡ key → ⊥) exports
none_same [] key e = All-nil _
none_same (x ∷ exports) key e =
    All-cons (λ e. e.name ≡ key → ⊥) x exports (other_text x.name key (sym (or_left (same key x.name) (list_any (λ e. same key e.name) exports) e)))
    (none_same exports key (or_right (same key x.name) (list_any (λ e. same key e.name) exports) e))

some_same : (exports : List Export) (key : List ℕ) → list_any (λ e. same key e.name) exports ≡ true → All (λ e. e.name ≡ key → ⊥) exports → ⊥
some_same [] key e h = absurd cc
some_same (x ∷ exports) key e h =
    by (same key x.name) refl (λ f. some_same exports key f (All-tail (λ e. e.name ≡ key → ⊥) x exports h)) where
      by : (t : Bool) → same key x.name ≡ t → (list_any (λ e. same key e.name) exports ≡ true → ⊥) → ⊥
      by true is others = All-head (λ e. e.name ≡ key → ⊥) x exports h (same_text x.name key (sym is))
      by false is others = others (sym (ap (λ (t : Bool). t || list_any (λ e. same key e.name) exports) is) ∙ e)

or_last : (b t : Bool) → cond t true b ≡ (b || (t || false))
or_last true true = refl
or_last true false = refl
or_last false true = refl
or_last false false = refl

pub seen_more : (seen now : BTreeSet (Bor (List ℕ))) (exports : List Export) (key : Bor (List ℕ)) (export : Export) → export.name ≡ key.now → HasSeen seen exports
    → ((q : Bor (List ℕ)) → contains text_cmp now q ≡ cond (is_at (text_cmp key) q) true (contains text_cmp seen q)) → HasSeen now (exports ++ export ∷ [])
seen_more seen now exports key export named has updates q =
    updates q
    ∙ ap (λ (t : Bool). cond t true (contains text_cmp seen q)) (sym (texts_ties key.now q.now))
    ∙ ap (λ (b : Bool). cond (same q.now key.now) true b) (has q)
    ∙ or_last (list_any (λ e. same q.now e.name) exports) (same q.now key.now)
    ∙ ap (λ (name : List ℕ). list_any (λ e. same q.now e.name) exports || (same q.now name || false)) (sym named)
    ∙ sym (list_any-append (λ e. same q.now e.name) exports (export ∷ []))

-- ---- the next export of a module

name_is_new : (m : Module) (i : ℕ) (e : Export) → slice_get m.exports i ≡ Some e → list_any (λ other. pointwise nat_eq other.name e.name) (take i m.exports) ≡ false → IsNameNew m i
name_is_new m i e here none =
    subst (λ (o : Option Export). IsSomeAnd o (λ x. All (λ earlier. earlier.name ≡ x.name → ⊥) (take i m.exports))) (sym here) (none_same (take i m.exports) e.name none)

name_is_old : (m : Module) (i : ℕ) (e : Export) → slice_get m.exports i ≡ Some e
    → list_any (λ other. pointwise nat_eq other.name e.name) (take i m.exports) ≡ true → IsNameNew m i → ⊥
name_is_old m i e here some new =
    some_same (take i m.exports) e.name some
    (subst (λ (o : Option Export). IsSomeAnd o (λ x. All (λ earlier. earlier.name ≡ x.name → ⊥) (take i m.exports))) here new)

not_there : (added there : Bool) → added ≡ not there → added ≡ true → there ≡ false
not_there added true e is = absurd (let f = sym e ∙ is in cc)
not_there added false e is = refl

is_there : (added there : Bool) → added ≡ not there → added ≡ false → there ≡ true
is_there added true e is = refl
is_there added false e is = absurd (let f = sym e ∙ is in cc)

module _ (m : Module) (exports : List export.Export) (i : ℕ) (d : export.Export) (lent : map export_of exports ≡ m.exports) (less : i < length exports)
    (seen : BTreeSet (Bor (List ℕ))) (has : HasSeen seen (take i (map export_of exports))) (added : Bool) where
  here : slice_get m.exports i ≡ Some (export_of (get_or exports i d))
  here = item_at export_of exports m.exports i (get_or exports i d) lent (slice_get-get_or exports i d less)

  had : (b : Bool) → contains text_cmp seen (get_or exports i d).name ≡ b → list_any (λ e. pointwise nat_eq e.name (get_or exports i d).name.now) (take i m.exports) ≡ b
  had b there =
      ap (λ (es : List Export). list_any (λ e. pointwise nat_eq e.name (get_or exports i d).name.now) (take i es)) (sym lent)
      ∙ sym (has (get_or exports i d).name)
      ∙ there

  pub next_is_new : added ≡ not (contains text_cmp seen (get_or exports i d).name) → added ≡ true → IsNameNew m i
  next_is_new e is = name_is_new m i (export_of (get_or exports i d)) here (had false (not_there added (contains text_cmp seen (get_or exports i d).name) e is))

  pub next_is_old : added ≡ not (contains text_cmp seen (get_or exports i d).name) → added ≡ false → IsNameNew m i → ⊥
  next_is_old e is = name_is_old m i (export_of (get_or exports i d)) here (had true (is_there added (contains text_cmp seen (get_or exports i d).name) e is))

  pub next_seen : (now : BTreeSet (Bor (List ℕ)))
      → ((q : Bor (List ℕ)) → contains text_cmp now q ≡ cond (is_at (text_cmp (get_or exports i d).name) q) true (contains text_cmp seen q))
      → HasSeen now (take (i + 1) (map export_of exports))
  next_seen now updates =
      subst (λ (es : List Export). HasSeen now es) (sym (map_next export_of exports i d less))
      (seen_more seen now (take i (map export_of exports)) (get_or exports i d).name (export_of (get_or exports i d)) refl has updates)
