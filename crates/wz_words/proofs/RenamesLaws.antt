-- The sets of names that were renamed to and from.
use Rattle.std.proofs.Common.{◌≡◌, ℕ, List, [], ◌∷◌, ◌++◌, Bor, Bool, true, false, cond, Result, Ok, Err, refl, sym, ap, ◌∙◌}
use Rattle.std.specs.Prelude.{nat_eq, ◌==◌, ◌&&◌, ◌||◌, OnOk}
use Rattle.std.specs.List.{list_any}
use Rattle.std.specs.Cmp.Lexicographic.{pointwise, texts_ties}
use Rattle.std.specs.BTreeMap.{is_at}
use Rattle.std.specs.BTreeSet.{BTreeSet, contains}
use Rattle.std.proofs.lemmas.List.Folds.{list_any-append}
use Rattle.wz_words.specs.declared.settings.Rename.{Rename}
use Rattle.wz_words.specs.Options.{same_text}
use Rattle.wz_words.specs.Views.{HasNames, text_cmp}

pub same_is_pointwise : (a b : List ℕ) → same_text a b ≡ pointwise nat_eq a b
same_is_pointwise [] [] = refl
same_is_pointwise [] (y ∷ b) = refl
same_is_pointwise (x ∷ a) [] = refl
same_is_pointwise (x ∷ a) (y ∷ b) = ap (λ (t : Bool). (x == y) && t) (same_is_pointwise a b)

or_last : (b t : Bool) → cond t true b ≡ (b || (t || false))
or_last true true = refl
or_last true false = refl
or_last false true = refl
or_last false false = refl

-- a set with one name more, and a list with one rename more
pub names_more : (name_of : Rename → List ℕ) (seen now : BTreeSet (Bor (List ℕ))) (renames : List Rename) (key : Bor (List ℕ)) (rename : Rename) → HasNames seen name_of renames
    → name_of rename ≡ key.now → ((q : Bor (List ℕ)) → contains text_cmp now q ≡ cond (is_at (text_cmp key) q) true (contains text_cmp seen q))
    → HasNames now name_of (renames ++ rename ∷ [])
names_more name_of seen now renames key rename has e updates q =
    updates q
    ∙ ap (λ (t : Bool). cond t true (contains text_cmp seen q)) (sym (texts_ties key.now q.now) ∙ sym (same_is_pointwise key.now q.now))
    ∙ ap (λ (b : Bool). cond (same_text key.now q.now) true b) (has q)
    ∙ or_last (list_any (λ r. same_text (name_of r) q.now) renames) (same_text key.now q.now)
    ∙ ap (λ (name : List ℕ). list_any (λ r. same_text (name_of r) q.now) renames || (same_text name q.now || false)) (sym e)
    ∙ sym (list_any-append (λ r. same_text (name_of r) q.now) renames (rename ∷ []))

pub names_at : (names now : BTreeSet (Bor (List ℕ))) (name_of : Rename → List ℕ) (renames more : List Rename) → now ≡ names → more ≡ renames
    → HasNames names name_of renames → HasNames now name_of more
names_at names now name_of renames more e f h q =
    ap (λ (s : BTreeSet (Bor (List ℕ))). contains text_cmp s q) e ∙ h q ∙ sym (ap (λ (rs : List Rename). list_any (λ r. same_text (name_of r) q.now) rs) f)

pub on_ok_then : {X E P Q : Type 0} (r : Result X E) → (P → Q) → OnOk r P → OnOk r Q
on_ok_then (Ok x) f h = f h
on_ok_then (Err e) f h = h
