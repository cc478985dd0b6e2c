-- The files that stand in memory, as a map.
use Rattle.std.proofs.Common.{◌≡◌, ℕ, ◌+◌, Bool, true, false, List, [], ◌∷◌, ◌++◌, length, take, drop, refl, sym, ap, ◌∙◌, arith}
use Rattle.std.specs.Prelude.{Option, Some, cond, nat_eq}
use Rattle.std.specs.Ordering.{nat_cmp, eq_by_cmp}
use Rattle.std.specs.Cmp.{eq_by_cmp_equiv}
use Rattle.std.specs.Cmp.Lexicographic.{slice_cmp, nat_list_cmp_total, texts_ties, same_text, pointwise}
use Rattle.std.specs.FinMap.{get, insert, get-insert, same_map, slice_cmp-IsAntisymmetric, nat_cmp-IsAntisymmetric}
use Rattle.std.proofs.lemmas.List.{take-append-drop, drop-drop}
use Rattle.wz_io.specs.World.{Contents}
use Rattle.wz_io.proofs.ToldLemmas.{insert-insert}
use Rattle.wz_io.specs.Memory.{contents}
use Rattle.wz_io.specs.declared.memory.Entry.{Entry}

-- a look-up at the first entry
pub get-contents : (entries rest : List Entry) (e : Entry) (path found : List ℕ) (same : Bool) →
    entries ≡ e ∷ rest → found ≡ e.path.items → same ≡ pointwise nat_eq path found →
    get (contents entries) path ≡ cond same (Some e.bytes.items) (get (contents rest) path)
get-contents entries rest e path found same is at tie =
    ap (λ (es : List Entry). get (contents es) path) is
    ∙ get-insert nat_list_cmp_total (contents rest) e.path.items e.bytes.items path
    ∙ ap (λ (b : Bool). cond b (Some e.bytes.items) (get (contents rest) path))
    (sym (texts_ties path e.path.items) ∙ ap (λ (xs : List ℕ). pointwise nat_eq path xs) (sym at) ∙ sym tie)

pub no_entries : (es : List Entry) → length es ≡ 0 → es ≡ []
no_entries [] e = refl
no_entries (x ∷ xs) e = absurd (omega arith)

-- what stands behind what was taken
pub taken-rest : (input buffer : List ℕ) (at n : ℕ) → take n buffer ≡ take n (drop at input) →
    drop at input ≡ take n buffer ++ drop (at + n) input
taken-rest input buffer at n same =
    sym (take-append-drop n (drop at input))
    ∙ ap (λ (xs : List ℕ). xs ++ drop n (drop at input)) (sym same)
    ∙ ap (λ (xs : List ℕ). take n buffer ++ xs) (drop-drop n at input)

-- a second insert at the same path
pub insert-over : (m : Contents) (p q found a b : List ℕ) → found ≡ p → true ≡ pointwise nat_eq q found →
    insert m p b ≡ insert (insert m p a) q b
insert-over m p q found a b at same =
    sym (insert-insert m p a b) ∙ ap (λ (x : List ℕ). insert (insert m p a) x b) (sym at ∙ sym (same_text q found same))

cond_swap : {A : Type 0} (s t : Bool) (a b c : A) → (t ≡ true → s ≡ false) → cond s a (cond t b c) ≡ cond t b (cond s a c)
cond_swap true true a b c not_both = let never = not_both refl in cc
cond_swap true false a b c not_both = refl
cond_swap false t a b c not_both = refl

-- inserts at two paths, in either order
pub insert-swap : (m : Contents) (p q found a b : List ℕ) → found ≡ p → false ≡ pointwise nat_eq q found →
    insert (insert m q b) p a ≡ insert (insert m p a) q b
insert-swap m p q found a b at other =
    same_map nat_list_cmp_total (slice_cmp-IsAntisymmetric nat_cmp-IsAntisymmetric) _ _ (λ k.
    get-insert nat_list_cmp_total (insert m q b) p a k
    ∙ ap (λ (x : Option (List ℕ)). cond (eq_by_cmp (slice_cmp nat_cmp) k p) (Some a) x) (get-insert nat_list_cmp_total m q b k)
    ∙ cond_swap (eq_by_cmp (slice_cmp nat_cmp) k p) (eq_by_cmp (slice_cmp nat_cmp) k q) (Some a) (Some b) (get m k)
    (λ same. (eq_by_cmp_equiv nat_list_cmp_total).congr k q p same ∙ sym (texts_ties q p)
    ∙ ap (λ (x : List ℕ). pointwise nat_eq q x) (sym at) ∙ sym other)
    ∙ ap (λ (x : Option (List ℕ)). cond (eq_by_cmp (slice_cmp nat_cmp) k q) (Some b) x) (sym (get-insert nat_list_cmp_total m p a k))
    ∙ sym (get-insert nat_list_cmp_total (insert m p a) q b k))
