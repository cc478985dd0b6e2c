-- What a br_table's rule makes of the stack, where its labels are looked up one by one.
use Rattle.std.proofs.Common.{◌≡◌, ℕ, List, [], ◌∷◌, Option, Some, None, Bool, true, false, reverse, length, slice_get, refl, ap, sym, ◌∙◌, if◌then◌else◌, ◌==◌}
use Rattle.std.specs.Prelude.{is_some}
use Rattle.std.proofs.lemmas.Bool.{eq-eqb}
use Rattle.wz_types.specs.declared.types.ValType.{ValType}
use Rattle.wz_types.specs.declared.types.ValType.TheVariants.{I32}
use Rattle.wz_valid_code.specs.Operands.{Operands}
use Rattle.wz_valid_code.specs.Rules.{Choose, rule_from}
use Rattle.wz_valid_code.specs.Context.{Labels}
use Rattle.wz_valid_code.specs.Instructions.{labels_at, with_first_label}
use Rattle.wz_valid_code.specs.Checking.{after_taking, each_taken, each_offered, offered_at, then_choose, left_with, after_rule}

offered-some : (labels : Labels) (ns : List ℕ) (n : ℕ) (ks : Operands) (dead : Bool) (ls : List (List ValType)) → labels_at labels ns ≡ Some ls
    → each_offered labels ns n ks dead ≡ each_taken n ls ks dead
offered-some labels [] n ks dead ls e = let none : [] ≡ ls = cc in ap (λ x. each_taken n x ks dead) none
offered-some labels (l ∷ ns) n ks dead ls e = one (slice_get labels l) (labels_at labels ns) (each_offered labels ns n ks dead) ls
    (λ others e. offered-some labels ns n ks dead others e) e
  where
    one : (o : Option (List ValType)) (os : Option (List (List ValType))) (b : Bool) (ls : List (List ValType))
        → ((others : List (List ValType)) → os ≡ Some others → b ≡ each_taken n others ks dead) → with_first_label o os ≡ Some ls → offered_at o n ks dead b
        ≡ each_taken n ls ks dead
    one None os b ls same e = absurd (cc)
    one (Some t) None b ls same e = absurd (cc)
    one (Some t) (Some ts) b ls same e =
        let is : t ∷ ts ≡ ls = cc in
        ap (λ x. offered_at (Some t) n ks dead x) (same ts refl) ∙ ap (λ x. each_taken n x ks dead) is

both-false : (a b : Bool) → (if a then (if b then false else false) else false) ≡ false
both-false true true = refl
both-false true false = refl
both-false false b = refl

offered-none : (labels : Labels) (ns : List ℕ) (n : ℕ) (ks : Operands) (dead : Bool) → labels_at labels ns ≡ None → each_offered labels ns n ks dead ≡ false
offered-none labels [] n ks dead e = absurd (cc)
offered-none labels (l ∷ ns) n ks dead e = one (slice_get labels l) (labels_at labels ns) (each_offered labels ns n ks dead) (λ e. offered-none labels ns n ks dead e) e
  where
    one : (o : Option (List ValType)) (os : Option (List (List ValType))) (b : Bool) → (os ≡ None → b ≡ false) → with_first_label o os ≡ None → offered_at o n ks dead b ≡ false
    one None os b same e = refl
    one (Some t) None b same e = ap (λ x. offered_at (Some t) n ks dead x) (same refl) ∙ both-false (length t == n) (is_some (after_taking (reverse t) ks dead))
    one (Some t) (Some ts) b same e = absurd (cc)

-- what a br_table's rule gives, where its last label is there and could take its values
pub choose-after : (labels : Labels) (last : ℕ) (ns : List ℕ) (l : List ValType) (ks left : Operands) (dead b : Bool) → slice_get labels last ≡ Some l
    → after_taking (I32 ∷ []) ks dead ≡ Some left → is_some (after_taking (reverse l) left dead) ≡ true → each_offered labels ns (length l) left dead ≡ b
    → after_rule (rule_from (labels_at labels (last ∷ ns)) (λ ls. Choose ls)) ks dead ≡ (if b then left_with [] true else None)
choose-after labels last ns l ks left dead b here one offers e =
    ap (λ o. after_rule (rule_from (with_first_label o (labels_at labels ns)) (λ ls. Choose ls)) ks dead) here ∙ by (labels_at labels ns) refl
  where
    by : (os : Option (List (List ValType))) → labels_at labels ns ≡ os → after_rule (rule_from (with_first_label (Some l) os) (λ ls. Choose ls)) ks dead
        ≡ (if b then left_with [] true else None)
    by None is = ap (λ x. if x then left_with [] true else None) (sym (offered-none labels ns (length l) left dead is) ∙ e)
    by (Some ls) is =
        ap (then_choose (l ∷ ls) dead) one
        ∙ ap (λ x. if (if x then (if is_some (after_taking (reverse l) left dead) then each_taken (length l) ls left dead else false) else false) then left_with [] true else
        None) (eq-eqb (length l) (length l) refl)
        ∙ ap (λ x. if (if x then each_taken (length l) ls left dead else false) then left_with [] true else None) offers
        ∙ ap (λ x. if x then left_with [] true else None) (sym (offered-some labels ns (length l) left dead ls is) ∙ e)

pub choose-after-later : (labels : Labels) (last : ℕ) (ns : List ℕ) (l : List ValType) (ks left : Operands) (dead later b : Bool) → later ≡ dead → slice_get labels last
    ≡ Some l → after_taking (I32 ∷ []) ks dead ≡ Some left → is_some (after_taking (reverse l) left later) ≡ true → each_offered labels ns (length l) left later ≡ b
    → after_rule (rule_from (labels_at labels (last ∷ ns)) (λ ls. Choose ls)) ks dead ≡ (if b then left_with [] true else None)
choose-after-later labels last ns l ks left dead later b same here one offers e =
    choose-after labels last ns l ks left dead b here one (rw same at offers) (rw same at e)
