-- One block, from its first instruction to its end: the checker's stack and the relation's, in both directions.
use Rattle.std.proofs.Common.{◌≡◌, List, [], ◌∷◌, Some, None, Bool, true, false, IsTrue, ◌↔◌, MatchBool, reverse, refl, ap, subst, ◌∙◌}
use Rattle.wz_types.specs.declared.types.ValType.{ValType}
use Rattle.wz_valid_code.specs.Operands.{Operands, pushed}
use Rattle.wz_valid_code.specs.Rules.{Rule, Lead}
use Rattle.wz_valid_code.specs.Checking.{Known, after_taking, after_rule}
use Rattle.wz_valid_code.proofs.StackLemmas.{Stands, after_rule-complete, after_rule-sound, after_taking-complete, after_taking-sound, pushed-stands, pushed-under}

-- from some stack that the checker's stands for, the rest leads to the results
abbrev pub Can : Bool → Known → List Rule → List ValType → Type 0
Can least k rest results = (s : Operands) × Stands least k.items k.dead s × Lead rest s results

-- the rest leads on from the checker's stack exactly where the whole does
pub record Walked (whole rest : List Rule) (start : Operands) (results : List ValType) (k : Known) : Type 0 where
  pub complete : Lead whole start results → Can false k rest results
  pub sound : Can true k rest results → Lead whole start results

start-is : (before : List ValType) (s : Operands) → Stands true (pushed before []) false s → s ≡ pushed before []
start-is before s h = let r = pushed-under true before [] false s h in r.1 ∙ ap (pushed before) r.2

pub walk-start : (whole : List Rule) (before results : List ValType) → Walked whole whole (pushed before []) results (record { items = pushed before []; dead = false })
walk-start whole before results = record {
  complete = λ f. (pushed before [], pushed-stands false before [] false [] refl, f);
  sound = λ can. (let P : Operands → Type 0 = λ x. Lead whole x results in subst P (start-is before can.0 can.1) can.2);
}

pub walk-step : (whole : List Rule) (rule : Rule) (rules : List Rule) (start : Operands) (results : List ValType) (k new : Known) → Walked whole (rule ∷ rules) start results k
    → after_rule rule k.items k.dead ≡ Some new → Walked whole rules start results new
walk-step whole rule rules start results k new w e = record {
  complete = λ f.
      let can = w.complete f in
      let r = after_rule-complete rule k.items k.dead can.0 can.2.0 can.1 can.2.1 in
      let one : r.0 ≡ new = cc (r.1, e) in
      let P : Known → Type 0 = λ x. Stands false x.items x.dead can.2.0 in
      (can.2.0, subst P one r.2, can.2.2);
  sound = λ can.
      let r = after_rule-sound rule k.items k.dead new can.0 e can.1 in
      w.sound (r.0, r.1, (can.0, r.2, can.2));
}

pub walk-stuck : (whole : List Rule) (rule : Rule) (rules : List Rule) (start : Operands) (results : List ValType) (k : Known) → Walked whole (rule ∷ rules) start results k
    → after_rule rule k.items k.dead ≡ None → Lead whole start results → ⊥
walk-stuck whole rule rules start results k w e f =
    let can = w.complete f in
    let r = after_rule-complete rule k.items k.dead can.0 can.2.0 can.1 can.2.1 in
    cc (r.1, e)

pub walk-ends : (whole : List Rule) (start : Operands) (results : List ValType) (k : Known) → Walked whole [] start results k → after_taking (reverse results) k.items k.dead
    ≡ Some [] → Lead whole start results
walk-ends whole start results k w e =
    let r = after_taking-sound true (reverse results) k.items [] k.dead [] e (nothing k.dead) in
    w.sound (r.0, r.1, r.2)
  where
    nothing : (dead : Bool) → Stands true [] dead []
    nothing true = tt
    nothing false = refl

pub walk-short : (whole : List Rule) (start : Operands) (results : List ValType) (k : Known) → Walked whole [] start results k
    → ((left : Operands) → after_taking (reverse results) k.items k.dead ≡ Some left → left ≡ [] → ⊥) → Lead whole start results → ⊥
walk-short whole start results k w short f =
    let can = w.complete f in
    let r = after_taking-complete false (reverse results) k.items k.dead can.0 [] can.1 can.2 in
    short r.0 r.1 (empty r.0 k.dead r.2)
  where
    empty : (left : Operands) (dead : Bool) → Stands false left dead [] → left ≡ []
    empty [] dead h = refl
    empty (q ∷ left) dead h = absurd h

pub walk-over : (whole : List Rule) (start : Operands) (results : List ValType) (k : Known) (left : Operands) (b : Bool) → Walked whole [] start results k
    → after_taking (reverse results) k.items k.dead ≡ Some left → IsTrue b ↔ (left ≡ []) → MatchBool b (Lead whole start results) (Lead whole start results → ⊥)
walk-over whole start results k left true w e h = walk-ends whole start results k w (e ∙ ap (λ (x : Operands). Some x) (h.0 refl))
walk-over whole start results k left false w e h = walk-short whole start results k w
    (λ other e' none. let one : left ≡ other = cc in let wrong : IsTrue false = h.1 (one ∙ none) in absurd (cc))
