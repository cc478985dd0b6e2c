-- Values and the operand types that they have.
use Rattle.std.proofs.Common.{◌≡◌, ◌≤◌, ◌++◌, ◌∷◌, ◌∙◌, [], ℕ, List, refl, ap, Some, reverse, sym, append_assoc, append-nil, None, subst, length, suc, drop, arith, take}
use Rattle.std.proofs.lemmas.List.{reverse-append, length-reverse}
use Rattle.wz_types.specs.declared.types.ValType.{ValType}
use Rattle.wz_types.specs.declared.value.Value.{Value}
use Rattle.wz_types.proofs.SameTypeLemmas.{same_type-true}
use Rattle.wz_valid_code.specs.Operands.{Operands, pushed, Takes}
use Rattle.wz_valid_code.specs.Context.{TypingContext}
use Rattle.wz_machine.specs.TypedTerms.{as_operands, HaveTypes}
use Rattle.wz_machine.specs.TypedState.{HasType}
use Rattle.wz_machine.proofs.StuckRelations.{Offered, Offers}

-- ---- lists of types

pub as_operands-append : (a b : List ValType) → as_operands (a ++ b) ≡ as_operands a ++ as_operands b
as_operands-append [] b = refl
as_operands-append (t ∷ a) b = ap (λ (x : Operands). Some t ∷ x) (as_operands-append a b)

pub pushed-is : (ts : List ValType) (s : Operands) → pushed ts s ≡ as_operands (reverse ts) ++ s
pushed-is [] s = refl
pushed-is (t ∷ ts) s =
    pushed-is ts (Some t ∷ s) ∙ sym (append_assoc (as_operands (reverse ts)) (Some t ∷ []) s)
    ∙ ap (λ (x : Operands). x ++ s) (sym (as_operands-append (reverse ts) (t ∷ [])))
    ∙ ap (λ (x : List ValType). as_operands x ++ s) (sym (reverse-append (t ∷ []) ts))

pub as_operands-reverse : (ts : List ValType) → as_operands (reverse ts) ≡ pushed ts []
as_operands-reverse ts = sym (pushed-is ts [] ∙ append-nil (as_operands (reverse ts)))

pub pushed-onto : (ts : List ValType) (s : Operands) → pushed ts [] ++ s ≡ pushed ts s
pushed-onto ts s = ap (λ (x : Operands). x ++ s) (pushed-is ts [] ∙ append-nil (as_operands (reverse ts))) ∙ sym (pushed-is ts s)

module _ (context : TypingContext) where
  -- ---- values that stand

  pub stand-append : (a b : List Value) (p q : Operands) → HaveTypes context a p → HaveTypes context b q → HaveTypes context (a ++ b) (p ++ q)
  stand-append [] b [] q h k = k
  stand-append [] b (o ∷ p) q h k = absurd h
  stand-append (v ∷ a) b [] q h k = absurd h
  stand-append (v ∷ a) b (None ∷ p) q h k = absurd h
  stand-append (v ∷ a) b (Some t ∷ p) q h k = (h.0, stand-append a b p q h.1 k)

  -- values of pushed types on others
  pub stand-pushed : (values below : List Value) (ts : List ValType) (s : Operands) → HaveTypes context values (pushed ts []) → HaveTypes context below s
      → HaveTypes context (values ++ below) (pushed ts s)
  stand-pushed values below ts s h k =
      subst (λ (x : Operands). HaveTypes context (values ++ below) x) (pushed-onto ts s) (stand-append values below (pushed ts []) s h k)

  pub stand-length : (values : List Value) (ts : List ValType) → HaveTypes context values (as_operands ts) → length values ≡ length ts
  stand-length [] [] h = refl
  stand-length [] (t ∷ ts) h = absurd h
  stand-length (v ∷ values) [] h = absurd h
  stand-length (v ∷ values) (t ∷ ts) h = ap suc (stand-length values ts h.1)

  pub stand-reverse : (values : List Value) (ts : List ValType) → HaveTypes context values (as_operands ts)
      → HaveTypes context (reverse values) (as_operands (reverse ts))
  stand-reverse [] [] h = tt
  stand-reverse [] (t ∷ ts) h = absurd h
  stand-reverse (v ∷ values) [] h = absurd h
  stand-reverse (v ∷ values) (t ∷ ts) h =
      let e : reverse (v ∷ values) ≡ reverse values ++ v ∷ [] = reverse-append (v ∷ []) values in
      let f : as_operands (reverse (t ∷ ts)) ≡ as_operands (reverse ts) ++ Some t ∷ [] = ap as_operands (reverse-append (t ∷ []) ts) ∙ as_operands-append (reverse ts)
      (t ∷ []) in
      subst (λ (x : List Value). HaveTypes context x (as_operands (reverse (t ∷ ts)))) (sym e)
      (subst (λ (x : Operands). HaveTypes context (reverse values ++ v ∷ []) x) (sym f)
      (stand-append (reverse values) (v ∷ []) (as_operands (reverse ts)) (Some t ∷ []) (stand-reverse values ts h.1) (h.0, tt)))

  -- ---- values that are taken

  -- values of the types that are taken stand on top, and those below stand
  pub stand-taken : (ts : List ValType) (values : List Value) (before below : Operands) → Takes ts before below → HaveTypes context values before
      → Offered context ts values × HaveTypes context (drop (length ts) values) below
  stand-taken [] values before below t h = (tt, subst (λ (x : Operands). HaveTypes context values x) t h)
  stand-taken (a ∷ ts) values [] below t h = absurd t
  stand-taken (a ∷ ts) [] (o ∷ before) below t h = absurd h
  stand-taken (a ∷ ts) (v ∷ values) (None ∷ before) below t h = absurd h
  stand-taken (a ∷ ts) (v ∷ values) (Some q ∷ before) below t h =
      let r = stand-taken ts values before below t.1 h.1 in
      ((subst (λ (x : ValType). HasType context v x) (same_type-true q a t.0) h.0, r.0), r.1)

  pub offered-length : (ts : List ValType) (values : List Value) → Offered context ts values → length ts ≤ length values
  offered-length [] values h = omega arith
  offered-length (t ∷ ts) [] h = absurd h
  offered-length (t ∷ ts) (v ∷ values) h = omega (arith, offered-length ts values h.1)

  pub offered-front : (ts : List ValType) (values : List Value) → Offered context ts values → HaveTypes context (take (length ts) values) (as_operands ts)
  offered-front [] values h = tt
  offered-front (t ∷ ts) [] h = absurd h
  offered-front (t ∷ ts) (v ∷ values) h = (h.0, offered-front ts values h.1)

  -- the same for types in the order of pushing
  pub offers-of : (ts : List ValType) (values : List Value) → Offered context (reverse ts) values → Offers context values ts
  offers-of ts values h = record {
    enough = subst (λ (n : ℕ). n ≤ length values) (length-reverse ts) (offered-length (reverse ts) values h);
    carried = subst (λ (x : Operands). HaveTypes context (take (length ts) values) x) (as_operands-reverse ts)
        (subst (λ (n : ℕ). HaveTypes context (take n values) (as_operands (reverse ts))) (length-reverse ts) (offered-front (reverse ts) values h));
  }
