-- Branches do what their rules say.
use Rattle.std.proofs.Common.{◌≡◌, ◌++◌, ◌∷◌, [], ℕ, List, reverse, slice_get, refl, Option, None, Some, subst, sym, drop, suc, length, zero, take}
use Rattle.std.proofs.lemmas.List.{reverse-append, length-reverse, take-append-drop}
use Rattle.wz_types.specs.declared.types.ValType.{ValType}
use Rattle.wz_types.specs.declared.value.Value.{Value}
use Rattle.wz_types.specs.declared.value.Value.TheVariants.{I32}
use Rattle.wz_types.specs.declared.types.ValType.TheVariants as valtype
use Rattle.wz_valid_code.specs.Context.{Labels}
use Rattle.wz_valid_code.specs.Operands.{Operands, Takes, pushed}
use Rattle.wz_valid_code.specs.Rules.{Leads, rule_from, Stop, Exchange, TakesEach, Choose}
use Rattle.wz_valid_code.specs.Instructions.{labels_at, with_first_label}
use Rattle.wz_machine.specs.State.{State}
use Rattle.wz_machine.specs.TypedState.{IsStateTyped, state_context}
use Rattle.wz_machine.specs.Outcomes.{Jumps}
use Rattle.wz_machine.specs.ControlSteps.{br_if_step, br_table_step, listed_jump}
use Rattle.wz_machine.proofs.StuckRelations.{Have, Offers, OutcomeServes, scope_in, Offered}
use Rattle.wz_machine.proofs.StuckValues.{offers-of, stand-taken, stand-pushed}
use Rattle.wz_machine.proofs.StuckOperands.{take-i32}

module _ (s : State) (typed : IsStateTyped (state_context s) s) (types returns : List ValType) (labels : Labels) where
  -- what a branch takes along is there
  pub offered-label : (asked : List ValType) (values : List Value) (before below : Operands) → Takes (reverse asked) before below
      → Have s values before → Offers (state_context s) values asked
  offered-label asked values before below t st = offers-of (state_context s) asked values (stand-taken (state_context s) (reverse asked) values before below t st).0

  pub branch-serves : (label : ℕ) (values : List Value) (before next : Operands) → Leads (rule_from (slice_get labels label) (λ asked. Stop asked)) before next
      → Have s values before → OutcomeServes s (scope_in s types returns) labels next (Jumps label values)
  branch-serves label values before next h st = by (slice_get labels label) refl h
    where
      by : (o : Option (List ValType)) → slice_get labels label ≡ o → Leads (rule_from o (λ asked. Stop asked)) before next
          → OutcomeServes s (scope_in s types returns) labels next (Jumps label values)
      by None is l = absurd l
      by (Some asked) is (below, takes) = (asked, is, offered-label asked values before below takes st)

  pub branch_if-serves : (label : ℕ) (values : List Value) (before next : Operands)
      → Leads (rule_from (slice_get labels label) (λ asked. Exchange (asked ++ valtype.I32 ∷ []) asked)) before next → Have s values before
      → OutcomeServes s (scope_in s types returns) labels next (br_if_step label values)
  branch_if-serves label values before next h st = by (slice_get labels label) refl h
    where
      by : (o : Option (List ValType)) → slice_get labels label ≡ o → Leads (rule_from o (λ asked. Exchange (asked ++ valtype.I32 ∷ []) asked)) before next
          → OutcomeServes s (scope_in s types returns) labels next (br_if_step label values)
      by None is l = absurd l
      by (Some asked) is (below, takes, leads) =
          let on : reverse (asked ++ valtype.I32 ∷ []) ≡ valtype.I32 ∷ reverse asked = reverse-append asked (valtype.I32 ∷ []) in
          let r = stand-taken (state_context s) (valtype.I32 ∷ reverse asked) values before below (subst (λ (x : List ValType). Takes x before below) on takes) st in
          subst (λ (x : Operands). OutcomeServes s (scope_in s types returns) labels x (br_if_step label values)) (sym leads)
          (take-i32 (state_context s) (λ vs. Have s (drop (suc (length (reverse asked))) vs) below
          → OutcomeServes s (scope_in s types returns) labels (pushed asked below) (br_if_step label vs)) (reverse asked)
          (λ bits vs fit off st. on-bits bits vs off st) values r.0 r.1)
        where
          on-bits : (bits : ℕ) (vs : List Value) → Offered (state_context s) (reverse asked) vs → Have s (drop (length (reverse asked)) vs) below
              → OutcomeServes s (scope_in s types returns) labels (pushed asked below) (br_if_step label (I32 bits ∷ vs))
          on-bits zero vs off st =
              let offers = offers-of (state_context s) asked vs off in
              let left = subst (λ (k : ℕ). Have s (drop k vs) below) (length-reverse asked) st in (
                tt,
                subst (λ (x : List Value). Have s x (pushed asked below)) (take-append-drop (length asked) vs)
                    (stand-pushed (state_context s) (take (length asked) vs) (drop (length asked) vs) asked below offers.carried left),
              )
          on-bits (suc n) vs off st = (asked, is, offers-of (state_context s) asked vs off)

  -- each of these labels is there, and what a branch to it takes along stands on the stack
  labels-offer : (numbers : List ℕ) (lists : List (List ValType)) (values : List Value) (below : Operands) → labels_at labels numbers ≡ Some lists → TakesEach lists below
      → Have s values below → (at label : ℕ) → slice_get numbers at ≡ Some label → (asked : List ValType) × (slice_get labels label ≡ Some asked)
      × Offers (state_context s) values asked
  labels-offer [] lists values below found each st at label e = absurd (cc e)
  labels-offer (first ∷ others) lists values below found each st at label e =
      by (slice_get labels first) (labels_at labels others) refl refl found at e (λ more rest each at e. labels-offer others more values below rest each st at label e)
    where
      by : (o : Option (List ValType)) (p : Option (List (List ValType))) → slice_get labels first ≡ o → labels_at labels others ≡ p → with_first_label o p ≡ Some lists
          → (at : ℕ) → slice_get (first ∷ others) at ≡ Some label
          → ((more : List (List ValType)) → labels_at labels others ≡ Some more → TakesEach more below → (at : ℕ) → slice_get others at ≡ Some label
          → (asked : List ValType) × (slice_get labels label ≡ Some asked) × Offers (state_context s) values asked)
          → (asked : List ValType) × (slice_get labels label ≡ Some asked) × Offers (state_context s) values asked
      by None p is rest both at e more = absurd (cc both)
      by (Some asked) None is rest both at e more = absurd (cc both)
      by (Some asked) (Some tail) is rest both zero e more =
          let same_list : lists ≡ asked ∷ tail = cc in
          let taken = subst (λ (x : List (List ValType)). TakesEach x below) same_list each in
          let same_label : first ≡ label = cc in
          (asked, subst (λ (n : ℕ). slice_get labels n ≡ Some asked) same_label is, offered-label asked values below taken.0.0 taken.0.1 st)
      by (Some asked) (Some tail) is rest both (suc at) e more =
          let same_list : lists ≡ asked ∷ tail = cc in
          let taken = subst (λ (x : List (List ValType)). TakesEach x below) same_list each in
          more tail rest taken.1 at e

  pub table_branch-serves : (numbers : List ℕ) (last : ℕ) (values : List Value) (before next : Operands)
      → Leads (rule_from (labels_at labels (last ∷ numbers)) (λ lists. Choose lists)) before next → Have s values before
      → OutcomeServes s (scope_in s types returns) labels next (br_table_step numbers last values)
  table_branch-serves numbers last values before next h st = by (labels_at labels (last ∷ numbers)) refl h
    where
      by : (o : Option (List (List ValType))) → labels_at labels (last ∷ numbers) ≡ o → Leads (rule_from o (λ lists. Choose lists)) before next
          → OutcomeServes s (scope_in s types returns) labels next (br_table_step numbers last values)
      by None is l = absurd l
      by (Some lists) is (below, takes, each, long) =
          let r = stand-taken (state_context s) (valtype.I32 ∷ []) values before below takes st in
          take-i32 (state_context s) (λ vs. Have s (drop 1 vs) below → OutcomeServes s (scope_in s types returns) labels next (br_table_step numbers last vs)) []
          (λ bits vs fit off st. at-bits vs st bits (slice_get numbers bits) refl) values r.0 r.1
        where
          at-bits : (vs : List Value) → Have s vs below → (bits : ℕ) (o : Option ℕ) → slice_get numbers bits ≡ o
              → OutcomeServes s (scope_in s types returns) labels next (listed_jump o last vs)
          at-bits vs st bits None e = labels-offer (last ∷ numbers) lists vs below is each st zero last refl
          at-bits vs st bits (Some label) e = labels-offer (last ∷ numbers) lists vs below is each st (suc bits) label e
