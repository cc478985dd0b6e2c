-- Numeric, reference, parametric and variable instructions do what their rules say.
use Rattle.std.proofs.Common.{◌≡◌, ◌<◌, ◌^◌, ◌∷◌, ◌&&◌, [], ℕ, if◌then◌else◌, drop, refl, List, Option, length, slice_get, Some, arith, zero, suc, IsTrue, is_some, map, subst, slice_set, sym, nat_lt, None, true, reverse, option_to_list, lt-ltb, Bool, false, option_map}
use Rattle.std.proofs.lemmas.Bool.{and_parts}
use Rattle.std.proofs.lemmas.Option.{slice_get_within, slice_get-map}
use Rattle.std.proofs.lemmas.List.{length-map}
use Rattle.wz_types.specs.declared.value.Value.{Value}
use Rattle.wz_types.specs.declared.value.Value.TheVariants.{I32, Ref}
use Rattle.wz_types.specs.declared.types.ValType.{ValType}
use Rattle.wz_types.specs.Fits.{all_fit, value_fits, type_of_kind}
use Rattle.wz_types.proofs.SameTypeLemmas.{and-intro, same_type-true}
use Rattle.wz_types.specs.declared.value.Reference.{Reference}
use Rattle.wz_types.specs.declared.value.Reference.TheVariants.{Null, Fn, Foreign}
use Rattle.wz_types.specs.declared.types.RefKind.{RefKind}
use Rattle.wz_types.specs.declared.types.GlobalType.{GlobalType}
use Rattle.wz_types.specs.declared.types.ValType.TheVariants as valtype
use Rattle.wz_types.specs.declared.types.RefKind.TheVariants as kind
use Rattle.wz_code.specs.declared.numeric.NumOp.{NumOp}
use Rattle.wz_code.specs.Numeric.{types_of}
use Rattle.wz_code.specs.References.{has_number}
use Rattle.wz_num.specs.declared.answer.NumAnswer.{NumAnswer}
use Rattle.wz_num.specs.Laws.{AnswerServes, NumbersServe, listed_types}
use Rattle.wz_num.specs.Number.{number}
use Rattle.wz_num.specs.declared.answer.NumAnswer.TheVariants as answer
use Rattle.wz_valid_code.specs.Context.{TypingContext, may_refer, type_to_set, Labels}
use Rattle.wz_valid_code.specs.Operands.{Operands, Takes, Operand, fits, Becomes, is_reference}
use Rattle.wz_valid_code.specs.Rules.{Leads, Exchange, DropOne, rule_if, Rule, rule_from}
use Rattle.wz_valid_code.specs.Instructions.{constant_of, operation_rule}
use Rattle.wz_store.specs.Changes.{Nothing, SetGlobal}
use Rattle.wz_store.specs.State.{Global}
use Rattle.wz_machine.specs.TypedState.{HasType, IsStateTyped, state_context}
use Rattle.wz_machine.specs.TypedTerms.{HaveTypes, as_operands}
use Rattle.wz_machine.specs.State.{State, FunctionInstance}
use Rattle.wz_machine.specs.Outcomes.{Yields, Effect, HasNoRule}
use Rattle.wz_machine.specs.NumericSteps.{const_step, result_effect, operation_step}
use Rattle.wz_machine.specs.ParametricSteps.{drop_step, select_step}
use Rattle.wz_machine.specs.ReferenceSteps.{ref_is_null_step, ref_func_step}
use Rattle.wz_machine.specs.VariableSteps.{global_set_step, local_get_step, local_set_step, local_tee_step}
use Rattle.wz_machine.proofs.StuckOperands.{take-i32, Serves, by-rule, take-ref, if-true}
use Rattle.wz_machine.proofs.StuckRelations.{Have, EffectServes, Offered, OutcomeServes, scope_in}
use Rattle.wz_machine.proofs.TypedLemmas.{if-passed}
use Rattle.wz_machine.proofs.StuckValues.{stand-taken}

-- a value of type i32
i32-of : (context : TypingContext) (value : Value) → HasType context value valtype.I32 → (bits : ℕ) × (value ≡ I32 bits)
i32-of context value h =
    let r = take-i32 context (λ values. (bits : ℕ) × (values ≡ I32 bits ∷ drop 1 values)) [] (λ bits values lt off. (bits, refl)) (value ∷ []) (h, tt) in
    let e = r.1 in (r.0, cc)

-- ---- items that are there

pub item-cases : {A : Type 0} (xs : List A) (i : ℕ) (P : Option A → Type 0) → i < length xs → ((x : A) → slice_get xs i ≡ Some x → P (Some x)) → P (slice_get xs i)
item-cases [] i P h use_it = absurd (omega arith)
item-cases (x ∷ xs) zero P h use_it = use_it x refl
item-cases (x ∷ xs) (suc i) P h use_it = item-cases xs i P (omega arith) use_it

-- an item of which a view is there
pub view-cases : {X Y : Type 0} (view : X → Y) (xs : List X) (i : ℕ) (P : Option X → Type 0) → IsTrue (is_some (slice_get (map view xs) i))
    → ((x : X) → slice_get xs i ≡ Some x → P (Some x)) → P (slice_get xs i)
view-cases view [] i P h use_it = absurd (cc h)
view-cases view (x ∷ xs) zero P h use_it = use_it x refl
view-cases view (x ∷ xs) (suc i) P h use_it = view-cases view xs i P h use_it

-- ---- locals

module _ (context : TypingContext) where
  stand-get : (values : List Value) (types : List ValType) (i : ℕ) (type : ValType) → HaveTypes context values (as_operands types) → slice_get types i ≡ Some type
      → (value : Value) × (slice_get values i ≡ Some value) × HasType context value type
  stand-get [] [] i type h e = absurd (cc e)
  stand-get [] (t ∷ types) i type h e = absurd h
  stand-get (v ∷ values) [] i type h e = absurd h
  stand-get (v ∷ values) (t ∷ types) zero type h e = (v, refl, subst (λ (x : ValType). HasType context v x) (cc e) h.0)
  stand-get (v ∷ values) (t ∷ types) (suc i) type h e = stand-get values types i type h.1 e

  stand-set : (values : List Value) (types : List ValType) (i : ℕ) (type : ValType) (value : Value) → HaveTypes context values (as_operands types)
      → slice_get types i ≡ Some type → HasType context value type → HaveTypes context (slice_set values i value) (as_operands types)
  stand-set [] [] i type value h e fit = absurd (cc e)
  stand-set [] (t ∷ types) i type value h e fit = absurd h
  stand-set (v ∷ values) [] i type value h e fit = absurd h
  stand-set (v ∷ values) (t ∷ types) zero type value h e fit = (subst (λ (x : ValType). HasType context value x) (sym (cc e)) fit, h.1)
  stand-set (v ∷ values) (t ∷ types) (suc i) type value h e fit = (h.0, stand-set values types i type value h.1 e fit)

module _ (s : State) (typed : IsStateTyped (state_context s) s) where
  -- ---- numeric instructions

  pub push-serves : (value : Value) (type : ValType) → HasType (state_context s) value type → Serves s (λ vs. Yields Nothing (value ∷ vs)) [] (type ∷ [])
  push-serves value type fit values below off st = (tt, (fit, st))

  pub const-serves : (value : Value) (type : ValType) (width bits : ℕ) (values : List Value) (before next : Operands)
      → (IsTrue (nat_lt bits (2 ^ width)) → HasType (state_context s) value type)
      → Leads (constant_of type width bits) before next → Have s values before → EffectServes s next (const_step value values)
  const-serves value type width bits values before next fit h st =
      let r = if-passed (nat_lt bits (2 ^ width)) (Exchange [] (type ∷ [])) before next h in
      by-rule s (λ vs. Yields Nothing (value ∷ vs)) [] (type ∷ []) values before next (push-serves value type (fit r.0)) r.1 st

  result-serves : (op : NumOp) (operands values : List Value) (below : Operands) (n : NumAnswer)
      → AnswerServes (types_of op).result (length (state_context s).functions) (length (state_context s).types) n → Have s values below
      → EffectServes s (Some (types_of op).result ∷ below) (result_effect op operands values n)
  result-serves op operands values below (answer.Gives value) h st = (tt, (h, st))
  result-serves op operands values below (answer.Trap kind) h st = tt
  result-serves op operands values below answer.Ask h st = (below, st, refl, tt)
  result-serves op operands values below answer.Stuck h st = absurd h

  -- operands that fit the operation's first type, and the second one where there is one
  abbrev AllFit : NumOp → List Value → Option ValType → Type 0
  AllFit op operands second = IsTrue (all_fit operands (listed_types (types_of op).first second) (length (state_context s).functions) (length (state_context s).types))

  pub operation-serves : NumbersServe → (op : NumOp) (values : List Value) (before next : Operands) → Leads (operation_rule (types_of op)) before next
      → Have s values before → EffectServes s next (operation_step op (types_of op).second values)
  operation-serves numbers op values before next (below, t, is) st = by (types_of op).second refl t
    where
      one : (types_of op).second ≡ None → (values : List Value) → Offered (state_context s) ((types_of op).first ∷ []) values → Have s (drop 1 values) below
          → EffectServes s (Some (types_of op).result ∷ below) (operation_step op None values)
      one same [] off st = absurd off
      one same (a ∷ values) off st =
          result-serves op (a ∷ []) values below (number op (a ∷ []))
          (numbers op (a ∷ []) (length (state_context s).functions) (length (state_context s).types)
          (subst (λ (o : Option ValType). AllFit op (a ∷ []) o) (sym same)
          (and-intro (value_fits a (types_of op).first (length (state_context s).functions) (length (state_context s).types)) true off.0 refl))) st

      two : (type : ValType) → (types_of op).second ≡ Some type → (values : List Value) → Offered (state_context s) (type ∷ (types_of op).first ∷ []) values
          → Have s (drop 2 values) below → EffectServes s (Some (types_of op).result ∷ below) (operation_step op (Some type) values)
      two type same [] off st = absurd off
      two type same (b ∷ []) off st = absurd off.1
      two type same (b ∷ a ∷ values) off st =
          result-serves op (a ∷ b ∷ []) values below (number op (a ∷ b ∷ []))
          (numbers op (a ∷ b ∷ []) (length (state_context s).functions) (length (state_context s).types)
          (subst (λ (o : Option ValType). AllFit op (a ∷ b ∷ []) o) (sym same)
          (and-intro (value_fits a (types_of op).first (length (state_context s).functions) (length (state_context s).types))
          (value_fits b type (length (state_context s).functions) (length (state_context s).types) && true) off.1.0
          (and-intro (value_fits b type (length (state_context s).functions) (length (state_context s).types)) true off.0 refl)))) st

      by : (second : Option ValType) → (types_of op).second ≡ second → Takes (reverse ((types_of op).first ∷ option_to_list second)) before below
          → EffectServes s next (operation_step op second values)
      by None same t =
          let r = stand-taken (state_context s) ((types_of op).first ∷ []) values before below t st in
          subst (λ (x : Operands). EffectServes s x (operation_step op None values)) (sym is) (one same values r.0 r.1)
      by (Some type) same t =
          let r = stand-taken (state_context s) (type ∷ (types_of op).first ∷ []) values before below t st in
          subst (λ (x : Operands). EffectServes s x (operation_step op (Some type) values)) (sym is) (two type same values r.0 r.1)

  -- ---- parametric instructions

  pub drop-serves : (values : List Value) (before next : Operands) → Leads DropOne before next → Have s values before → EffectServes s next (drop_step values)
  drop-serves [] before next (operand, is) st = absurd (subst (λ (x : Operands). Have s [] x) is st)
  drop-serves (value ∷ values) before next (operand, is) st = by operand (subst (λ (x : Operands). Have s (value ∷ values) x) is st)
    where
      by : (operand : Operand) → Have s (value ∷ values) (operand ∷ next) → EffectServes s next (drop_step (value ∷ values))
      by None st = absurd st
      by (Some type) st = (tt, st.1)

  picked-serves : (c b a : Value) (values : List Value) (result : Operand) (below : Operands) → HasType (state_context s) c valtype.I32
      → Have s (b ∷ values) (result ∷ below) → Have s (a ∷ values) (result ∷ below) → EffectServes s (result ∷ below) (select_step (c ∷ b ∷ a ∷ values))
  picked-serves c b a values result below fit second first =
      let r = i32-of (state_context s) c fit in subst (λ (x : Value). EffectServes s (result ∷ below) (select_step (x ∷ b ∷ a ∷ values))) (sym r.1) (by r.0)
    where
      by : (bits : ℕ) → EffectServes s (result ∷ below) (select_step (I32 bits ∷ b ∷ a ∷ values))
      by zero = (tt, second)
      by (suc n) = (tt, first)

  pub select-serves : (values : List Value) (condition second first result : Operand) (below : Operands) → Have s values (condition ∷ second ∷ first ∷ below)
      → IsTrue (fits condition valtype.I32) → Becomes second result → Becomes first result → EffectServes s (result ∷ below) (select_step values)
  select-serves (c ∷ b ∷ a ∷ values) (Some tc) (Some tb) (Some ta) result below (hc, (hb, (ha, st))) fit two one =
      picked-serves c b a values result below (subst (λ (x : ValType). HasType (state_context s) c x) (same_type-true tc valtype.I32 fit) hc)
      (subst (λ (o : Operand). Have s (b ∷ values) (o ∷ below)) (sym two) (hb, st))
      (subst (λ (o : Operand). Have s (a ∷ values) (o ∷ below)) (sym one) (ha, st))
  select-serves [] condition second first result below st fit two one = absurd st
  select-serves (c ∷ values) None second first result below st fit two one = absurd st
  select-serves (c ∷ []) (Some tc) second first result below st fit two one = absurd st.1
  select-serves (c ∷ b ∷ values) (Some tc) None first result below st fit two one = absurd st.1
  select-serves (c ∷ b ∷ []) (Some tc) (Some tb) first result below st fit two one = absurd st.1.1
  select-serves (c ∷ b ∷ a ∷ values) (Some tc) (Some tb) None result below st fit two one = absurd st.1.1

  pub typed_select-serves : (type : ValType) → Serves s (λ vs. select_step vs) (type ∷ type ∷ valtype.I32 ∷ []) (type ∷ [])
  typed_select-serves type [] below off st = absurd off
  typed_select-serves type (c ∷ []) below off st = absurd off.1
  typed_select-serves type (c ∷ b ∷ []) below off st = absurd off.1.1
  typed_select-serves type (c ∷ b ∷ a ∷ values) below off st = picked-serves c b a values (Some type) below off.0 (off.1.0, st) (off.1.1.0, st)

  -- ---- reference instructions

  null-test : (reference : Reference) (values : List Value) (below : Operands) → Have s values below
      → EffectServes s (Some valtype.I32 ∷ below) (ref_is_null_step (Ref reference ∷ values))
  null-test (Null kind) values below st = (tt, (refl, st))
  null-test (Fn index) values below st = (tt, (refl, st))
  null-test (Foreign id sort) values below st = (tt, (refl, st))

  tested-serves : (type : ValType) (values : List Value) (below : Operands) → Have s values (Some type ∷ below) → IsTrue (is_reference (Some type))
      → EffectServes s (Some valtype.I32 ∷ below) (ref_is_null_step values)
  tested-serves type [] below st h = absurd st
  tested-serves valtype.FuncRef (value ∷ values) below st h =
      take-ref (state_context s) (λ vs. Have s (drop 1 vs) below → EffectServes s (Some valtype.I32 ∷ below) (ref_is_null_step vs)) kind.Func []
      (λ reference vs fit off st. null-test reference vs below st) (value ∷ values) (st.0, tt) st.1
  tested-serves valtype.ExternRef (value ∷ values) below st h =
      take-ref (state_context s) (λ vs. Have s (drop 1 vs) below → EffectServes s (Some valtype.I32 ∷ below) (ref_is_null_step vs)) kind.Extern []
      (λ reference vs fit off st. null-test reference vs below st) (value ∷ values) (st.0, tt) st.1
  tested-serves type (value ∷ values) below st h = absurd (cc h)

  pub is_null-serves : (values : List Value) (operand : Operand) (below : Operands) → Have s values (operand ∷ below) → IsTrue (is_reference operand)
      → EffectServes s (Some valtype.I32 ∷ below) (ref_is_null_step values)
  is_null-serves [] operand below st h = absurd st
  is_null-serves (value ∷ values) None below st h = absurd st
  is_null-serves (value ∷ values) (Some type) below st h = tested-serves type (value ∷ values) below st h

  pub null-of : (kind : RefKind) → HasType (state_context s) (Ref (Null kind)) (type_of_kind kind)
  null-of kind.Func = refl
  null-of kind.Extern = refl

  pub ref_func-serves : (index : ℕ) (values : List Value) (before next : Operands)
      → Leads (rule_if (may_refer (state_context s) index) (Exchange [] (valtype.FuncRef ∷ []))) before next
      → Have s values before → EffectServes s next (ref_func_step index (slice_get s.functions index) values)
  ref_func-serves index values before next h st =
      let r = if-passed (may_refer (state_context s) index) (Exchange [] (valtype.FuncRef ∷ [])) before next h in
      let p = and_parts (is_some (slice_get (state_context s).functions index)) (has_number index (state_context s).declared) r.0 in
      view-cases (λ (f : FunctionInstance). f.signature) s.functions index (λ o. EffectServes s next (ref_func_step index o values)) p.0
      (λ f is. let there : index < length s.functions = slice_get_within s.functions index f is in
      let long = length-map s.functions (λ (f : FunctionInstance). f.signature) in
      by-rule s (λ vs. Yields Nothing (Ref (Fn index) ∷ vs)) [] (valtype.FuncRef ∷ []) values before next
      (push-serves (Ref (Fn index)) valtype.FuncRef (lt-ltb index (length (state_context s).functions) (omega (arith, there, long)))) r.1 st)

  -- ---- globals

  -- a value that fits by the numbers of the context fits by those of the state
  fits-counts : (value : Value) (type : ValType) → HasType (state_context s) value type → value_fits value type (length s.functions) (length s.types) ≡ true
  fits-counts value type h = subst (λ (n : ℕ). value_fits value type n (length s.types) ≡ true) (length-map s.functions (λ function. function.signature)) h

  set-serves : (index : ℕ) (global : Global) → slice_get s.globals index ≡ Some global
      → Serves s (λ vs. global_set_step (length s.functions) (length s.types) index (Some global) vs) (global.type.value ∷ []) []
  set-serves index global is [] below off st = absurd off
  set-serves index global is (value ∷ values) below off st =
      if-true (λ (e : Effect). EffectServes s below e) (value_fits value global.type.value (length s.functions) (length s.types))
      (Yields (SetGlobal index value) values) HasNoRule
      (fits-counts value global.type.value off.0)
      ((λ other is_other. let e : global ≡ other = cc in subst (λ (g : Global). HasType (state_context s) value g.type.value) e off.0), st)

  set-if : (mutable : Bool) (type : ValType) (R : ValType → Rule) (before next : Operands) → Leads (rule_from (if mutable then Some type else None) R) before next
      → Leads (R type) before next
  set-if true type R before next h = h
  set-if false type R before next h = absurd h

  pub global_set-serves : (index : ℕ) (values : List Value) (before next : Operands)
      → Leads (rule_from (type_to_set (slice_get (state_context s).globals index)) (λ type. Exchange (type ∷ []) [])) before next → Have s values before
      → EffectServes s next (global_set_step (length s.functions) (length s.types) index (slice_get s.globals index) values)
  global_set-serves index values before next h st =
      by (slice_get s.globals index) refl
      (subst (λ (o : Option GlobalType). Leads (rule_from (type_to_set o) (λ type. Exchange (type ∷ []) [])) before next)
      (slice_get-map (λ (global : Global). global.type) s.globals index) h)
    where
      by : (o : Option Global) → slice_get s.globals index ≡ o
          → Leads (rule_from (type_to_set (option_map (λ (global : Global). global.type) o)) (λ type. Exchange (type ∷ []) [])) before next
          → EffectServes s next (global_set_step (length s.functions) (length s.types) index o values)
      by None is l = absurd l
      by (Some global) is l =
          by-rule s (λ vs. global_set_step (length s.functions) (length s.types) index (Some global) vs) (global.type.value ∷ []) [] values before next
          (set-serves index global is)
          (set-if global.type.mutable global.type.value (λ type. Exchange (type ∷ []) []) before next l) st

  -- ---- locals

  module _ (types returns : List ValType) (labels : Labels) (locals : List Value) (stands : Have s locals (as_operands types)) where
    pub get-serves : (index : ℕ) (values : List Value) (before next : Operands) → Leads (rule_from (slice_get types index) (λ type. Exchange [] (type ∷ []))) before next
        → Have s values before → EffectServes s next (local_get_step (slice_get locals index) values)
    get-serves index values before next h st = by (slice_get types index) refl h
      where
        by : (o : Option ValType) → slice_get types index ≡ o → Leads (rule_from o (λ type. Exchange [] (type ∷ []))) before next
            → EffectServes s next (local_get_step (slice_get locals index) values)
        by None is l = absurd l
        by (Some type) is l =
            let r = stand-get (state_context s) locals types index type stands is in
            subst (λ (o : Option Value). EffectServes s next (local_get_step o values)) (sym r.1)
            (by-rule s (λ vs. Yields Nothing (r.0 ∷ vs)) [] (type ∷ []) values before next (push-serves r.0 type r.2) l st)

    pub set_local-serves : (index : ℕ) (values : List Value) (before next : Operands)
        → Leads (rule_from (slice_get types index) (λ type. Exchange (type ∷ []) [])) before next
        → Have s values before → OutcomeServes s (scope_in s types returns) labels next (local_set_step locals index (slice_get locals index) values)
    set_local-serves index values before next h st = by (slice_get types index) refl h
      where
        one : (type : ValType) (values : List Value) (below : Operands) → slice_get types index ≡ Some type → Offered (state_context s) (type ∷ []) values
            → Have s (drop 1 values) below → OutcomeServes s (scope_in s types returns) labels below (local_set_step locals index (slice_get locals index) values)
        one type [] below is off st = absurd off
        one type (value ∷ values) below is off st =
            let r = stand-get (state_context s) locals types index type stands is in
            subst (λ (o : Option Value). OutcomeServes s (scope_in s types returns) labels below (local_set_step locals index o (value ∷ values))) (sym r.1)
            (stand-set (state_context s) locals types index type value stands is off.0, st)

        by : (o : Option ValType) → slice_get types index ≡ o → Leads (rule_from o (λ type. Exchange (type ∷ []) [])) before next
            → OutcomeServes s (scope_in s types returns) labels next (local_set_step locals index (slice_get locals index) values)
        by None is l = absurd l
        by (Some type) is (below, t, leads) =
            let r = stand-taken (state_context s) (type ∷ []) values before below t st in
            subst (λ (x : Operands). OutcomeServes s (scope_in s types returns) labels x (local_set_step locals index (slice_get locals index) values)) (sym leads)
            (one type values below is r.0 r.1)

    pub tee-serves : (index : ℕ) (values : List Value) (before next : Operands)
        → Leads (rule_from (slice_get types index) (λ type. Exchange (type ∷ []) (type ∷ []))) before next
        → Have s values before → OutcomeServes s (scope_in s types returns) labels next (local_tee_step locals index (slice_get locals index) values)
    tee-serves index values before next h st = by (slice_get types index) refl h
      where
        one : (type : ValType) (values : List Value) (below : Operands) → slice_get types index ≡ Some type → Offered (state_context s) (type ∷ []) values
            → Have s (drop 1 values) below
            → OutcomeServes s (scope_in s types returns) labels (Some type ∷ below) (local_tee_step locals index (slice_get locals index) values)
        one type [] below is off st = absurd off
        one type (value ∷ values) below is off st =
            let r = stand-get (state_context s) locals types index type stands is in
            subst (λ (o : Option Value). OutcomeServes s (scope_in s types returns) labels (Some type ∷ below) (local_tee_step locals index o (value ∷ values))) (sym r.1)
            (stand-set (state_context s) locals types index type value stands is off.0, (off.0, st))

        by : (o : Option ValType) → slice_get types index ≡ o → Leads (rule_from o (λ type. Exchange (type ∷ []) (type ∷ []))) before next
            → OutcomeServes s (scope_in s types returns) labels next (local_tee_step locals index (slice_get locals index) values)
        by None is l = absurd l
        by (Some type) is (below, t, leads) =
            let r = stand-taken (state_context s) (type ∷ []) values before below t st in
            subst (λ (x : Operands). OutcomeServes s (scope_in s types returns) labels x (local_tee_step locals index (slice_get locals index) values)) (sym leads)
            (one type values below is r.0 r.1)
