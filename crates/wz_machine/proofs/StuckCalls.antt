-- Calls do what their rules say.
use Rattle.std.proofs.Common.{◌≡◌, ◌<◌, ◌++◌, ◌∷◌, ◌∙◌, [], ℕ, if◌then◌else◌, List, length, subst, sym, slice_get, Some, arith, zero, refl, suc, Option, IsSomeAnd, None, ap, reverse, take, drop, nat_le, option_map, Bool, true, false, ltb-true}
use Rattle.std.proofs.lemmas.List.{length-reverse, reverse-reverse, length-map, reverse-append}
use Rattle.std.proofs.lemmas.Bool.{le-leb}
use Rattle.std.proofs.lemmas.Option.{slice_get-map}
use Rattle.wz_types.specs.declared.types.ValType.{ValType}
use Rattle.wz_types.specs.Zeros.{zeros_of}
use Rattle.wz_types.proofs.FitsLemmas.{zero_fits}
use Rattle.wz_types.specs.declared.value.Value.{Value}
use Rattle.wz_types.specs.FunctionType.{FunctionType}
use Rattle.wz_types.specs.SameType.{same_function_type}
use Rattle.wz_types.proofs.SameTypeLemmas.{same_function_type-true}
use Rattle.wz_types.specs.declared.value.Sort.{Sort}
use Rattle.wz_types.specs.declared.value.Value.TheVariants.{Ref}
use Rattle.wz_types.specs.declared.value.Reference.TheVariants.{Foreign, Null, Fn}
use Rattle.wz_types.specs.declared.value.Reference.{Reference}
use Rattle.wz_types.specs.declared.types.RefKind.{RefKind}
use Rattle.wz_types.specs.Fits.{type_of_kind}
use Rattle.wz_types.specs.declared.trap.TrapKind.TheVariants as trap
use Rattle.wz_types.specs.declared.types.ValType.TheVariants as valtype
use Rattle.wz_types.specs.declared.value.Sort.TheVariants as sort
use Rattle.wz_types.specs.declared.types.RefKind.TheVariants as kind
use Rattle.wz_num.specs.Number.{number}
use Rattle.wz_valid_code.specs.Context.{TypingContext, Labels, function_type, type_by_number, is_function_kind}
use Rattle.wz_valid_code.specs.Operands.{Operands, pushed, Takes}
use Rattle.wz_valid_code.specs.Rules.{Leads, rule_from, Exchange, rule_if}
use Rattle.wz_store.specs.State.{Table}
use Rattle.wz_machine.specs.TypedTerms.{HaveTypes, as_operands}
use Rattle.wz_machine.specs.CallSteps.{starting_locals, with_arguments, invocation, call_step, expected_call, host_call, foreign_call, sort_call, entry_call, call_indirect_step}
use Rattle.wz_machine.specs.State.{State, FunctionInstance, callable_at, FunctionBody, callable_of, OwnBody, ImportedBody, NoBody, callable_from, Callable}
use Rattle.wz_machine.specs.TypedState.{IsStateTyped, state_context, BodyTyped, HasType}
use Rattle.wz_machine.specs.Outcomes.{Outcome, Does, HasNoRule, Fails, Poses}
use Rattle.wz_machine.specs.Terms.{AskHost}
use Rattle.wz_machine.specs.declared.questions.HostTarget.TheVariants as target
use Rattle.wz_machine.proofs.StuckValues.{as_operands-append, stand-append, offered-front, stand-reverse, offers-of, stand-taken}
use Rattle.wz_machine.proofs.StuckRelations.{Have, Offered, OutcomeServes, scope_in}
use Rattle.wz_machine.proofs.StuckOperands.{if-true, take-i32}
use Rattle.wz_machine.proofs.LeafLemmas.{if-both}
use Rattle.wz_machine.proofs.TypedLemmas.{if-passed}

-- the types that locals start with have their zeros
pub stand-zeros : (context : TypingContext) (types : List ValType) → HaveTypes context (zeros_of types) (as_operands types)
stand-zeros context [] = tt
stand-zeros context (type ∷ types) = (zero_fits type (length context.functions) (length context.types), stand-zeros context types)

-- arguments, and what the other locals start with
pub locals-start : (context : TypingContext) (params locals : List ValType) (arguments : List Value) → HaveTypes context arguments (as_operands params)
    → HaveTypes context (starting_locals locals arguments) (as_operands (params ++ locals))
locals-start context params locals arguments h =
    subst (λ (x : Operands). HaveTypes context (arguments ++ zeros_of locals) x) (sym (as_operands-append params locals))
    (stand-append context arguments (zeros_of locals) (as_operands params) (as_operands locals) h (stand-zeros context locals))

found-at : {A : Type 0} (xs : List A) (i : ℕ) → i < length xs → (x : A) × (slice_get xs i ≡ Some x)
found-at [] i h = absurd (omega arith)
found-at (x ∷ xs) zero h = (x, refl)
found-at (x ∷ xs) (suc i) h = found-at xs i (omega arith)

module _ (s : State) (typed : IsStateTyped (state_context s) s) where
  -- a function that is there can be called, and its body is typed
  pub callable_at-there : (index : ℕ) (function : FunctionInstance) → slice_get s.functions index ≡ Some function
      → (type : FunctionType) × (slice_get s.types function.signature ≡ Some type) × BodyTyped (state_context s) type function.body
      × (callable_at s.types s.functions index ≡ Some (record { type = type; body = function.body }))
  callable_at-there index function is = by (slice_get s.types function.signature) refl (typed.functions index function is)
    where
      of-body : (type : FunctionType) (body : FunctionBody) → BodyTyped (state_context s) type body
          → callable_of (Some type) body ≡ Some (record { type = type; body = body })
      of-body type (OwnBody locals code) h = refl
      of-body type (ImportedBody number) h = refl
      of-body type NoBody h = absurd h

      by : (o : Option FunctionType) → slice_get s.types function.signature ≡ o → IsSomeAnd o (λ type. BodyTyped (state_context s) type function.body)
          → (type : FunctionType) × (slice_get s.types function.signature ≡ Some type) × BodyTyped (state_context s) type function.body
          × (callable_at s.types s.functions index ≡ Some (record { type = type; body = function.body }))
      by None same h = absurd h
      by (Some type) same h = (
        type,
        same,
        h,
        ap (λ (o : Option FunctionInstance). callable_from s.types o) is ∙ ap
            (λ (o : Option FunctionType). callable_of o function.body) same ∙ of-body type function.body h,
      )

  module _ (types returns : List ValType) (labels : Labels) where
    -- arguments that are taken are locals in the order of pushing
    arguments-serve : (params : List ValType) (values : List Value) → Offered (state_context s) (reverse params) values
        → Have s (reverse (take (length params) values)) (as_operands params)
    arguments-serve params values off =
        let front = subst (λ (n : ℕ). Have s (take n values) (as_operands (reverse params))) (length-reverse params)
        (offered-front (state_context s) (reverse params) values off) in
        subst (λ (x : List ValType). Have s (reverse (take (length params) values)) (as_operands x)) (reverse-reverse params)
        (stand-reverse (state_context s) (take (length params) values) (reverse params) front)

    -- a call with as many arguments as there are parameters
    with-serves : (type : FunctionType) (call : List Value → List Value → Outcome) (values : List Value) (below next : Operands)
        → Offered (state_context s) (reverse type.params) values → Have s (drop (length (reverse type.params)) values) below
        → ((arguments left : List Value) → Have s arguments (as_operands type.params) → Have s left below
        → OutcomeServes s (scope_in s types returns) labels next (call arguments left))
        → OutcomeServes s (scope_in s types returns) labels next (with_arguments type call values)
    with-serves type call values below next off st serves =
        let n : ℕ = length type.params in
        let offers = offers-of (state_context s) type.params values off in
        if-true (λ (o : Outcome). OutcomeServes s (scope_in s types returns) labels next o) (nat_le n (length values))
        (call (reverse (take n values)) (drop n values)) (Does HasNoRule) (le-leb n (length values) offers.enough)
        (serves (reverse (take n values)) (drop n values) (arguments-serve type.params values off)
        (subst (λ (k : ℕ). Have s (drop k values) below) (length-reverse type.params) st))

    invocation-serves : (type : FunctionType) (body : FunctionBody) (arguments values : List Value) (below : Operands) → BodyTyped (state_context s) type body
        → Have s arguments (as_operands type.params) → Have s values below
        → OutcomeServes s (scope_in s types returns) labels (pushed type.results below) (invocation type body arguments values)
    invocation-serves type (OwnBody locals code) arguments values below h fit st = record {
      types = type.params ++ locals;
      ends = type.results;
      long = refl;
      locals = locals-start (state_context s) type.params locals arguments fit;
      typed = h;
      below = below;
      stand = st;
      leads = refl;
    }
    invocation-serves type (ImportedBody number) arguments values below h fit st = (below, st, refl, tt)
    invocation-serves type NoBody arguments values below h fit st = absurd h

    call-serves : (type : FunctionType) (body : FunctionBody) (values : List Value) (below : Operands) → BodyTyped (state_context s) type body
        → Offered (state_context s) (reverse type.params) values → Have s (drop (length (reverse type.params)) values) below
        → OutcomeServes s (scope_in s types returns) labels (pushed type.results below) (call_step (Some (record { type = type; body = body })) values)
    call-serves type body values below h off st =
        with-serves type (λ arguments left. invocation type body arguments left) values below (pushed type.results below) off st
        (λ arguments left fit stands. invocation-serves type body arguments left below h fit stands)

    -- ---- call

    pub direct-serves : (index : ℕ) (values : List Value) (before next : Operands)
        → Leads (rule_from (function_type (state_context s) index) (λ type. Exchange type.params type.results)) before next → Have s values before
        → OutcomeServes s (scope_in s types returns) labels next (call_step (callable_at s.types s.functions index) values)
    direct-serves index values before next h st =
        by (slice_get s.functions index) refl
        (subst (λ (o : Option ℕ). Leads (rule_from (type_by_number (state_context s) o) (λ type. Exchange type.params type.results)) before next)
        (slice_get-map (λ (function : FunctionInstance). function.signature) s.functions index) h)
      where
        by : (o : Option FunctionInstance) → slice_get s.functions index ≡ o
            → Leads (rule_from (type_by_number (state_context s) (option_map (λ (function : FunctionInstance). function.signature) o)) (λ type. Exchange type.params type.results)) before next
            → OutcomeServes s (scope_in s types returns) labels next (call_step (callable_at s.types s.functions index) values)
        by None is l = absurd l
        by (Some function) is l =
            let r = callable_at-there index function is in
            let type : FunctionType = r.0 in
            let leads : Leads (Exchange type.params type.results) before next = subst
            (λ (o : Option FunctionType). Leads (rule_from o (λ type. Exchange type.params type.results)) before next) r.1 l in
            let t = stand-taken (state_context s) (reverse type.params) values before leads.0 leads.1 st in
            subst (λ (o : Option Callable). OutcomeServes s (scope_in s types returns) labels next (call_step o values)) (sym r.3)
            (subst (λ (x : Operands). OutcomeServes s (scope_in s types returns) labels x (call_step (Some (record { type = type; body = function.body })) values))
            (sym leads.2)
            (call-serves type function.body values leads.0 r.2 t.0 t.1))

    -- ---- call_indirect

    module _ (type : FunctionType) (values : List Value) (below : Operands) (off : Offered (state_context s) (reverse type.params) values)
        (st : Have s (drop (length (reverse type.params)) values) below) where
      expected-serves : (found : FunctionType) (body : FunctionBody) → BodyTyped (state_context s) found body
          → OutcomeServes s (scope_in s types returns) labels (pushed type.results below) (expected_call type (Some (record { type = found; body = body })) values)
      expected-serves found body h = by (same_function_type found type) refl
        where
          by : (b : Bool) → same_function_type found type ≡ b
              → OutcomeServes s (scope_in s types returns) labels (pushed type.results below) (if b then call_step (Some (record { type = found; body = body })) values else Does (Fails trap.IndirectType))
          by true e =
              let same : found ≡ type = same_function_type-true found type e in
              subst (λ (t : FunctionType). OutcomeServes s (scope_in s types returns) labels (pushed type.results below)
              (call_step (Some (record { type = t; body = body })) values)) (sym same)
              (call-serves type body values below (subst (λ (t : FunctionType). BodyTyped (state_context s) t body) same h) off st)
          by false e = tt

      host-serves : (id : ℕ) → OutcomeServes s (scope_in s types returns) labels (pushed type.results below) (host_call type id values)
      host-serves id =
          with-serves type (λ arguments left. Does (Poses (AskHost (target.Foreign id) arguments type) left)) values below (pushed type.results below) off st
          (λ arguments left fit stands. (below, stands, refl, tt))

      foreign-serves : (id : ℕ) (actual : FunctionType)
          → OutcomeServes s (scope_in s types returns) labels (pushed type.results below) (foreign_call type id (Some actual) values)
      foreign-serves id actual =
          if-both (λ (o : Outcome). OutcomeServes s (scope_in s types returns) labels (pushed type.results below) o) (same_function_type actual type)
          (host_call type id values) (Does (Fails trap.IndirectType)) (host-serves id) tt

      sort-serves : (id : ℕ) (sort : Sort) → HasType (state_context s) (Ref (Foreign id sort)) valtype.FuncRef
          → OutcomeServes s (scope_in s types returns) labels (pushed type.results below) (sort_call s.types type id sort values)
      sort-serves id sort.Extern h = absurd (cc h)
      sort-serves id (sort.Func number) h = (let r = found-at s.types number (ltb-true number (length s.types) h) in
          subst (λ (o : Option FunctionType). OutcomeServes s (scope_in s types returns) labels (pushed type.results below) (foreign_call type id o values)) (sym r.1)
          (foreign-serves id r.0))
      sort-serves id sort.OtherFunc h = tt

      entry-serves : (reference : Option Reference) → ((r : Reference) → reference ≡ Some r → HasType (state_context s) (Ref r) valtype.FuncRef)
          → OutcomeServes s (scope_in s types returns) labels (pushed type.results below) (entry_call s.types s.functions type reference values)
      entry-serves None h = tt
      entry-serves (Some (Null kind)) h = tt
      entry-serves (Some (Fn index)) h =
          let within : index < length s.functions = subst (λ (n : ℕ). index < n) (length-map s.functions (λ function. function.signature))
          (ltb-true index (length (state_context s).functions) (h (Fn index) refl)) in
          let f = found-at s.functions index within in
          let r = callable_at-there index f.0 f.1 in
          subst (λ (o : Option Callable). OutcomeServes s (scope_in s types returns) labels (pushed type.results below) (expected_call type o values)) (sym r.3)
          (expected-serves r.0 f.0.body r.2)
      entry-serves (Some (Foreign id sort)) h = sort-serves id sort (h (Foreign id sort) refl)

    functions-kind : (kind : RefKind) → is_function_kind (Some kind) ≡ true → type_of_kind kind ≡ valtype.FuncRef
    functions-kind kind.Func h = refl
    functions-kind kind.Extern h = absurd (cc h)

    called-serves : (type : FunctionType) (index : ℕ) (table : Table) (values : List Value) (before next : Operands) → slice_get s.tables index ≡ Some table
        → is_function_kind (Some table.kind) ≡ true → Leads (Exchange (type.params ++ valtype.I32 ∷ []) type.results) before next → Have s values before
        → OutcomeServes s (scope_in s types returns) labels next (call_indirect_step s.types s.functions (Some type) (Some table) values)
    called-serves type index table values before next is functions (below, takes, leads) st =
        let asked : reverse (type.params ++ valtype.I32 ∷ []) ≡ valtype.I32 ∷ reverse type.params = reverse-append type.params (valtype.I32 ∷ []) in
        let r = stand-taken (state_context s) (valtype.I32 ∷ reverse type.params) values before below
        (subst (λ (x : List ValType). Takes x before below) asked takes) st in
        subst (λ (x : Operands). OutcomeServes s (scope_in s types returns) labels x (call_indirect_step s.types s.functions (Some type) (Some table) values)) (sym leads)
        (take-i32 (state_context s) (λ vs. Have s (drop (suc (length (reverse type.params))) vs) below
        → OutcomeServes s (scope_in s types returns) labels (pushed type.results below) (call_indirect_step s.types s.functions (Some type) (Some table) vs))
        (reverse type.params)
        (λ at vs fit off st. entry-serves type vs below off st (slice_get table.entries at)
        (λ reference e. subst (λ (t : ValType). HasType (state_context s) (Ref reference) t) (functions-kind table.kind functions)
        (typed.tables index table is at reference e))) values r.0 r.1)

    pub indirect-serves : (signature index : ℕ) (values : List Value) (before next : Operands)
        → Leads (rule_if (is_function_kind (slice_get (state_context s).tables index)) (rule_from (slice_get s.types signature) (λ type. Exchange (type.params ++ valtype.I32 ∷ []) type.results))) before next
        → Have s values before
        → OutcomeServes s (scope_in s types returns) labels next (call_indirect_step s.types s.functions (slice_get s.types signature) (slice_get s.tables index) values)
    indirect-serves signature index values before next h st =
        let r = if-passed _ _ _ _ h in
        by (slice_get s.types signature) (slice_get s.tables index) refl
        (subst (λ (o : Option RefKind). is_function_kind o ≡ true) (slice_get-map (λ (table : Table). table.kind) s.tables index) r.0) r.1
      where
        by : (type : Option FunctionType) (table : Option Table) → slice_get s.tables index ≡ table
            → is_function_kind (option_map (λ (table : Table). table.kind) table) ≡ true
            → Leads (rule_from type (λ type. Exchange (type.params ++ valtype.I32 ∷ []) type.results)) before next
            → OutcomeServes s (scope_in s types returns) labels next (call_indirect_step s.types s.functions type table values)
        by None table is f l = absurd l
        by (Some type) None is f l = absurd (cc f)
        by (Some type) (Some table) is f l = called-serves type index table values before next is f l st
