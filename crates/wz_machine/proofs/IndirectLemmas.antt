-- call_indirect, on the machine's stacks.
use Rattle.std.proofs.Common.{◌≡◌, ◌≤◌, ◌<◌, ℕ, ◌+◌, ◌-◌, List, [], ◌∷◌, Option, Some, None, true, false, if◌then◌else◌, length, take, drop, slice_get, option_map, refl, ap, sym, ◌∙◌, arith}
use Rattle.std.proofs.lemmas.List.{length-take-le}
use Rattle.wz_types.specs.declared.value.Value.{Value}
use Rattle.wz_types.specs.declared.value.Value.TheVariants.{I32, I64, F32, F64, Ref}
use Rattle.wz_types.specs.declared.value.Reference.{Reference}
use Rattle.wz_types.specs.declared.trap.TrapKind.{TrapKind}
use Rattle.wz_types.specs.declared.trap.TrapKind.TheVariants as trap
use Rattle.wz_types.specs.FunctionType.{FunctionType}
use Rattle.wz_types.specs.SameType.{same_function_type}
use Rattle.wz_code.specs.declared.instr.Instr.{Instr}
use Rattle.wz_code.specs.declared.instr.Instr.TheVariants.{CallIndirect}
use Rattle.wz_code.specs.Trees.{code_in}
use Rattle.wz_store.specs.State.{Table}
use Rattle.wz_bulk.proofs.OptionLemmas.{found_of}
use Rattle.wz_machine.specs.declared.questions.HostTarget.TheVariants as target
use Rattle.wz_machine.specs.State.{State, FunctionInstance, Callable}
use Rattle.wz_machine.specs.Terms.{AskHost}
use Rattle.wz_machine.specs.Outcomes.{Poses, Fails, HasNoRule, Outcome, Does, Trap, Stuck}
use Rattle.wz_machine.specs.CallSteps.{call_step, host_call, foreign_call, expected_call, entry_call, call_indirect_step}
use Rattle.wz_machine.specs.Step.{outcome_reduct, step}
use Rattle.wz_machine.specs.Flat.{locals_in}
use Rattle.wz_machine.specs.Stacks.{StackParts, opened_of, stacks_term, IsStacked}
use Rattle.wz_machine.specs.Standings.{AskingHost}
use Rattle.wz_machine.specs.Turns.{own_of}
use Rattle.wz_machine.specs.Asks.{ComesTo, HasAsked, own_stack, top_number}
use Rattle.wz_machine.specs.Opening.{stepped}
use Rattle.wz_machine.proofs.ListLemmas.{drop-own}
use Rattle.wz_machine.proofs.AskLemmas.{instr_comes, trapped_step, stuck_step, args_few, comes_taken, asked_host}
use Rattle.wz_machine.proofs.GrowAskLemmas.{number_on, number_long}

-- ---- outcomes that are known

pub comes_as : (st : State) (s : StackParts) (rest : List Instr) (one other : Outcome) → one ≡ other → ComesTo st s rest one → ComesTo st s rest other
comes_as st s rest one other e comes = comes ∙ ap (λ (o : Outcome). outcome_reduct (locals_in (opened_of s.top) s.values) (code_in s.top.body rest) o) e

pub outcome_stuck : (s : StackParts) (rest : List Instr) (outcome : Outcome) → IsStacked s → outcome ≡ Does HasNoRule → (st : State) → ComesTo st s rest outcome
    → step st (stacks_term s) ≡ Stuck
outcome_stuck s rest outcome is e st comes = stuck_step st s rest is (comes_as st s rest outcome (Does HasNoRule) e comes)

pub outcome_traps : (s : StackParts) (rest : List Instr) (outcome : Outcome) (kind : TrapKind) → IsStacked s → outcome ≡ Does (Fails kind) → (st : State)
    → ComesTo st s rest outcome → step st (stacks_term s) ≡ Trap kind
outcome_traps s rest outcome kind is e st comes = trapped_step st s rest is kind (comes_as st s rest outcome (Does (Fails kind)) e comes)

-- ---- a function of the host

pub host_few : (s : StackParts) (type : FunctionType) (id have : ℕ) → have ≤ length s.values → have - s.top.height < length type.params
    → host_call type id (own_of s have) ≡ Does HasNoRule
host_few s type id have within lt =
    let len : length (take have s.values) ≡ have = length-take-le have s.values within in
    args_few type (λ arguments below. Does (Poses (AskHost (target.Foreign id) arguments type) below)) s.top.height (take have s.values) (omega (arith, len, lt))

pub host_asked : (s : StackParts) (rest : List Instr) (type : FunctionType) (id have : ℕ) → IsStacked s → have ≤ length s.values → s.top.height + length type.params ≤ have
    → (st : State) → ComesTo st s rest (host_call type id (own_of s have))
    → HasAsked (step st (stacks_term s)) (AskingHost (target.Foreign id) type) (length type.params) (stepped s rest have)
host_asked s rest type id have is within own st comes =
    asked_host s rest (target.Foreign id) type have is within own st
    (comes_taken s rest type (λ arguments below. Does (Poses (AskHost (target.Foreign id) arguments type) below)) have within own st comes)

pub foreign_other : (actual type : FunctionType) (found : Option FunctionType) (id : ℕ) (own : List Value) → found ≡ Some actual → same_function_type actual type ≡ false
    → foreign_call type id found own ≡ Does (Fails trap.IndirectType)
foreign_other actual type found id own is other =
    ap (λ (f : Option FunctionType). foreign_call type id f own) is ∙ ap (λ b. if b then host_call type id own else Does (Fails trap.IndirectType)) other

pub foreign_same : (actual type : FunctionType) (found : Option FunctionType) (id : ℕ) (own : List Value) → found ≡ Some actual → same_function_type actual type ≡ true
    → foreign_call type id found own ≡ host_call type id own
foreign_same actual type found id own is same =
    ap (λ (f : Option FunctionType). foreign_call type id f own) is ∙ ap (λ b. if b then host_call type id own else Does (Fails trap.IndirectType)) same

-- ---- a function of the instance

pub expected_other : (callable : Callable) (type : FunctionType) (found : Option Callable) (own : List Value) → found ≡ Some callable
    → same_function_type callable.type type ≡ false → expected_call type found own ≡ Does (Fails trap.IndirectType)
expected_other callable type found own is other =
    ap (λ (f : Option Callable). expected_call type f own) is ∙ ap (λ b. if b then call_step (Some callable) own else Does (Fails trap.IndirectType)) other

-- ---- the instruction

indirect_comes : (st : State) (s : StackParts) (rest : List Instr) (signature table : ℕ) → s.top.rest ≡ CallIndirect signature table ∷ rest
    → ComesTo st s rest (call_indirect_step st.types st.functions (slice_get st.types signature) (slice_get st.tables table) (own_stack s))
indirect_comes st s rest signature table at = instr_comes st s (CallIndirect signature table) rest at (λ code. refl)

unnumbered : (types : List FunctionType) (functions : List FunctionInstance) (type : Option FunctionType) (table : Option Table) (xs : List Value) → top_number xs ≡ None
    → call_indirect_step types functions type table xs ≡ Does HasNoRule
unnumbered types functions None table xs e = refl
unnumbered types functions (Some type) None xs e = refl
unnumbered types functions (Some type) (Some table) [] e = refl
unnumbered types functions (Some type) (Some table) (I32 b ∷ values) e = absurd (cc e)
unnumbered types functions (Some type) (Some table) (I64 b ∷ values) e = refl
unnumbered types functions (Some type) (Some table) (F32 b ∷ values) e = refl
unnumbered types functions (Some type) (Some table) (F64 b ∷ values) e = refl
unnumbered types functions (Some type) (Some table) (Ref r ∷ values) e = refl

untyped : (types : List FunctionType) (functions : List FunctionInstance) (type : Option FunctionType) (table : Option Table) (xs : List Value) → type ≡ None
    → call_indirect_step types functions type table xs ≡ Does HasNoRule
untyped types functions None table xs e = refl
untyped types functions (Some type) table xs e = absurd (cc e)

untabled : (types : List FunctionType) (functions : List FunctionInstance) (type : Option FunctionType) (table : Option Table) (at : ℕ) (xs : List Value)
    → option_map (λ (t : Table). slice_get t.entries at) table ≡ None → call_indirect_step types functions type table xs ≡ Does HasNoRule
untabled types functions None table at xs e = refl
untabled types functions (Some type) None at xs e = refl
untabled types functions (Some type) (Some table) at xs e = absurd (cc e)

pub indirect_unnumbered : (st : State) (s : StackParts) (rest : List Instr) (signature table : ℕ) → IsStacked s → s.top.rest ≡ CallIndirect signature table ∷ rest
    → top_number (own_stack s) ≡ None → step st (stacks_term s) ≡ Stuck
indirect_unnumbered st s rest signature table is at none =
    outcome_stuck s rest _ is (unnumbered st.types st.functions (slice_get st.types signature) (slice_get st.tables table) (own_stack s) none) st (indirect_comes st s rest signature table at)

pub indirect_untyped : (st : State) (s : StackParts) (rest : List Instr) (signature table : ℕ) → IsStacked s → s.top.rest ≡ CallIndirect signature table ∷ rest
    → slice_get st.types signature ≡ None → step st (stacks_term s) ≡ Stuck
indirect_untyped st s rest signature table is at none =
    outcome_stuck s rest _ is (untyped st.types st.functions (slice_get st.types signature) (slice_get st.tables table) (own_stack s) none) st (indirect_comes st s rest signature table at)

pub indirect_untabled : (st : State) (s : StackParts) (rest : List Instr) (signature table at : ℕ) → IsStacked s → s.top.rest ≡ CallIndirect signature table ∷ rest
    → option_map (λ (t : Table). slice_get t.entries at) (slice_get st.tables table) ≡ None → step st (stacks_term s) ≡ Stuck
indirect_untabled st s rest signature table at is code none =
    outcome_stuck s rest _ is (untabled st.types st.functions (slice_get st.types signature) (slice_get st.tables table) at (own_stack s) none) st (indirect_comes st s rest signature table code)

pub entry_comes : (st : State) (s : StackParts) (rest : List Instr) (signature table at have : ℕ) (type : FunctionType) (entry : Option Reference)
    → s.top.rest ≡ CallIndirect signature table ∷ rest → top_number (own_stack s) ≡ Some at → slice_get st.types signature ≡ Some type
    → option_map (λ (t : Table). slice_get t.entries at) (slice_get st.tables table) ≡ Some entry → have ≡ length s.values - 1
    → ComesTo st s rest (entry_call st.types st.functions type entry (own_of s have))
entry_comes st s rest signature table at have type entry code number typed held few =
    let found = found_of (λ (t : Table). slice_get t.entries at) (slice_get st.tables table) entry held in
    let long : s.top.height + 1 ≤ length s.values = number_long s at number in
    let below : drop 1 (own_stack s) ≡ own_of s have = drop-own 1 s.top.height s.values long ∙ ap (λ (n : ℕ). own_of s n) (sym few) in
    let own : own_stack s ≡ I32 at ∷ own_of s have = number_on (own_stack s) at number ∙ ap (λ (vs : List Value). I32 at ∷ vs) below in
    comes_as st s rest (call_indirect_step st.types st.functions (slice_get st.types signature) (slice_get st.tables table) (own_stack s))
    (entry_call st.types st.functions type entry (own_of s have))
    (ap (λ (t : Option FunctionType). call_indirect_step st.types st.functions t (slice_get st.tables table) (own_stack s)) typed
    ∙ ap (λ (t : Option Table). call_indirect_step st.types st.functions (Some type) t (own_stack s)) found.1
    ∙ ap (λ (vs : List Value). call_indirect_step st.types st.functions (Some type) (Some found.0) vs) own
    ∙ ap (λ (e : Option Reference). entry_call st.types st.functions type e (own_of s have)) found.2)
    (indirect_comes st s rest signature table code)
