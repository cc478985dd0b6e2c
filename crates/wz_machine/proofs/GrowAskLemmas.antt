-- Growth and float operations that ask, on the machine's stacks.
use Rattle.std.proofs.Common.{◌≡◌, ◌≤◌, ℕ, ◌+◌, ◌-◌, List, [], ◌∷◌, ◌++◌, Option, Some, None, Bool, true, false, if◌then◌else◌, length, take, drop, reverse, slice_get, refl, ap, sym, ◌∙◌, arith}
use Rattle.std.proofs.lemmas.List.{length-take-le, length-drop, length-reverse, reverse-append, take-take, take-append-le, drop-append-le, take_all}
use Rattle.wz_types.specs.declared.value.Value.{Value}
use Rattle.wz_types.specs.declared.value.Value.TheVariants.{I32, I64, F32, F64, Ref}
use Rattle.wz_types.specs.declared.value.Reference.{Reference}
use Rattle.wz_types.specs.Fits.{kind_of}
use Rattle.wz_types.specs.SameType.{same_kind}
use Rattle.wz_code.specs.declared.instr.Instr.{Instr}
use Rattle.wz_code.specs.declared.instr.Instr.TheVariants.{MemoryGrow, TableGrow, Num}
use Rattle.wz_code.specs.declared.numeric.NumOp.{NumOp}
use Rattle.wz_code.specs.Trees.{code_in}
use Rattle.wz_store.specs.State.{Memory, Table, pages_of}
use Rattle.wz_store.specs.Growth.{may_grow, may_extend}
use Rattle.wz_store.specs.Changes.{Nothing}
use Rattle.wz_machine.specs.State.{State}
use Rattle.wz_machine.specs.Terms.{AskMemory, AskTable}
use Rattle.wz_machine.specs.Outcomes.{Effect, Yields, Poses, HasNoRule, Does, Next, Stuck}
use Rattle.wz_machine.specs.BulkSteps.{minus_one}
use Rattle.wz_machine.specs.MemorySteps.{memory_grow_step}
use Rattle.wz_machine.specs.TableSteps.{table_grow_step}
use Rattle.wz_machine.specs.Step.{outcome_reduct, step}
use Rattle.wz_machine.specs.Flat.{locals_in}
use Rattle.wz_machine.specs.Stacks.{StackParts, opened_of, stacks_term, IsStacked, last_values, first_values}
use Rattle.wz_machine.specs.Standings.{Asking, AskingFloat, AskingMemory, AskingTable, StacksWork, question_of, IsAnswerable}
use Rattle.wz_machine.specs.Growths.{memory_growable, table_growable}
use Rattle.wz_machine.specs.Asks.{ComesTo, HasAsked, AsksFloat, failed_growth, own_stack, top_number, top_growth}
use Rattle.wz_machine.specs.Opening.{stepped}
use Rattle.wz_machine.proofs.ListLemmas.{drop-own}
use Rattle.wz_machine.proofs.AskLemmas.{instr_comes, went_step, asked_step, stuck_step}

-- ---- operands on top

pub number_on : (xs : List Value) (bits : ℕ) → top_number xs ≡ Some bits → xs ≡ I32 bits ∷ drop 1 xs
number_on [] bits e = absurd (cc e)
number_on (I32 b ∷ values) bits e = let same : b ≡ bits = cc e in ap (λ (n : ℕ). I32 n ∷ values) same
number_on (I64 b ∷ values) bits e = absurd (cc e)
number_on (F32 b ∷ values) bits e = absurd (cc e)
number_on (F64 b ∷ values) bits e = absurd (cc e)
number_on (Ref r ∷ values) bits e = absurd (cc e)

growth_on : (xs : List Value) (by : ℕ) (reference : Reference) → top_growth xs ≡ Some (by, reference) → xs ≡ I32 by ∷ Ref reference ∷ drop 2 xs
growth_on [] by reference e = absurd (cc e)
growth_on (I32 b ∷ []) by reference e = absurd (cc e)
growth_on (I32 b ∷ I32 c ∷ values) by reference e = absurd (cc e)
growth_on (I32 b ∷ I64 c ∷ values) by reference e = absurd (cc e)
growth_on (I32 b ∷ F32 c ∷ values) by reference e = absurd (cc e)
growth_on (I32 b ∷ F64 c ∷ values) by reference e = absurd (cc e)
growth_on (I32 b ∷ Ref r ∷ values) by reference e =
    let pair : ◌≡◌ {A = ℕ × Reference} (b, r) (by, reference) = cc e in
    let same : b ≡ by = ap (λ (p : ℕ × Reference). p.0) pair in
    let refs : r ≡ reference = ap (λ (p : ℕ × Reference). p.1) pair in
    ap (λ (n : ℕ). I32 n ∷ Ref r ∷ values) same ∙ ap (λ (x : Reference). I32 by ∷ Ref x ∷ values) refs
growth_on (I64 b ∷ values) by reference e = absurd (cc e)
growth_on (F32 b ∷ values) by reference e = absurd (cc e)
growth_on (F64 b ∷ values) by reference e = absurd (cc e)
growth_on (Ref r ∷ values) by reference e = absurd (cc e)

-- so many of its own, if there are
own_long : (s : StackParts) (count : ℕ) → 1 ≤ count → count ≤ length (own_stack s) → s.top.height + count ≤ length s.values
own_long s count some le =
    let len : length (own_stack s) ≡ length s.values - s.top.height = length-reverse (drop s.top.height s.values) ∙ length-drop s.top.height s.values in
    omega (arith, len, some, le)

-- ---- it asks, or gives -1

asked_last : (st : State) (s : StackParts) (rest : List Instr) (asking : Asking) (count have : ℕ) → IsStacked s → length s.values ≡ have → s.top.height + count ≤ length s.values
    → IsAnswerable asking count (StacksWork (stepped s rest have))
    → ComesTo st s rest (Does (Poses (question_of asking (last_values count s.values)) (reverse (drop s.top.height (first_values count s.values)))))
    → HasAsked (step st (stacks_term s)) asking count (stepped s rest have)
asked_last st s rest asking count have is len own answerable comes =
    let v : List Value = take have s.values in
    let all : s.values ≡ v = sym (take_all have s.values (omega (arith, len))) in
    let front : take s.top.height (first_values count s.values) ≡ take s.top.height s.values = take-take s.top.height (length s.values - count) s.values (omega (arith, own)) in
    let size : length v ≡ have = length-take-le have s.values (omega (arith, len)) in
    record {
      asks = asked_step st s rest is (question_of asking (last_values count s.values)) (first_values count s.values) front comes
          ∙ cc (all);
      operands = omega (arith, size, len, own);
      answerable = answerable;
    }

failed_last : (st : State) (s : StackParts) (rest : List Instr) (count : ℕ) → IsStacked s → s.top.height + count ≤ length s.values
    → ComesTo st s rest (Does (Yields Nothing (minus_one ∷ reverse (drop s.top.height (first_values count s.values)))))
    → step st (stacks_term s) ≡ Next Nothing (stacks_term (failed_growth s rest count))
failed_last st s rest count is own comes =
    let first : List Value = first_values count s.values in
    let len : length first ≡ length s.values - count = length-take-le (length s.values - count) s.values (omega arith) in
    let front : take s.top.height (first ++ minus_one ∷ []) ≡ take s.top.height s.values =
    take-append-le s.top.height first (minus_one ∷ []) (omega (arith, len, own)) ∙ take-take s.top.height (length s.values - count) s.values (omega (arith, own)) in
    let put : minus_one ∷ reverse (drop s.top.height first) ≡ reverse (drop s.top.height (first ++ minus_one ∷ [])) =
    sym (ap (λ (xs : List Value). reverse xs) (drop-append-le s.top.height first (minus_one ∷ []) (omega (arith, len, own))) ∙ reverse-append (drop s.top.height first) (minus_one ∷ [])) in
    went_step st s rest is (first ++ minus_one ∷ []) front
    (comes ∙ ap (λ (vs : List Value). outcome_reduct (locals_in (opened_of s.top) s.values) (code_in s.top.body rest) (Does (Yields Nothing vs))) put)

-- ---- memory.grow

memory_comes : (st : State) (s : StackParts) (rest : List Instr) (index : ℕ) (own : List Value) → s.top.rest ≡ MemoryGrow index ∷ rest → own_stack s ≡ own
    → ComesTo st s rest (Does (memory_grow_step index (slice_get st.memories index) own))
memory_comes st s rest index own at is =
    instr_comes st s (MemoryGrow index) rest at (λ code. refl)
    ∙ ap (λ (vs : List Value). outcome_reduct (locals_in (opened_of s.top) s.values) (code_in s.top.body rest) (Does (memory_grow_step index (slice_get st.memories index) vs))) is

-- what it does, by whether it may grow
memory_effect : Option Bool → ℕ → ℕ → List Value → Effect
memory_effect None index by values = HasNoRule
memory_effect (Some true) index by values = Poses (AskMemory index by) values
memory_effect (Some false) index by values = Yields Nothing (minus_one ∷ values)

memory_if : (may : Bool) (index by : ℕ) (values : List Value)
    → (if may then Poses (AskMemory index by) values else Yields Nothing (minus_one ∷ values)) ≡ memory_effect (Some may) index by values
unfolding memory_effect
memory_if true index by values = refl
memory_if false index by values = refl

memory_by : (memory : Option Memory) (index by : ℕ) (values : List Value) → memory_grow_step index memory (I32 by ∷ values) ≡ memory_effect (memory_growable memory by) index by values
unfolding memory_effect
memory_by None index by values = refl
memory_by (Some memory) index by values = memory_if (may_grow (pages_of memory) memory.maximum by) index by values

memory_outcome : (st : State) (s : StackParts) (rest : List Instr) (index by : ℕ) (may : Option Bool) → s.top.rest ≡ MemoryGrow index ∷ rest → top_number (own_stack s) ≡ Some by
    → memory_growable (slice_get st.memories index) by ≡ may → ComesTo st s rest (Does (memory_effect may index by (drop 1 (own_stack s))))
memory_outcome st s rest index by may at number is =
    memory_comes st s rest index (I32 by ∷ drop 1 (own_stack s)) at (number_on (own_stack s) by number)
    ∙ ap (λ (e : Effect). outcome_reduct (locals_in (opened_of s.top) s.values) (code_in s.top.body rest) (Does e))
    (memory_by (slice_get st.memories index) index by (drop 1 (own_stack s)) ∙ ap (λ (m : Option Bool). memory_effect m index by (drop 1 (own_stack s))) is)

pub number_long : (s : StackParts) (bits : ℕ) → top_number (own_stack s) ≡ Some bits → s.top.height + 1 ≤ length s.values
number_long s bits number = let len : length (own_stack s) ≡ length (drop 1 (own_stack s)) + 1 = ap length (number_on (own_stack s) bits number) ∙ omega arith in
    own_long s 1 (omega arith) (omega (arith, len))

pub memory_unnumbered : (st : State) (s : StackParts) (rest : List Instr) (index : ℕ) → IsStacked s → s.top.rest ≡ MemoryGrow index ∷ rest → top_number (own_stack s) ≡ None
    → step st (stacks_term s) ≡ Stuck
memory_unnumbered st s rest index is at none =
    stuck_step st s rest is
    (instr_comes st s (MemoryGrow index) rest at (λ code. refl)
    ∙ ap (λ (e : Effect). outcome_reduct (locals_in (opened_of s.top) s.values) (code_in s.top.body rest) (Does e)) (unnumbered (slice_get st.memories index) (own_stack s) none))
  where
    unnumbered : (memory : Option Memory) (xs : List Value) → top_number xs ≡ None → memory_grow_step index memory xs ≡ HasNoRule
    unnumbered None xs e = refl
    unnumbered (Some memory) [] e = refl
    unnumbered (Some memory) (I32 b ∷ values) e = absurd (cc e)
    unnumbered (Some memory) (I64 b ∷ values) e = refl
    unnumbered (Some memory) (F32 b ∷ values) e = refl
    unnumbered (Some memory) (F64 b ∷ values) e = refl
    unnumbered (Some memory) (Ref r ∷ values) e = refl

pub memory_missing : (st : State) (s : StackParts) (rest : List Instr) (index by : ℕ) → IsStacked s → s.top.rest ≡ MemoryGrow index ∷ rest → top_number (own_stack s) ≡ Some by
    → memory_growable (slice_get st.memories index) by ≡ None → step st (stacks_term s) ≡ Stuck
unfolding memory_effect
memory_missing st s rest index by is at number none = stuck_step st s rest is (memory_outcome st s rest index by None at number none)

pub memory_fails : (st : State) (s : StackParts) (rest : List Instr) (index by : ℕ) → IsStacked s → s.top.rest ≡ MemoryGrow index ∷ rest → top_number (own_stack s) ≡ Some by
    → memory_growable (slice_get st.memories index) by ≡ Some false → step st (stacks_term s) ≡ Next Nothing (stacks_term (failed_growth s rest 1))
unfolding memory_effect
memory_fails st s rest index by is at number may =
    let long : s.top.height + 1 ≤ length s.values = number_long s by number in
    failed_last st s rest 1 is long
    (memory_outcome st s rest index by (Some false) at number may
    ∙ ap (λ (vs : List Value). outcome_reduct (locals_in (opened_of s.top) s.values) (code_in s.top.body rest) (Does (Yields Nothing (minus_one ∷ vs)))) (drop-own 1 s.top.height s.values long))

pub memory_asks : (st : State) (s : StackParts) (rest : List Instr) (index by have : ℕ) → IsStacked s → length s.values ≡ have → s.top.rest ≡ MemoryGrow index ∷ rest
    → top_number (own_stack s) ≡ Some by → memory_growable (slice_get st.memories index) by ≡ Some true
    → HasAsked (step st (stacks_term s)) (AskingMemory index by) 1 (stepped s rest have)
unfolding memory_effect
memory_asks st s rest index by have is len at number may =
    let long : s.top.height + 1 ≤ length s.values = number_long s by number in
    asked_last st s rest (AskingMemory index by) 1 have is len long (omega arith)
    (memory_outcome st s rest index by (Some true) at number may
    ∙ ap (λ (vs : List Value). outcome_reduct (locals_in (opened_of s.top) s.values) (code_in s.top.body rest) (Does (Poses (AskMemory index by) vs))) (drop-own 1 s.top.height s.values long))

-- ---- a float operation

pub float_asks : (st : State) (s : StackParts) (rest : List Instr) (op : NumOp) (count have : ℕ) → IsStacked s → length s.values ≡ have → s.top.rest ≡ Num op ∷ rest
    → AsksFloat op count s → HasAsked (step st (stacks_term s)) (AskingFloat op) count (stepped s rest have)
float_asks st s rest op count have is len at asks =
    asked_last st s rest (AskingFloat op) count have is len asks.operands asks.some
    (instr_comes st s (Num op) rest at (λ code. refl)
    ∙ ap (λ (e : Effect). outcome_reduct (locals_in (opened_of s.top) s.values) (code_in s.top.body rest) (Does e)) asks.asks)

-- ---- table.grow

table_effect : Option Bool → ℕ → ℕ → Reference → List Value → Effect
table_effect None index by reference values = HasNoRule
table_effect (Some true) index by reference values = Poses (AskTable index by reference) values
table_effect (Some false) index by reference values = Yields Nothing (minus_one ∷ values)

table_if : (same may : Bool) (index by : ℕ) (reference : Reference) (values : List Value)
    → (if same then (if may then Poses (AskTable index by reference) values else Yields Nothing (minus_one ∷ values)) else HasNoRule)
    ≡ table_effect (if same then Some may else None) index by reference values
unfolding table_effect
table_if true true index by reference values = refl
table_if true false index by reference values = refl
table_if false may index by reference values = refl

table_by : (table : Option Table) (index by : ℕ) (reference : Reference) (values : List Value)
    → table_grow_step index table (I32 by ∷ Ref reference ∷ values) ≡ table_effect (table_growable table by reference) index by reference values
unfolding table_effect
table_by None index by reference values = refl
table_by (Some table) index by reference values =
    table_if (same_kind (kind_of reference) table.kind) (may_extend (length table.entries) table.maximum by) index by reference values

table_outcome : (st : State) (s : StackParts) (rest : List Instr) (index by : ℕ) (reference : Reference) (may : Option Bool) → s.top.rest ≡ TableGrow index ∷ rest
    → top_growth (own_stack s) ≡ Some (by, reference) → table_growable (slice_get st.tables index) by reference ≡ may
    → ComesTo st s rest (Does (table_effect may index by reference (drop 2 (own_stack s))))
table_outcome st s rest index by reference may at operands is =
    instr_comes st s (TableGrow index) rest at (λ code. refl)
    ∙ ap (λ (vs : List Value). outcome_reduct (locals_in (opened_of s.top) s.values) (code_in s.top.body rest) (Does (table_grow_step index (slice_get st.tables index) vs)))
    (growth_on (own_stack s) by reference operands)
    ∙ ap (λ (e : Effect). outcome_reduct (locals_in (opened_of s.top) s.values) (code_in s.top.body rest) (Does e))
    (table_by (slice_get st.tables index) index by reference (drop 2 (own_stack s)) ∙ ap (λ (m : Option Bool). table_effect m index by reference (drop 2 (own_stack s))) is)

growth_long : (s : StackParts) (by : ℕ) (reference : Reference) → top_growth (own_stack s) ≡ Some (by, reference) → s.top.height + 2 ≤ length s.values
growth_long s by reference operands =
    let len : length (own_stack s) ≡ length (drop 2 (own_stack s)) + 2 = ap length (growth_on (own_stack s) by reference operands) ∙ omega arith in
    own_long s 2 (omega arith) (omega (arith, len))

pub table_unnumbered : (st : State) (s : StackParts) (rest : List Instr) (index : ℕ) → IsStacked s → s.top.rest ≡ TableGrow index ∷ rest → top_growth (own_stack s) ≡ None
    → step st (stacks_term s) ≡ Stuck
table_unnumbered st s rest index is at none =
    stuck_step st s rest is
    (instr_comes st s (TableGrow index) rest at (λ code. refl)
    ∙ ap (λ (e : Effect). outcome_reduct (locals_in (opened_of s.top) s.values) (code_in s.top.body rest) (Does e)) (unnumbered (slice_get st.tables index) (own_stack s) none))
  where
    unnumbered : (table : Option Table) (xs : List Value) → top_growth xs ≡ None → table_grow_step index table xs ≡ HasNoRule
    unnumbered None xs e = refl
    unnumbered (Some table) [] e = refl
    unnumbered (Some table) (I32 b ∷ []) e = refl
    unnumbered (Some table) (I32 b ∷ I32 c ∷ values) e = refl
    unnumbered (Some table) (I32 b ∷ I64 c ∷ values) e = refl
    unnumbered (Some table) (I32 b ∷ F32 c ∷ values) e = refl
    unnumbered (Some table) (I32 b ∷ F64 c ∷ values) e = refl
    unnumbered (Some table) (I32 b ∷ Ref r ∷ values) e = absurd (cc e)
    unnumbered (Some table) (I64 b ∷ values) e = refl
    unnumbered (Some table) (F32 b ∷ values) e = refl
    unnumbered (Some table) (F64 b ∷ values) e = refl
    unnumbered (Some table) (Ref r ∷ values) e = refl

pub table_missing : (st : State) (s : StackParts) (rest : List Instr) (index by : ℕ) (reference : Reference) → IsStacked s → s.top.rest ≡ TableGrow index ∷ rest
    → top_growth (own_stack s) ≡ Some (by, reference) → table_growable (slice_get st.tables index) by reference ≡ None → step st (stacks_term s) ≡ Stuck
unfolding table_effect
table_missing st s rest index by reference is at operands none = stuck_step st s rest is (table_outcome st s rest index by reference None at operands none)

pub table_fails : (st : State) (s : StackParts) (rest : List Instr) (index by : ℕ) (reference : Reference) → IsStacked s → s.top.rest ≡ TableGrow index ∷ rest
    → top_growth (own_stack s) ≡ Some (by, reference) → table_growable (slice_get st.tables index) by reference ≡ Some false
    → step st (stacks_term s) ≡ Next Nothing (stacks_term (failed_growth s rest 2))
unfolding table_effect
table_fails st s rest index by reference is at operands may =
    let long : s.top.height + 2 ≤ length s.values = growth_long s by reference operands in
    failed_last st s rest 2 is long
    (table_outcome st s rest index by reference (Some false) at operands may
    ∙ ap (λ (vs : List Value). outcome_reduct (locals_in (opened_of s.top) s.values) (code_in s.top.body rest) (Does (Yields Nothing (minus_one ∷ vs)))) (drop-own 2 s.top.height s.values long))

pub table_asks : (st : State) (s : StackParts) (rest : List Instr) (index by : ℕ) (reference : Reference) (have : ℕ) → IsStacked s → length s.values ≡ have
    → s.top.rest ≡ TableGrow index ∷ rest → top_growth (own_stack s) ≡ Some (by, reference) → table_growable (slice_get st.tables index) by reference ≡ Some true
    → HasAsked (step st (stacks_term s)) (AskingTable index by reference) 2 (stepped s rest have)
unfolding table_effect
table_asks st s rest index by reference have is len at operands may =
    let long : s.top.height + 2 ≤ length s.values = growth_long s by reference operands in
    asked_last st s rest (AskingTable index by reference) 2 have is len long (omega arith)
    (table_outcome st s rest index by reference (Some true) at operands may
    ∙ ap (λ (vs : List Value). outcome_reduct (locals_in (opened_of s.top) s.values) (code_in s.top.body rest) (Does (Poses (AskTable index by reference) vs))) (drop-own 2 s.top.height s.values long))
