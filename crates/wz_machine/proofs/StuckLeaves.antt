-- Each instruction that holds no others does what its rule says.
use Rattle.std.proofs.Common.{◌≡◌, ◌∷◌, ◌∙◌, [], ℕ, Option, true, IsTrue, is_some, None, Some, refl, List, slice_get, map, ap, option_map, subst, sym, ltb-true, length}
use Rattle.std.proofs.lemmas.Option.{slice_get-map}
use Rattle.wz_types.specs.declared.types.RefKind.{RefKind}
use Rattle.wz_types.proofs.SameTypeLemmas.{same_kind-true, same_kind-itself}
use Rattle.wz_types.specs.SameType.{same_kind}
use Rattle.wz_types.specs.declared.types.ValType.{ValType}
use Rattle.wz_types.specs.declared.value.Value.{Value}
use Rattle.wz_types.specs.declared.value.Value.TheVariants.{I32, I64, F32, F64, Ref}
use Rattle.wz_types.specs.declared.value.Reference.TheVariants.{Null}
use Rattle.wz_types.specs.Fits.{type_of_kind}
use Rattle.wz_types.specs.declared.types.ValType.TheVariants as valtype
use Rattle.wz_code.specs.declared.instr.Instr.{Instr}
use Rattle.wz_code.specs.Trees.{Plain, Leaf, TypedSelect, TableBranch}
use Rattle.wz_code.specs.Accesses.{shape_of}
use Rattle.wz_code.specs.declared.instr.Instr.TheVariants as instr
use Rattle.wz_num.specs.Laws.{NumbersServe}
use Rattle.wz_valid_code.specs.Context.{is_one_kind, Labels}
use Rattle.wz_valid_code.specs.Operands.{Operands}
use Rattle.wz_valid_code.specs.Rules.{Leads, Exchange}
use Rattle.wz_valid_code.specs.Instructions.{rule_of, select_rule}
use Rattle.wz_store.specs.Changes.{Nothing}
use Rattle.wz_store.specs.State.{Global, Table, Element}
use Rattle.wz_machine.specs.State.{State}
use Rattle.wz_machine.specs.TypedState.{IsStateTyped, state_context}
use Rattle.wz_machine.specs.TypedTerms.{as_operands}
use Rattle.wz_machine.specs.InstrSteps.{instr_step, leaf_step}
use Rattle.wz_machine.specs.Outcomes.{Yields}
use Rattle.wz_machine.specs.ReferenceSteps.{ref_is_null_step}
use Rattle.wz_machine.specs.ParametricSteps.{select_step}
use Rattle.wz_machine.specs.VariableSteps.{global_get_step}
use Rattle.wz_machine.specs.TableSteps.{table_get_step, table_set_step, table_size_step, table_grow_step, table_fill_step, table_copy_step, table_init_step, elem_drop_step}
use Rattle.wz_machine.specs.MemorySteps.{access_step, memory_size_step, memory_grow_step, memory_fill_step, memory_copy_step, memory_init_step, data_drop_step}
use Rattle.wz_machine.specs.TypedLaws.{StepKeepsTyping}
use Rattle.wz_machine.proofs.StuckPlain.{view-cases, const-serves, operation-serves, push-serves, null-of, is_null-serves, ref_func-serves, drop-serves, select-serves, get-serves, set_local-serves, tee-serves, global_set-serves, item-cases, typed_select-serves}
use Rattle.wz_machine.proofs.StuckRelations.{Have, scope_in, OutcomeServes, EffectServes, LeavesServe}
use Rattle.wz_machine.proofs.StuckOperands.{by-rule, rule-cases}
use Rattle.wz_machine.proofs.TypedLemmas.{if-passed}
use Rattle.wz_machine.proofs.StuckBranches.{branch-serves, branch_if-serves, offered-label, table_branch-serves}
use Rattle.wz_machine.proofs.StuckCalls.{direct-serves, indirect-serves}
use Rattle.wz_machine.proofs.StuckContexts.{step-serves}
use Rattle.wz_machine.proofs.StuckTables as tables
use Rattle.wz_machine.proofs.StuckMemories as memories

-- ---- two items of one kind

first-there : (one other : Option RefKind) → is_one_kind one other ≡ true → IsTrue (is_some one)
first-there None other h = absurd (cc h)
first-there (Some kind) other h = refl

second-there : (one other : Option RefKind) → is_one_kind one other ≡ true → IsTrue (is_some other)
second-there None other h = absurd (cc h)
second-there (Some kind) None h = absurd (cc h)
second-there (Some kind) (Some same) h = refl

kind-cases : {X Y : Type 0} (view : X → RefKind) (seen : Y → RefKind) (xs : List X) (ys : List Y) (i j : ℕ) (P : Option X → Option Y → Type 0)
    → is_one_kind (slice_get (map view xs) i) (slice_get (map seen ys) j) ≡ true
    → ((x : X) (y : Y) → slice_get xs i ≡ Some x → slice_get ys j ≡ Some y → view x ≡ seen y → P (Some x) (Some y)) → P (slice_get xs i) (slice_get ys j)
kind-cases {X = X} {Y = Y} view seen xs ys i j P h use_it =
    view-cases view xs i (λ (o : Option X). P o (slice_get ys j)) (first-there (slice_get (map view xs) i) (slice_get (map seen ys) j) h)
    (λ x is. view-cases seen ys j (λ (o : Option Y). P (Some x) o) (second-there (slice_get (map view xs) i) (slice_get (map seen ys) j) h)
    (λ y is_y. let one : slice_get (map view xs) i ≡ Some (view x) = slice_get-map view xs i ∙ ap (λ (o : Option X). option_map view o) is in
    let other : slice_get (map seen ys) j ≡ Some (seen y) = slice_get-map seen ys j ∙ ap (λ (o : Option Y). option_map seen o) is_y in
    use_it x y is is_y (same_kind-true (view x) (seen y)
    (subst (λ (o : Option RefKind). is_one_kind (Some (view x)) o ≡ true) other
    (subst (λ (o : Option RefKind). is_one_kind o (slice_get (map seen ys) j) ≡ true) one h)))))

same-kinds : (one other : RefKind) → one ≡ other → same_kind one other ≡ true
same-kinds one other e = subst (λ (k : RefKind). same_kind one k ≡ true) e (same_kind-itself one)

module _ (s : State) (typed : IsStateTyped (state_context s) s) (numbers : NumbersServe) where
  module _ (types returns : List ValType) (labels : Labels) (locals : List Value) (stands : Have s locals (as_operands types)) where
    abbrev three : List ValType
    three = valtype.I32 ∷ valtype.I32 ∷ valtype.I32 ∷ []

    instr-serves : (i : Instr) (values : List Value) (before next : Operands) → Leads (rule_of (scope_in s types returns) labels (Plain i)) before next
        → Have s values before → OutcomeServes s (scope_in s types returns) labels next (instr_step s locals i values)
    -- 4.4.1 numeric instructions
    instr-serves (instr.I32Const bits) values before next h st = const-serves s typed (I32 bits) valtype.I32 32 bits values before next (λ fit. fit) h st
    instr-serves (instr.I64Const bits) values before next h st = const-serves s typed (I64 bits) valtype.I64 64 bits values before next (λ fit. fit) h st
    instr-serves (instr.F32Const bits) values before next h st = const-serves s typed (F32 bits) valtype.F32 32 bits values before next (λ fit. fit) h st
    instr-serves (instr.F64Const bits) values before next h st = const-serves s typed (F64 bits) valtype.F64 64 bits values before next (λ fit. fit) h st
    instr-serves (instr.Num op) values before next h st = operation-serves s typed numbers op values before next h st
    -- 4.4.2 reference instructions
    instr-serves (instr.RefNull kind) values before next h st =
        by-rule s (λ vs. Yields Nothing (Ref (Null kind) ∷ vs)) [] (type_of_kind kind ∷ []) values before next
        (push-serves s typed (Ref (Null kind)) (type_of_kind kind) (null-of s typed kind)) h st
    instr-serves instr.RefIsNull values before next (operand, below, is, test, leads) st =
        subst (λ (x : Operands). EffectServes s x (ref_is_null_step values)) (sym leads)
        (is_null-serves s typed values operand below (subst (λ (x : Operands). Have s values x) is st) test)
    instr-serves (instr.RefFunc index) values before next h st = ref_func-serves s typed index values before next h st
    -- 4.4.4 parametric instructions
    instr-serves instr.Drop values before next h st = drop-serves s typed values before next h st
    instr-serves instr.Select values before next (condition, second, first, result, below, is, fit, two, one, num, leads) st =
        subst (λ (x : Operands). EffectServes s x (select_step values)) (sym leads)
        (select-serves s typed values condition second first result below (subst (λ (x : Operands). Have s values x) is st) fit two one)
    -- 4.4.5 variable instructions
    instr-serves (instr.LocalGet index) values before next h st = get-serves s typed types returns labels locals stands index values before next h st
    instr-serves (instr.LocalSet index) values before next h st = set_local-serves s typed types returns labels locals stands index values before next h st
    instr-serves (instr.LocalTee index) values before next h st = tee-serves s typed types returns labels locals stands index values before next h st
    instr-serves (instr.GlobalGet index) values before next h st =
        rule-cases (λ (global : Global). global.type) s.globals index (λ type. Exchange [] (type.value ∷ []))
        (λ o. EffectServes s next (global_get_step o values)) before next h
        (λ global is l. by-rule s (λ vs. Yields Nothing (global.content ∷ vs)) [] (global.type.value ∷ []) values before next
        (push-serves s typed global.content global.type.value (typed.globals index global is)) l st)
    instr-serves (instr.GlobalSet index) values before next h st = global_set-serves s typed index values before next h st
    -- 4.4.6 table instructions
    instr-serves (instr.TableGet index) values before next h st =
        rule-cases (λ (t : Table). t.kind) s.tables index (λ kind. Exchange (valtype.I32 ∷ []) (type_of_kind kind ∷ []))
        (λ o. EffectServes s next (table_get_step o values)) before next h
        (λ t is l. by-rule s (λ vs. table_get_step (Some t) vs) (valtype.I32 ∷ []) (type_of_kind t.kind ∷ []) values before next
        (tables.get-serves s typed index t is) l st)
    instr-serves (instr.TableSet index) values before next h st =
        rule-cases (λ (t : Table). t.kind) s.tables index (λ kind. Exchange (valtype.I32 ∷ type_of_kind kind ∷ []) [])
        (λ o. EffectServes s next (table_set_step index o values)) before next h
        (λ t is l. by-rule s (λ vs. table_set_step index (Some t) vs) (valtype.I32 ∷ type_of_kind t.kind ∷ []) [] values before next
        (tables.set-serves s typed index t is) l st)
    instr-serves (instr.TableSize index) values before next h st =
        let r = if-passed _ _ _ _ h in
        view-cases (λ (t : Table). t.kind) s.tables index (λ o. EffectServes s next (table_size_step o values)) r.0
        (λ t is. by-rule s (λ vs. table_size_step (Some t) vs) [] (valtype.I32 ∷ []) values before next (tables.size-serves s typed index t is) r.1 st)
    instr-serves (instr.TableGrow index) values before next h st =
        rule-cases (λ (t : Table). t.kind) s.tables index (λ kind. Exchange (type_of_kind kind ∷ valtype.I32 ∷ []) (valtype.I32 ∷ []))
        (λ o. EffectServes s next (table_grow_step index o values)) before next h
        (λ t is l. by-rule s (λ vs. table_grow_step index (Some t) vs) (type_of_kind t.kind ∷ valtype.I32 ∷ []) (valtype.I32 ∷ []) values before next
        (tables.grow-serves s typed index t is) l st)
    instr-serves (instr.TableFill index) values before next h st =
        rule-cases (λ (t : Table). t.kind) s.tables index (λ kind. Exchange (valtype.I32 ∷ type_of_kind kind ∷ valtype.I32 ∷ []) [])
        (λ o. EffectServes s next (table_fill_step index o values)) before next h
        (λ t is l. by-rule s (λ vs. table_fill_step index (Some t) vs) (valtype.I32 ∷ type_of_kind t.kind ∷ valtype.I32 ∷ []) [] values before next
        (tables.fill-serves s typed index t is) l st)
    instr-serves (instr.TableCopy index other) values before next h st =
        let r = if-passed _ _ _ _ h in
        kind-cases (λ (t : Table). t.kind) (λ (t : Table). t.kind) s.tables s.tables index other (λ t f. EffectServes s next (table_copy_step index t f values)) r.0
        (λ t f is_t is_f same. by-rule s (λ vs. table_copy_step index (Some t) (Some f) vs) three [] values before next
        (tables.copy-serves s typed index t other f is_t is_f (same-kinds f.kind t.kind (sym same)) (sym same)) r.1 st)
    instr-serves (instr.TableInit segment index) values before next h st =
        let r = if-passed _ _ _ _ h in
        kind-cases (λ (e : Element). e.kind) (λ (t : Table). t.kind) s.elements s.tables segment index (λ e t. EffectServes s next (table_init_step index t e values)) r.0
        (λ e t is_e is_t same. by-rule s (λ vs. table_init_step index (Some t) (Some e) vs) three [] values before next
        (tables.init-serves s typed index t segment e is_t is_e (same-kinds e.kind t.kind same) same) r.1 st)
    instr-serves (instr.ElemDrop segment) values before next h st =
        let r = if-passed _ _ _ _ h in
        view-cases (λ (e : Element). e.kind) s.elements segment (λ o. EffectServes s next (elem_drop_step segment o values)) r.0
        (λ e is. by-rule s (λ vs. elem_drop_step segment (Some e) vs) [] [] values before next (λ vs below off st. (tt, st)) r.1 st)
    -- 4.4.7 memory instructions
    instr-serves (instr.Access op align offset index) values before next h st =
        let r = if-passed _ _ _ _ h in
        let a = if-passed _ _ _ _ r.1 in
        item-cases s.memories index (λ o. EffectServes s next (access_step (shape_of op) offset index o values)) (ltb-true index (length s.memories) r.0)
        (λ m is. memories.access-serves s typed op offset index m values before next is a.1 st)
    instr-serves (instr.MemorySize index) values before next h st =
        let r = if-passed _ _ _ _ h in
        item-cases s.memories index (λ o. EffectServes s next (memory_size_step o values)) (ltb-true index (length s.memories) r.0)
        (λ m is. by-rule s (λ vs. memory_size_step (Some m) vs) [] (valtype.I32 ∷ []) values before next (memories.size-serves s typed index m is) r.1 st)
    instr-serves (instr.MemoryGrow index) values before next h st =
        let r = if-passed _ _ _ _ h in
        item-cases s.memories index (λ o. EffectServes s next (memory_grow_step index o values)) (ltb-true index (length s.memories) r.0)
        (λ m is. by-rule s (λ vs. memory_grow_step index (Some m) vs) (valtype.I32 ∷ []) (valtype.I32 ∷ []) values before next
        (memories.grow-serves s typed index m) r.1 st)
    instr-serves (instr.MemoryFill index) values before next h st =
        let r = if-passed _ _ _ _ h in
        item-cases s.memories index (λ o. EffectServes s next (memory_fill_step index o values)) (ltb-true index (length s.memories) r.0)
        (λ m is. by-rule s (λ vs. memory_fill_step index (Some m) vs) three [] values before next (memories.fill-serves s typed index m is) r.1 st)
    instr-serves (instr.MemoryCopy index other) values before next h st =
        let r = if-passed _ _ _ _ h in
        let f = if-passed _ _ _ _ r.1 in
        item-cases s.memories index (λ o. EffectServes s next (memory_copy_step index o (slice_get s.memories other) values)) (ltb-true index (length s.memories) r.0)
        (λ m is. item-cases s.memories other (λ o. EffectServes s next (memory_copy_step index (Some m) o values)) (ltb-true other (length s.memories) f.0)
        (λ source is_source. by-rule s (λ vs. memory_copy_step index (Some m) (Some source) vs) three [] values before next
        (memories.copy-serves s typed index m other source is is_source) f.1 st))
    instr-serves (instr.MemoryInit segment index) values before next h st =
        let r = if-passed _ _ _ _ h in
        let d = if-passed _ _ _ _ r.1 in
        item-cases s.memories index (λ o. EffectServes s next (memory_init_step index o (slice_get s.datas segment) values)) (ltb-true index (length s.memories) r.0)
        (λ m is. item-cases s.datas segment (λ o. EffectServes s next (memory_init_step index (Some m) o values)) (ltb-true segment (length s.datas) d.0)
        (λ bytes is_data. by-rule s (λ vs. memory_init_step index (Some m) (Some bytes) vs) three [] values before next
        (memories.init-serves s typed index m segment bytes is is_data) d.1 st))
    instr-serves (instr.DataDrop segment) values before next h st =
        let r = if-passed _ _ _ _ h in
        item-cases s.datas segment (λ o. EffectServes s next (data_drop_step segment o values)) (ltb-true segment (length s.datas) r.0)
        (λ bytes is. by-rule s (λ vs. data_drop_step segment (Some bytes) vs) [] [] values before next (λ vs below off st. (tt, st)) r.1 st)
    -- 4.4.8 control instructions
    instr-serves instr.Nop values before next h st = by-rule s (λ vs. Yields Nothing vs) [] [] values before next (λ vs below off st. (tt, st)) h st
    instr-serves instr.Unreachable values before next h st = tt
    instr-serves (instr.Br label) values before next h st = branch-serves s typed types returns labels label values before next h st
    instr-serves (instr.BrIf label) values before next h st = branch_if-serves s typed types returns labels label values before next h st
    instr-serves instr.Return values before next h st = offered-label s typed types returns labels returns values before h.0 h.1 st
    instr-serves (instr.Call function) values before next h st = direct-serves s typed types returns labels function values before next h st
    instr-serves (instr.CallIndirect signature index) values before next h st = indirect-serves s typed types returns labels signature index values before next h st
    -- those that have no rule in this form
    instr-serves (instr.Block shape body) values before next h st = absurd h
    instr-serves (instr.Loop shape body) values before next h st = absurd h
    instr-serves (instr.If shape one other) values before next h st = absurd h
    instr-serves (instr.BrTable from count last) values before next h st = absurd h
    instr-serves (instr.SelectTyped from count) values before next h st = absurd h

    select_types-serves : (asked : List ValType) (values : List Value) (before next : Operands) → Leads (select_rule asked) before next
        → Have s values before → EffectServes s next (select_step values)
    select_types-serves [] values before next h st = absurd h
    select_types-serves (type ∷ []) values before next h st =
        by-rule s (λ vs. select_step vs) (type ∷ type ∷ valtype.I32 ∷ []) (type ∷ []) values before next (typed_select-serves s typed type) h st
    select_types-serves (type ∷ other ∷ asked) values before next h st = absurd h

    leaf-serves : (leaf : Leaf) (values : List Value) (before next : Operands) → Leads (rule_of (scope_in s types returns) labels leaf) before next
        → Have s values before → OutcomeServes s (scope_in s types returns) labels next (leaf_step s locals leaf values)
    leaf-serves (Plain i) values before next h st = instr-serves i values before next h st
    leaf-serves (TypedSelect asked) values before next h st = select_types-serves asked values before next h st
    leaf-serves (TableBranch others last) values before next h st = table_branch-serves s typed types returns labels others last values before next h st

  pub leaves-serve : LeavesServe s
  leaves-serve = record { serves = λ types returns labels leaf locals values before next h st l. leaf-serves types returns labels locals l leaf values before next h st }

pub step_keeps_typing : NumbersServe → StepKeepsTyping
step_keeps_typing numbers s term results typed h = step-serves s (leaves-serve s typed numbers) term results h
