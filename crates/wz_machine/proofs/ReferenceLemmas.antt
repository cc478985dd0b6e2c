-- Steps put no references anywhere but null, the instance's own functions, and those that were there.
use Rattle.std.proofs.Common.{◌≡◌, ◌+◌, ◌*◌, ◌%◌, ◌++◌, ◌∷◌, ◌&&◌, ◌==◌, [], ℕ, if◌then◌else◌, Bool, List, take, zero, suc, drop, reverse, subst, sym, slice_set, Option, None, Some, slice_get, IsTrue, replicate, Result, Ok, Err, nat_lt, length, nat_le, refl}
use Rattle.std.proofs.lemmas.List.{reverse-append}
use Rattle.wz_types.specs.declared.value.Reference.{Reference}
use Rattle.wz_types.specs.declared.value.Value.{Value}
use Rattle.wz_types.specs.declared.value.Value.TheVariants.{I32, I64, F32, F64, Ref}
use Rattle.wz_types.specs.declared.trap.TrapKind.{TrapKind}
use Rattle.wz_types.specs.declared.types.ValType.{ValType}
use Rattle.wz_types.specs.declared.value.Reference.TheVariants.{Null, Fn, Foreign}
use Rattle.wz_types.specs.Fits.{value_fits, kind_of}
use Rattle.wz_types.specs.declared.types.RefKind.{RefKind}
use Rattle.wz_types.specs.SameType.{same_kind, same_function_type}
use Rattle.wz_types.specs.declared.trap.TrapKind.TheVariants.{TableBounds, MemoryBounds, IndirectType}
use Rattle.wz_types.specs.Zeros.{zeros_of, zero_of}
use Rattle.wz_types.specs.FunctionType.{FunctionType}
use Rattle.wz_types.specs.declared.value.Sort.{Sort}
use Rattle.wz_types.specs.declared.types.ValType.TheVariants as valtype
use Rattle.wz_types.specs.declared.types.RefKind.TheVariants as kind
use Rattle.wz_types.specs.declared.value.Sort.TheVariants as sort
use Rattle.wz_code.specs.declared.numeric.NumOp.{NumOp}
use Rattle.wz_code.specs.declared.accesses.AccessShape.{AccessShape}
use Rattle.wz_code.specs.declared.instr.Instr.{Instr}
use Rattle.wz_code.specs.Numeric.{types_of}
use Rattle.wz_code.specs.Accesses.{shape_of}
use Rattle.wz_code.specs.Trees.{Leaf, Plain, TypedSelect, TableBranch, Code, End, Then, InBlock, InLoop, InIf}
use Rattle.wz_code.specs.declared.numeric.NumOp.TheVariants as op
use Rattle.wz_code.specs.declared.instr.Instr.TheVariants as instr
use Rattle.wz_num.specs.declared.answer.NumAnswer.{NumAnswer}
use Rattle.wz_num.specs.Number.{Meaning, i32_or_trap, i64_or_trap, meaning_of, meant, number}
use Rattle.wz_num.specs.Number.Meaning.{OneI32, OneI64, OneF32, OneF64, TwoI32, TwoI64, TwoF32, TwoF64}
use Rattle.wz_num.specs.Integers.{idiv_s, idiv_u, irem_s, irem_u}
use Rattle.wz_num.specs.declared.answer.NumAnswer.TheVariants as answer
use Rattle.wz_linear.specs.Bytes.{part, number_of, bytes_of}
use Rattle.wz_store.specs.State.{Global, Table, Memory, Element, pages_of}
use Rattle.wz_store.specs.Changes.{SetGlobal, WriteTable, Nothing, WriteMemory, with_content, with_entries, GrowTable, with_more_entries, GrowMemory, EmptyElement, without_items, EmptyData}
use Rattle.wz_store.specs.Growth.{may_extend, may_grow}
use Rattle.wz_bulk.specs.TableEffects.{entries_effect, entry_or_trap}
use Rattle.wz_bulk.specs.Effects.{BulkEffect, Makes, Aborts, Misfits}
use Rattle.wz_bulk.specs.MemoryEffects.{bytes_effect}
use Rattle.wz_machine.specs.References.{is_own, ValuesHold, ValueHolds, AllAre, ChangeHolds, QuestionHolds, InsideHolds, TakesOwn, StateHolds, AnswerHolds, StepAddsNoReference, ChangeAddsNoReference, StandingHolds, EntryAddsNoReference, PutAddsNoReference}
use Rattle.wz_machine.specs.Outcomes.{Effect, Yields, Poses, Fails, HasNoRule, Outcome, Does, SetsLocals, Jumps, Quits, Calls, Reduct, Goes, Finishes, Branches, Returns, Pauses, Traps, Sticks, Answer, Done, Stuck}
use Rattle.wz_machine.specs.NumericSteps.{result_effect, operation_step}
use Rattle.wz_machine.specs.ReferenceSteps.{ref_is_null_step, ref_func_step}
use Rattle.wz_machine.specs.State.{FunctionInstance, FunctionBody, OwnBody, ImportedBody, NoBody, Callable, callable_at, State}
use Rattle.wz_machine.specs.ParametricSteps.{drop_step, select_step}
use Rattle.wz_machine.specs.VariableSteps.{local_get_step, local_set_step, local_tee_step, global_set_step, global_get_step}
use Rattle.wz_machine.specs.BulkSteps.{bulk_step, minus_one}
use Rattle.wz_machine.specs.TableSteps.{entry_effect, table_set_step, table_size_step, table_grow_step, table_fill_step, elem_drop_step, table_get_step, table_copy_step, table_init_step}
use Rattle.wz_machine.specs.Terms.{AskTable, AskMemory, AskHost, InLabel, Innermost, Inside, InFrame, Frame, BareValues}
use Rattle.wz_machine.specs.MemorySteps.{memory_fill_step, memory_copy_step, memory_init_step, data_drop_step, memory_size_step, memory_grow_step, value_effect, value_of_bits, load_step, read_value, extension, bits_in, write_effect, store_step, bits_of_value, access_step}
use Rattle.wz_machine.specs.ControlSteps.{br_if_step, listed_jump, br_table_step}
use Rattle.wz_machine.specs.CallSteps.{invocation, with_arguments, call_step, expected_call, host_call, foreign_call, sort_call, entry_call, call_indirect_step}
use Rattle.wz_machine.specs.InstrSteps.{instr_step, leaf_step}
use Rattle.wz_machine.specs.Step.{effect_reduct, outcome_reduct, code_reduct, inside_reduct, results_answer, frame_answer}
use Rattle.wz_machine.specs.BlockSteps.{block_entry, label_types, if_entry, block_type, arrival, label_reduct, frame_left, frame_reduct}
use Rattle.wz_machine.specs.Entered.{entered_callable, entered_body}
use Rattle.wz_machine.specs.Replies.{put_inside}
use Rattle.wz_machine.specs.declared.questions.HostTarget.TheVariants as target
use Rattle.wz_machine.proofs.StuckParts.{each-same, each-drop, each-take, each-written, each-join}
use Rattle.wz_machine.proofs.LeafLemmas.{if-both}
use Rattle.wz_machine.proofs.StuckChanges.{each-altered}

-- ---- values

module _ (is : Reference → Bool) where
  values-append : (a b : List Value) → ValuesHold is a → ValuesHold is b → ValuesHold is (a ++ b)
  values-append [] b h k = k
  values-append (v ∷ a) b h k = (h.0, values-append a b h.1 k)

  values-take : (n : ℕ) (values : List Value) → ValuesHold is values → ValuesHold is (take n values)
  values-take zero values h = tt
  values-take (suc n) [] h = tt
  values-take (suc n) (v ∷ values) h = (h.0, values-take n values h.1)

  values-drop : (n : ℕ) (values : List Value) → ValuesHold is values → ValuesHold is (drop n values)
  values-drop zero values h = h
  values-drop (suc n) [] h = tt
  values-drop (suc n) (v ∷ values) h = values-drop n values h.1

  values-reverse : (values : List Value) → ValuesHold is values → ValuesHold is (reverse values)
  values-reverse [] h = tt
  values-reverse (v ∷ values) h =
      let e : reverse (v ∷ values) ≡ reverse values ++ v ∷ [] = reverse-append (v ∷ []) values in
      subst (λ (x : List Value). ValuesHold is x) (sym e) (values-append (reverse values) (v ∷ []) (values-reverse values h.1) (h.0, tt))

  values-set : (values : List Value) (i : ℕ) (v : Value) → ValuesHold is values → ValueHolds is v → ValuesHold is (slice_set values i v)
  values-set [] i v h k = tt
  values-set (u ∷ values) zero v h k = (k, h.1)
  values-set (u ∷ values) (suc i) v h k = (h.0, values-set values i v h.1 k)

  -- what a lookup among them gives
  abbrev FoundHolds : Option Value → Type 0
  FoundHolds None = Unit {0}
  FoundHolds (Some v) = ValueHolds is v

  values-get : (values : List Value) (i : ℕ) → ValuesHold is values → FoundHolds (slice_get values i)
  values-get [] i h = tt
  values-get (v ∷ values) zero h = h.0
  values-get (v ∷ values) (suc i) h = values-get values i h.1

  all-one : (reference : Reference) → IsTrue (is reference) → AllAre is (reference ∷ [])
  all-one reference h zero r e = subst (λ (x : Reference). IsTrue (is x)) (cc e) h
  all-one reference h (suc k) r e = absurd (cc e)

  all-same : (count : ℕ) (reference : Reference) → IsTrue (is reference) → AllAre is (replicate count reference)
  all-same count reference h k r e = subst (λ (x : Reference). IsTrue (is x)) (each-same reference count k r e) h

  all-part : (items : List Reference) (from count : ℕ) → AllAre is items → AllAre is (take count (drop from items))
  all-part items from count h k r e = let j = each-drop items from k r (each-take (drop from items) count k r e) in h j.0 r j.1

-- ---- what an instruction comes to

abbrev EffectHolds : (Reference → Bool) → Effect → Type 0
EffectHolds is (Yields change values) = ChangeHolds is change × ValuesHold is values
EffectHolds is (Poses question values) = QuestionHolds is question × ValuesHold is values
EffectHolds is (Fails kind) = Unit {0}
EffectHolds is HasNoRule = Unit {0}

abbrev OutcomeHolds : (Reference → Bool) → Outcome → Type 0
OutcomeHolds is (Does effect) = EffectHolds is effect
OutcomeHolds is (SetsLocals locals values) = ValuesHold is locals × ValuesHold is values
OutcomeHolds is (Jumps label values) = ValuesHold is values
OutcomeHolds is (Quits values) = ValuesHold is values
OutcomeHolds is (Calls count inner code values) = ValuesHold is inner × ValuesHold is values

abbrev ReductHolds : (Reference → Bool) → Reduct → Type 0
ReductHolds is (Goes change locals inside) = ChangeHolds is change × ValuesHold is locals × InsideHolds is inside
ReductHolds is (Finishes values) = ValuesHold is values
ReductHolds is (Branches label values) = ValuesHold is values
ReductHolds is (Returns values) = ValuesHold is values
ReductHolds is (Pauses question inside) = QuestionHolds is question × InsideHolds is inside
ReductHolds is (Traps kind) = Unit {0}
ReductHolds is Sticks = Unit {0}

-- ---- numeric operations give numbers

abbrev IsNumber : Value → Type 0
IsNumber (I32 bits) = Unit {0}
IsNumber (I64 bits) = Unit {0}
IsNumber (F32 bits) = Unit {0}
IsNumber (F64 bits) = Unit {0}
IsNumber (Ref reference) = ⊥

abbrev GivesNumber : NumAnswer → Type 0
GivesNumber (answer.Gives value) = IsNumber value
GivesNumber (answer.Trap kind) = Unit {0}
GivesNumber answer.Ask = Unit {0}
GivesNumber answer.Stuck = Unit {0}

abbrev MeansNumber : Meaning → Type 0
MeansNumber (OneI32 f) = (a : ℕ) → GivesNumber (f a)
MeansNumber (OneI64 f) = (a : ℕ) → GivesNumber (f a)
MeansNumber (OneF32 f) = (a : ℕ) → GivesNumber (f a)
MeansNumber (OneF64 f) = (a : ℕ) → GivesNumber (f a)
MeansNumber (TwoI32 f) = (a b : ℕ) → GivesNumber (f a b)
MeansNumber (TwoI64 f) = (a b : ℕ) → GivesNumber (f a b)
MeansNumber (TwoF32 f) = (a b : ℕ) → GivesNumber (f a b)
MeansNumber (TwoF64 f) = (a b : ℕ) → GivesNumber (f a b)

i32-number : (r : Result ℕ TrapKind) → GivesNumber (i32_or_trap r)
i32-number (Ok a) = tt
i32-number (Err kind) = tt

i64-number : (r : Result ℕ TrapKind) → GivesNumber (i64_or_trap r)
i64-number (Ok a) = tt
i64-number (Err kind) = tt

means-number : (op : NumOp) → MeansNumber (meaning_of op)
means-number op.I32Eqz = λ a. tt
means-number op.I64Eqz = λ a. tt
means-number op.I32Clz = λ a. tt
means-number op.I32Ctz = λ a. tt
means-number op.I32Popcnt = λ a. tt
means-number op.I32DivS = λ a b. i32-number (idiv_s 32 a b)
means-number op.I32DivU = λ a b. i32-number (idiv_u 32 a b)
means-number op.I32RemS = λ a b. i32-number (irem_s 32 a b)
means-number op.I32RemU = λ a b. i32-number (irem_u 32 a b)
means-number op.I64Clz = λ a. tt
means-number op.I64Ctz = λ a. tt
means-number op.I64Popcnt = λ a. tt
means-number op.I64DivS = λ a b. i64-number (idiv_s 64 a b)
means-number op.I64DivU = λ a b. i64-number (idiv_u 64 a b)
means-number op.I64RemS = λ a b. i64-number (irem_s 64 a b)
means-number op.I64RemU = λ a b. i64-number (irem_u 64 a b)
means-number op.F32Abs = λ a. tt
means-number op.F32Neg = λ a. tt
means-number op.F32Ceil = λ a. tt
means-number op.F32Floor = λ a. tt
means-number op.F32Trunc = λ a. tt
means-number op.F32Nearest = λ a. tt
means-number op.F32Sqrt = λ a. tt
means-number op.F64Abs = λ a. tt
means-number op.F64Neg = λ a. tt
means-number op.F64Ceil = λ a. tt
means-number op.F64Floor = λ a. tt
means-number op.F64Trunc = λ a. tt
means-number op.F64Nearest = λ a. tt
means-number op.F64Sqrt = λ a. tt
means-number op.I32WrapI64 = λ a. tt
means-number op.I32TruncF32S = λ a. tt
means-number op.I32TruncF32U = λ a. tt
means-number op.I32TruncF64S = λ a. tt
means-number op.I32TruncF64U = λ a. tt
means-number op.I64ExtendI32S = λ a. tt
means-number op.I64ExtendI32U = λ a. tt
means-number op.I64TruncF32S = λ a. tt
means-number op.I64TruncF32U = λ a. tt
means-number op.I64TruncF64S = λ a. tt
means-number op.I64TruncF64U = λ a. tt
means-number op.F32ConvertI32S = λ a. tt
means-number op.F32ConvertI32U = λ a. tt
means-number op.F32ConvertI64S = λ a. tt
means-number op.F32ConvertI64U = λ a. tt
means-number op.F32DemoteF64 = λ a. tt
means-number op.F64ConvertI32S = λ a. tt
means-number op.F64ConvertI32U = λ a. tt
means-number op.F64ConvertI64S = λ a. tt
means-number op.F64ConvertI64U = λ a. tt
means-number op.F64PromoteF32 = λ a. tt
means-number op.I32ReinterpretF32 = λ a. tt
means-number op.I64ReinterpretF64 = λ a. tt
means-number op.F32ReinterpretI32 = λ a. tt
means-number op.F64ReinterpretI64 = λ a. tt
means-number op.I32Extend8S = λ a. tt
means-number op.I32Extend16S = λ a. tt
means-number op.I64Extend8S = λ a. tt
means-number op.I64Extend16S = λ a. tt
means-number op.I64Extend32S = λ a. tt
means-number op.I32TruncSatF32S = λ a. tt
means-number op.I32TruncSatF32U = λ a. tt
means-number op.I32TruncSatF64S = λ a. tt
means-number op.I32TruncSatF64U = λ a. tt
means-number op.I64TruncSatF32S = λ a. tt
means-number op.I64TruncSatF32U = λ a. tt
means-number op.I64TruncSatF64S = λ a. tt
means-number op.I64TruncSatF64U = λ a. tt
means-number op = λ a b. tt

meant-number : (m : Meaning) (operands : List Value) → MeansNumber m → GivesNumber (meant m operands)
meant-number (OneI32 f) (I32 a ∷ []) h = h a
meant-number (OneI64 f) (I64 a ∷ []) h = h a
meant-number (OneF32 f) (F32 a ∷ []) h = h a
meant-number (OneF64 f) (F64 a ∷ []) h = h a
meant-number (TwoI32 f) (I32 a ∷ I32 b ∷ []) h = h a b
meant-number (TwoI64 f) (I64 a ∷ I64 b ∷ []) h = h a b
meant-number (TwoF32 f) (F32 a ∷ F32 b ∷ []) h = h a b
meant-number (TwoF64 f) (F64 a ∷ F64 b ∷ []) h = h a b
meant-number m operands h = tt

gives-number : (op : NumOp) (operands : List Value) → GivesNumber (number op operands)
unfolding number
gives-number op operands = meant-number (meaning_of op) operands (means-number op)

-- ---- instructions

module _ (is : Reference → Bool) (own : TakesOwn is) where
  number-holds : (value : Value) → IsNumber value → ValueHolds is value
  number-holds (I32 bits) h = tt
  number-holds (I64 bits) h = tt
  number-holds (F32 bits) h = tt
  number-holds (F64 bits) h = tt
  number-holds (Ref reference) h = absurd h

  result-holds : (op : NumOp) (operands values : List Value) (n : NumAnswer) → GivesNumber n → ValuesHold is values → EffectHolds is (result_effect op operands values n)
  result-holds op operands values (answer.Gives value) n h = (tt, (number-holds value n, h))
  result-holds op operands values (answer.Trap kind) n h = tt
  result-holds op operands values answer.Ask n h = (tt, h)
  result-holds op operands values answer.Stuck n h = tt

  operation-holds : (op : NumOp) (second : Option ValType) (values : List Value) → ValuesHold is values → EffectHolds is (operation_step op second values)
  operation-holds op None (a ∷ values) h = result-holds op (a ∷ []) values (number op (a ∷ [])) (gives-number op (a ∷ [])) h.1
  operation-holds op (Some type) (b ∷ a ∷ values) h =
      result-holds op (a ∷ b ∷ []) values (number op (a ∷ b ∷ [])) (gives-number op (a ∷ b ∷ [])) h.1.1
  operation-holds op second values h = tt

  null_test-holds : (values : List Value) → ValuesHold is values → EffectHolds is (ref_is_null_step values)
  null_test-holds (Ref (Null kind) ∷ values) h = (tt, (tt, h.1))
  null_test-holds (Ref (Fn index) ∷ values) h = (tt, (tt, h.1))
  null_test-holds (Ref (Foreign id sort) ∷ values) h = (tt, (tt, h.1))
  null_test-holds values h = tt

  ref_func-holds : (index : ℕ) (function : Option FunctionInstance) (values : List Value) → ValuesHold is values → EffectHolds is (ref_func_step index function values)
  ref_func-holds index None values h = tt
  ref_func-holds index (Some function) values h = (tt, (own.own index, h))

  drop-holds : (values : List Value) → ValuesHold is values → EffectHolds is (drop_step values)
  drop-holds [] h = tt
  drop-holds (value ∷ values) h = (tt, h.1)

  select-holds : (values : List Value) → ValuesHold is values → EffectHolds is (select_step values)
  select-holds (I32 (suc c) ∷ second ∷ first ∷ values) h = (tt, h.1.1)
  select-holds (I32 zero ∷ second ∷ first ∷ values) h = (tt, (h.1.0, h.1.1.1))
  select-holds values h = tt

  -- ---- variables

  local_get-holds : (value : Option Value) (values : List Value) → FoundHolds is value → ValuesHold is values → EffectHolds is (local_get_step value values)
  local_get-holds None values f h = tt
  local_get-holds (Some value) values f h = (tt, (f, h))

  local_set-holds : (locals : List Value) (index : ℕ) (old : Option Value) (values : List Value) → ValuesHold is locals → ValuesHold is values
      → OutcomeHolds is (local_set_step locals index old values)
  local_set-holds locals index (Some old) (value ∷ values) l h = (values-set is locals index value l h.0, h.1)
  local_set-holds locals index old values l h = tt

  local_tee-holds : (locals : List Value) (index : ℕ) (old : Option Value) (values : List Value) → ValuesHold is locals → ValuesHold is values
      → OutcomeHolds is (local_tee_step locals index old values)
  local_tee-holds locals index (Some old) (value ∷ values) l h = (values-set is locals index value l h.0, h)
  local_tee-holds locals index old values l h = tt

  global_set-holds : (functions types index : ℕ) (global : Option Global) (values : List Value) → ValuesHold is values
      → EffectHolds is (global_set_step functions types index global values)
  global_set-holds functions types index (Some global) (value ∷ values) h =
      if-both (λ (e : Effect). EffectHolds is e) (value_fits value global.type.value functions types) (Yields (SetGlobal index value) values) HasNoRule (h.0, h.1) tt
  global_set-holds functions types index global values h = tt

  -- ---- tables

  entries-hold : (index : ℕ) (table : Table) (kind : RefKind) (to : ℕ) (new : List Reference) (fits : Bool) (values : List Value) → AllAre is new → ValuesHold is values
      → EffectHolds is (bulk_step values (entries_effect index table kind to new fits))
  entries-hold index table kind to new fits values a h =
      if-both (λ (e : BulkEffect). EffectHolds is (bulk_step values e)) (same_kind kind table.kind)
      (if fits then Makes (WriteTable index to new) else Aborts TableBounds) Misfits
      (if-both (λ (e : BulkEffect). EffectHolds is (bulk_step values e)) fits (Makes (WriteTable index to new)) (Aborts TableBounds) (a, h) tt) tt

  entry-holds : (entries : List Reference) (at : ℕ) (o : Option Reference) (values : List Value) → slice_get entries at ≡ o → AllAre is entries → ValuesHold is values
      → EffectHolds is (entry_effect (entry_or_trap o) values)
  entry-holds entries at None values e a h = tt
  entry-holds entries at (Some reference) values e a h = (tt, (a at reference e, h))

  table_set-holds : (index : ℕ) (table : Option Table) (values : List Value) → ValuesHold is values → EffectHolds is (table_set_step index table values)
  table_set-holds index (Some table) (Ref reference ∷ I32 at ∷ values) h =
      entries-hold index table (kind_of reference) at (reference ∷ []) (nat_lt at (length table.entries)) values (all-one is reference h.0) h.1.1
  table_set-holds index None (Ref reference ∷ I32 at ∷ values) h = tt
  table_set-holds index table values h = tt

  size-holds : (table : Option Table) (values : List Value) → ValuesHold is values → EffectHolds is (table_size_step table values)
  size-holds None values h = tt
  size-holds (Some table) values h = (tt, (tt, h))

  table_grow-holds : (index : ℕ) (table : Option Table) (values : List Value) → ValuesHold is values → EffectHolds is (table_grow_step index table values)
  table_grow-holds index (Some table) (I32 by ∷ Ref reference ∷ values) h =
      if-both (λ (e : Effect). EffectHolds is e) (same_kind (kind_of reference) table.kind)
      (if may_extend (length table.entries) table.maximum by then Poses (AskTable index by reference) values else Yields Nothing (minus_one ∷ values)) HasNoRule
      (if-both (λ (e : Effect). EffectHolds is e) (may_extend (length table.entries) table.maximum by) (Poses (AskTable index by reference) values)
      (Yields Nothing (minus_one ∷ values)) (h.1.0, h.1.1) (tt, (tt, h.1.1))) tt
  table_grow-holds index table values h = tt

  table_fill-holds : (index : ℕ) (table : Option Table) (values : List Value) → ValuesHold is values → EffectHolds is (table_fill_step index table values)
  table_fill-holds index (Some table) (I32 count ∷ Ref reference ∷ I32 to ∷ values) h =
      entries-hold index table (kind_of reference) to (replicate count reference) (nat_le (to + count) (length table.entries)) values
      (all-same is count reference h.1.0) h.1.1.1
  table_fill-holds index None (I32 count ∷ Ref reference ∷ I32 to ∷ values) h = tt
  table_fill-holds index table values h = tt

  -- ---- memories

  bytes-hold : (index to : ℕ) (bytes : List ℕ) (fits : Bool) (values : List Value) → ValuesHold is values
      → EffectHolds is (bulk_step values (bytes_effect index to bytes fits))
  bytes-hold index to bytes fits values h =
      if-both (λ (e : BulkEffect). EffectHolds is (bulk_step values e)) fits (Makes (WriteMemory index to bytes)) (Aborts MemoryBounds) (tt, h) tt

  fill-holds : (index : ℕ) (memory : Option Memory) (values : List Value) → ValuesHold is values → EffectHolds is (memory_fill_step index memory values)
  fill-holds index (Some memory) (I32 count ∷ I32 bits ∷ I32 to ∷ values) h =
      bytes-hold index to (replicate count (bits % 256)) (nat_le (to + count) (length memory.bytes)) values h.1.1.1
  fill-holds index None (I32 count ∷ I32 bits ∷ I32 to ∷ values) h = tt
  fill-holds index memory values h = tt

  copy-holds : (index : ℕ) (memory source : Option Memory) (values : List Value) → ValuesHold is values → EffectHolds is (memory_copy_step index memory source values)
  copy-holds index (Some memory) (Some source) (I32 count ∷ I32 from ∷ I32 to ∷ values) h =
      bytes-hold index to (part source.bytes from count) (nat_le (to + count) (length memory.bytes) && nat_le (from + count) (length source.bytes)) values h.1.1.1
  copy-holds index (Some memory) None (I32 count ∷ I32 from ∷ I32 to ∷ values) h = tt
  copy-holds index None source (I32 count ∷ I32 from ∷ I32 to ∷ values) h = tt
  copy-holds index memory source values h = tt

  init-holds : (index : ℕ) (memory : Option Memory) (segment : Option (List ℕ)) (values : List Value) → ValuesHold is values
      → EffectHolds is (memory_init_step index memory segment values)
  init-holds index (Some memory) (Some bytes) (I32 count ∷ I32 from ∷ I32 to ∷ values) h =
      bytes-hold index to (part bytes from count) (nat_le (to + count) (length memory.bytes) && nat_le (from + count) (length bytes)) values h.1.1.1
  init-holds index (Some memory) None (I32 count ∷ I32 from ∷ I32 to ∷ values) h = tt
  init-holds index None segment (I32 count ∷ I32 from ∷ I32 to ∷ values) h = tt
  init-holds index memory segment values h = tt

  data_drop-holds : (index : ℕ) (segment : Option (List ℕ)) (values : List Value) → ValuesHold is values → EffectHolds is (data_drop_step index segment values)
  data_drop-holds index None values h = tt
  data_drop-holds index (Some bytes) values h = (tt, h)

  elem_drop-holds : (index : ℕ) (element : Option Element) (values : List Value) → ValuesHold is values → EffectHolds is (elem_drop_step index element values)
  elem_drop-holds index None values h = tt
  elem_drop-holds index (Some element) values h = (tt, h)

  memory_size-holds : (memory : Option Memory) (values : List Value) → ValuesHold is values → EffectHolds is (memory_size_step memory values)
  memory_size-holds None values h = tt
  memory_size-holds (Some memory) values h = (tt, (tt, h))

  memory_grow-holds : (index : ℕ) (memory : Option Memory) (values : List Value) → ValuesHold is values → EffectHolds is (memory_grow_step index memory values)
  memory_grow-holds index (Some memory) (I32 by ∷ values) h =
      if-both (λ (e : Effect). EffectHolds is e) (may_grow (pages_of memory) memory.maximum by) (Poses (AskMemory index by) values) (Yields Nothing (minus_one ∷ values))
      (tt, h.1) (tt, (tt, h.1))
  memory_grow-holds index memory values h = tt

  -- what is read is a number
  bits-hold : (type : ValType) (bits : ℕ) (values : List Value) → ValuesHold is values → EffectHolds is (value_effect (value_of_bits type bits) values)
  bits-hold valtype.I32 bits values h = (tt, (tt, h))
  bits-hold valtype.I64 bits values h = (tt, (tt, h))
  bits-hold valtype.F32 bits values h = (tt, (tt, h))
  bits-hold valtype.F64 bits values h = (tt, (tt, h))
  bits-hold valtype.FuncRef bits values h = tt
  bits-hold valtype.ExternRef bits values h = tt

  load-holds : (shape : AccessShape) (offset : ℕ) (memory : Option Memory) (values : List Value) → ValuesHold is values
      → EffectHolds is (load_step shape offset memory values)
  load-holds shape offset (Some memory) (I32 base ∷ values) h =
      if-both (λ (e : Effect). EffectHolds is e) (nat_le (base + offset + shape.bytes) (length memory.bytes))
      (value_effect (read_value shape memory.bytes (base + offset)) values) (Fails MemoryBounds)
      (bits-hold shape.value
      (extension shape.signed (8 * shape.bytes) (bits_in shape.value) (number_of (part memory.bytes (base + offset) shape.bytes))) values h.1) tt
  load-holds shape offset memory values h = tt

  write-holds : (shape : AccessShape) (place index : ℕ) (memory : Memory) (bits : Option ℕ) (values : List Value) → ValuesHold is values
      → EffectHolds is (write_effect shape place index memory bits values)
  write-holds shape place index memory None values h = tt
  write-holds shape place index memory (Some bits) values h =
      if-both (λ (e : Effect). EffectHolds is e) (nat_le (place + shape.bytes) (length memory.bytes))
      (Yields (WriteMemory index place (bytes_of shape.bytes bits)) values)
      (Fails MemoryBounds) (tt, h) tt

  store-holds : (shape : AccessShape) (offset index : ℕ) (memory : Option Memory) (values : List Value) → ValuesHold is values
      → EffectHolds is (store_step shape offset index memory values)
  store-holds shape offset index (Some memory) (value ∷ I32 base ∷ values) h =
      write-holds shape (base + offset) index memory (bits_of_value shape.value value) values h.1.1
  store-holds shape offset index memory values h = tt

  access-holds : (shape : AccessShape) (offset index : ℕ) (memory : Option Memory) (values : List Value) → ValuesHold is values
      → EffectHolds is (access_step shape offset index memory values)
  access-holds shape offset index memory values h =
      if-both (λ (e : Effect). EffectHolds is e) shape.store (store_step shape offset index memory values) (load_step shape offset memory values)
      (store-holds shape offset index memory values h) (load-holds shape offset memory values h)

  -- ---- branches and calls

  br_if-holds : (label : ℕ) (values : List Value) → ValuesHold is values → OutcomeHolds is (br_if_step label values)
  br_if-holds label (I32 zero ∷ values) h = (tt, h.1)
  br_if-holds label (I32 (suc c) ∷ values) h = h.1
  br_if-holds label values h = tt

  listed-holds : (label : Option ℕ) (last : ℕ) (values : List Value) → ValuesHold is values → OutcomeHolds is (listed_jump label last values)
  listed-holds None last values h = h
  listed-holds (Some label) last values h = h

  br_table-holds : (labels : List ℕ) (last : ℕ) (values : List Value) → ValuesHold is values → OutcomeHolds is (br_table_step labels last values)
  br_table-holds labels last (I32 number ∷ values) h = listed-holds (slice_get labels number) last values h.1
  br_table-holds labels last values h = tt

  zeros-hold : (types : List ValType) → ValuesHold is (zeros_of types)
  zeros-hold [] = tt
  zeros-hold (type ∷ types) = (zero-holds type, zeros-hold types)
    where
      zero-holds : (type : ValType) → ValueHolds is (zero_of type)
      zero-holds valtype.I32 = tt
      zero-holds valtype.I64 = tt
      zero-holds valtype.F32 = tt
      zero-holds valtype.F64 = tt
      zero-holds valtype.FuncRef = own.null kind.Func
      zero-holds valtype.ExternRef = own.null kind.Extern

  invocation-holds : (type : FunctionType) (body : FunctionBody) (arguments values : List Value) → ValuesHold is arguments → ValuesHold is values
      → OutcomeHolds is (invocation type body arguments values)
  invocation-holds type (OwnBody locals code) arguments values a h = (values-append is arguments (zeros_of locals) a (zeros-hold locals), h)
  invocation-holds type (ImportedBody number) arguments values a h = (a, h)
  invocation-holds type NoBody arguments values a h = tt

  with-holds : (type : FunctionType) (outcome : List Value → List Value → Outcome) (values : List Value) → ValuesHold is values
      → ((arguments below : List Value) → ValuesHold is arguments → ValuesHold is below → OutcomeHolds is (outcome arguments below))
      → OutcomeHolds is (with_arguments type outcome values)
  with-holds type outcome values h on =
      let n : ℕ = length type.params in
      if-both (λ (o : Outcome). OutcomeHolds is o) (nat_le n (length values)) (outcome (reverse (take n values)) (drop n values)) (Does HasNoRule)
      (on (reverse (take n values)) (drop n values) (values-reverse is (take n values) (values-take is n values h)) (values-drop is n values h)) tt

  call-holds : (function : Option Callable) (values : List Value) → ValuesHold is values → OutcomeHolds is (call_step function values)
  call-holds None values h = tt
  call-holds (Some function) values h =
      with-holds function.type (λ arguments below. invocation function.type function.body arguments below) values h
      (λ arguments below a b. invocation-holds function.type function.body arguments below a b)

  expected-holds : (type : FunctionType) (function : Option Callable) (values : List Value) → ValuesHold is values → OutcomeHolds is (expected_call type function values)
  expected-holds type None values h = tt
  expected-holds type (Some function) values h =
      if-both (λ (o : Outcome). OutcomeHolds is o) (same_function_type function.type type) (call_step (Some function) values) (Does (Fails IndirectType))
      (call-holds (Some function) values h) tt

  host-holds : (type : FunctionType) (id : ℕ) (sort : Sort) (values : List Value) → IsTrue (is (Foreign id sort)) → ValuesHold is values
      → OutcomeHolds is (host_call type id values)
  host-holds type id sort values r h =
      with-holds type (λ arguments below. Does (Poses (AskHost (target.Foreign id) arguments type) below)) values h (λ arguments below a b. (((sort, r), a), b))

  foreign-holds : (type : FunctionType) (id : ℕ) (sort : Sort) (actual : Option FunctionType) (values : List Value) → IsTrue (is (Foreign id sort)) → ValuesHold is values
      → OutcomeHolds is (foreign_call type id actual values)
  foreign-holds type id sort None values r h = tt
  foreign-holds type id sort (Some actual) values r h =
      if-both (λ (o : Outcome). OutcomeHolds is o) (same_function_type actual type) (host_call type id values) (Does (Fails IndirectType))
      (host-holds type id sort values r h) tt

  sort-holds : (types : List FunctionType) (type : FunctionType) (id : ℕ) (sort : Sort) (values : List Value) → IsTrue (is (Foreign id sort)) → ValuesHold is values
      → OutcomeHolds is (sort_call types type id sort values)
  sort-holds types type id sort.Extern values r h = tt
  sort-holds types type id (sort.Func number) values r h = foreign-holds type id (sort.Func number) (slice_get types number) values r h
  sort-holds types type id sort.OtherFunc values r h = tt

  called-holds : (types : List FunctionType) (functions : List FunctionInstance) (type : FunctionType) (entries : List Reference) (at : ℕ) (o : Option Reference) (values : List Value)
      → slice_get entries at ≡ o → AllAre is entries → ValuesHold is values → OutcomeHolds is (entry_call types functions type o values)
  called-holds types functions type entries at None values e a h = tt
  called-holds types functions type entries at (Some (Null kind)) values e a h = tt
  called-holds types functions type entries at (Some (Fn index)) values e a h = expected-holds type (callable_at types functions index) values h
  called-holds types functions type entries at (Some (Foreign id sort)) values e a h = sort-holds types type id sort values (a at (Foreign id sort) e) h

  module _ (s : State) (holds : StateHolds is s) where
    global_get-holds : (index : ℕ) (o : Option Global) (values : List Value) → slice_get s.globals index ≡ o → ValuesHold is values
        → EffectHolds is (global_get_step o values)
    global_get-holds index None values e h = tt
    global_get-holds index (Some global) values e h = (tt, (holds.globals index global e, h))

    table_get-holds : (index : ℕ) (o : Option Table) (values : List Value) → slice_get s.tables index ≡ o → ValuesHold is values
        → EffectHolds is (table_get_step o values)
    table_get-holds index None (I32 at ∷ values) e h = tt
    table_get-holds index (Some table) (I32 at ∷ values) e h =
        entry-holds table.entries at (slice_get table.entries at) values refl (holds.tables index table e) h.1
    table_get-holds index o values e h = tt

    table_copy-holds : (index other : ℕ) (o source : Option Table) (values : List Value) → slice_get s.tables other ≡ source → ValuesHold is values
        → EffectHolds is (table_copy_step index o source values)
    table_copy-holds index other (Some table) (Some source) (I32 count ∷ I32 from ∷ I32 to ∷ values) e h =
        entries-hold index table source.kind to (take count (drop from source.entries))
        (nat_le (to + count) (length table.entries) && nat_le (from + count) (length source.entries)) values
        (all-part is source.entries from count (holds.tables other source e)) h.1.1.1
    table_copy-holds index other (Some table) None (I32 count ∷ I32 from ∷ I32 to ∷ values) e h = tt
    table_copy-holds index other None source (I32 count ∷ I32 from ∷ I32 to ∷ values) e h = tt
    table_copy-holds index other o source values e h = tt

    table_init-holds : (index segment : ℕ) (o : Option Table) (element : Option Element) (values : List Value) → slice_get s.elements segment ≡ element
        → ValuesHold is values
        → EffectHolds is (table_init_step index o element values)
    table_init-holds index segment (Some table) (Some element) (I32 count ∷ I32 from ∷ I32 to ∷ values) e h =
        entries-hold index table element.kind to (take count (drop from element.items))
        (nat_le (to + count) (length table.entries) && nat_le (from + count) (length element.items)) values
        (all-part is element.items from count (holds.elements segment element e)) h.1.1.1
    table_init-holds index segment (Some table) None (I32 count ∷ I32 from ∷ I32 to ∷ values) e h = tt
    table_init-holds index segment None element (I32 count ∷ I32 from ∷ I32 to ∷ values) e h = tt
    table_init-holds index segment o element values e h = tt

    indirect-holds : (type : Option FunctionType) (index : ℕ) (o : Option Table) (values : List Value) → slice_get s.tables index ≡ o → ValuesHold is values
        → OutcomeHolds is (call_indirect_step s.types s.functions type o values)
    indirect-holds (Some type) index (Some table) (I32 at ∷ values) e h =
        called-holds s.types s.functions type table.entries at (slice_get table.entries at) values refl (holds.tables index table e) h.1
    indirect-holds type index o values e h = tt

    instr-holds : (locals : List Value) (i : Instr) (values : List Value) → ValuesHold is locals → ValuesHold is values → OutcomeHolds is (instr_step s locals i values)
    instr-holds locals (instr.I32Const bits) values l h = (tt, (tt, h))
    instr-holds locals (instr.I64Const bits) values l h = (tt, (tt, h))
    instr-holds locals (instr.F32Const bits) values l h = (tt, (tt, h))
    instr-holds locals (instr.F64Const bits) values l h = (tt, (tt, h))
    instr-holds locals (instr.Num op) values l h = operation-holds op (types_of op).second values h
    instr-holds locals (instr.RefNull kind) values l h = (tt, (own.null kind, h))
    instr-holds locals instr.RefIsNull values l h = null_test-holds values h
    instr-holds locals (instr.RefFunc index) values l h = ref_func-holds index (slice_get s.functions index) values h
    instr-holds locals instr.Drop values l h = drop-holds values h
    instr-holds locals instr.Select values l h = select-holds values h
    instr-holds locals (instr.LocalGet index) values l h = local_get-holds (slice_get locals index) values (values-get is locals index l) h
    instr-holds locals (instr.LocalSet index) values l h = local_set-holds locals index (slice_get locals index) values l h
    instr-holds locals (instr.LocalTee index) values l h = local_tee-holds locals index (slice_get locals index) values l h
    instr-holds locals (instr.GlobalGet index) values l h = global_get-holds index (slice_get s.globals index) values refl h
    instr-holds locals (instr.GlobalSet index) values l h = global_set-holds (length s.functions) (length s.types) index (slice_get s.globals index) values h
    instr-holds locals (instr.TableGet index) values l h = table_get-holds index (slice_get s.tables index) values refl h
    instr-holds locals (instr.TableSet index) values l h = table_set-holds index (slice_get s.tables index) values h
    instr-holds locals (instr.TableSize index) values l h = size-holds (slice_get s.tables index) values h
    instr-holds locals (instr.TableGrow index) values l h = table_grow-holds index (slice_get s.tables index) values h
    instr-holds locals (instr.TableFill index) values l h = table_fill-holds index (slice_get s.tables index) values h
    instr-holds locals (instr.TableCopy index other) values l h = table_copy-holds index other (slice_get s.tables index) (slice_get s.tables other) values refl h
    instr-holds locals (instr.TableInit segment index) values l h = table_init-holds index segment (slice_get s.tables index) (slice_get s.elements segment) values refl h
    instr-holds locals (instr.ElemDrop segment) values l h = elem_drop-holds segment (slice_get s.elements segment) values h
    instr-holds locals (instr.Access op align offset index) values l h = access-holds (shape_of op) offset index (slice_get s.memories index) values h
    instr-holds locals (instr.MemorySize index) values l h = memory_size-holds (slice_get s.memories index) values h
    instr-holds locals (instr.MemoryGrow index) values l h = memory_grow-holds index (slice_get s.memories index) values h
    instr-holds locals (instr.MemoryFill index) values l h = fill-holds index (slice_get s.memories index) values h
    instr-holds locals (instr.MemoryCopy index other) values l h = copy-holds index (slice_get s.memories index) (slice_get s.memories other) values h
    instr-holds locals (instr.MemoryInit segment index) values l h = init-holds index (slice_get s.memories index) (slice_get s.datas segment) values h
    instr-holds locals (instr.DataDrop segment) values l h = data_drop-holds segment (slice_get s.datas segment) values h
    instr-holds locals instr.Nop values l h = (tt, h)
    instr-holds locals instr.Unreachable values l h = tt
    instr-holds locals (instr.Br label) values l h = h
    instr-holds locals (instr.BrIf label) values l h = br_if-holds label values h
    instr-holds locals instr.Return values l h = h
    instr-holds locals (instr.Call function) values l h = call-holds (callable_at s.types s.functions function) values h
    instr-holds locals (instr.CallIndirect signature index) values l h = indirect-holds (slice_get s.types signature) index (slice_get s.tables index) values refl h
    instr-holds locals (instr.Block shape body) values l h = tt
    instr-holds locals (instr.Loop shape body) values l h = tt
    instr-holds locals (instr.If shape one other) values l h = tt
    instr-holds locals (instr.BrTable from count last) values l h = tt
    instr-holds locals (instr.SelectTyped from count) values l h = tt

    leaf-holds : (locals : List Value) (leaf : Leaf) (values : List Value) → ValuesHold is locals → ValuesHold is values
        → OutcomeHolds is (leaf_step s locals leaf values)
    leaf-holds locals (Plain i) values l h = instr-holds locals i values l h
    leaf-holds locals (TypedSelect types) values l h = select-holds values h
    leaf-holds locals (TableBranch labels last) values l h = br_table-holds labels last values h

    -- ---- what stands around them

    effect-holds : (locals : List Value) (rest : Code) (effect : Effect) → ValuesHold is locals → EffectHolds is effect
        → ReductHolds is (effect_reduct locals rest effect)
    effect-holds locals rest (Yields change values) l e = (e.0, l, e.1)
    effect-holds locals rest (Poses question values) l e = e
    effect-holds locals rest (Fails kind) l e = tt
    effect-holds locals rest HasNoRule l e = tt

    outcome-holds : (locals : List Value) (rest : Code) (outcome : Outcome) → ValuesHold is locals → OutcomeHolds is outcome
        → ReductHolds is (outcome_reduct locals rest outcome)
    outcome-holds locals rest (Does effect) l o = effect-holds locals rest effect l o
    outcome-holds locals rest (SetsLocals new values) l o = (tt, o.0, o.1)
    outcome-holds locals rest (Jumps label values) l o = o
    outcome-holds locals rest (Quits values) l o = o
    outcome-holds locals rest (Calls count inner code values) l o = (tt, l, (o.1, o.0, tt))

    block-holds : (locals : List Value) (type : Option FunctionType) (again : Option Code) (inner : Code) (values : List Value) (rest : Code) → ValuesHold is locals
        → ValuesHold is values → ReductHolds is (block_entry locals type again inner values rest)
    block-holds locals None again inner values rest l h = tt
    block-holds locals (Some type) again inner values rest l h =
        let n : ℕ = length type.params in
        if-both (λ (r : Reduct). ReductHolds is r) (nat_le n (length values))
        (Goes Nothing locals (InLabel (drop n values) (length (label_types type again)) again (Innermost (take n values) inner) rest)) Sticks
        (tt, l, (values-drop is n values h, values-take is n values h)) tt

    if-holds : (locals : List Value) (type : Option FunctionType) (first second : Code) (values : List Value) (rest : Code) → ValuesHold is locals → ValuesHold is values
        → ReductHolds is (if_entry locals type first second values rest)
    if-holds locals type first second (I32 (suc c) ∷ values) rest l h = block-holds locals type None first values rest l h.1
    if-holds locals type first second (I32 zero ∷ values) rest l h = block-holds locals type None second values rest l h.1
    if-holds locals type first second values rest l h = tt

    code-holds : (locals values : List Value) (code : Code) → ValuesHold is locals → ValuesHold is values → ReductHolds is (code_reduct s locals values code)
    code-holds locals values End l h = h
    code-holds locals values (Then leaf rest) l h = outcome-holds locals rest (leaf_step s locals leaf values) l (leaf-holds locals leaf values l h)
    code-holds locals values (InBlock shape inner rest) l h = block-holds locals (block_type s.types shape) None inner values rest l h
    code-holds locals values (InLoop shape inner rest) l h = block-holds locals (block_type s.types shape) (Some inner) inner values rest l h
    code-holds locals values (InIf shape first second rest) l h = if-holds locals (block_type s.types shape) first second values rest l h

    arrival-holds : (below : List Value) (count : ℕ) (again : Option Code) (rest : Code) (carried : List Value) → ValuesHold is below → ValuesHold is carried
        → InsideHolds is (arrival below count again rest carried)
    arrival-holds below count None rest carried b c = values-append is carried below c b
    arrival-holds below count (Some again) rest carried b c = (b, c)

    label-holds : (locals below : List Value) (count : ℕ) (again : Option Code) (rest : Code) (reduct : Reduct) → ValuesHold is locals → ValuesHold is below
        → ReductHolds is reduct
        → ReductHolds is (label_reduct locals below count again rest reduct)
    label-holds locals below count again rest (Goes change new inside) l b r = (r.0, r.1, (b, r.2))
    label-holds locals below count again rest (Finishes values) l b r = (tt, l, values-append is values below r b)
    label-holds locals below count again rest (Branches zero values) l b r =
        if-both (λ (x : Reduct). ReductHolds is x) (nat_le count (length values)) (Goes Nothing locals (arrival below count again rest (take count values))) Sticks
        (tt, l, arrival-holds below count again rest (take count values) b (values-take is count values r)) tt
    label-holds locals below count again rest (Branches (suc label) values) l b r = r
    label-holds locals below count again rest (Returns values) l b r = r
    label-holds locals below count again rest (Pauses question inside) l b r = (r.0, (b, r.1))
    label-holds locals below count again rest (Traps kind) l b r = tt
    label-holds locals below count again rest Sticks l b r = tt

    left-holds : (locals below : List Value) (count : ℕ) (rest : Code) (values : List Value) → ValuesHold is locals → ValuesHold is below → ValuesHold is values
        → ReductHolds is (frame_left locals below count rest values)
    left-holds locals below count rest values l b h =
        if-both (λ (x : Reduct). ReductHolds is x) (nat_le count (length values)) (Goes Nothing locals (Innermost (take count values ++ below) rest)) Sticks
        (tt, l, values-append is (take count values) below (values-take is count values h) b) tt

    frame-holds : (locals below : List Value) (count : ℕ) (inner : List Value) (rest : Code) (reduct : Reduct) → ValuesHold is locals → ValuesHold is below
        → ValuesHold is inner
        → ReductHolds is reduct → ReductHolds is (frame_reduct locals below count inner rest reduct)
    frame-holds locals below count inner rest (Goes change new inside) l b i r = (r.0, l, (b, r.1, r.2))
    frame-holds locals below count inner rest (Finishes values) l b i r =
        if-both (λ (x : Reduct). ReductHolds is x) (length values == count) (Goes Nothing locals (Innermost (values ++ below) rest)) Sticks
        (tt, l, values-append is values below r b) tt
    frame-holds locals below count inner rest (Branches zero values) l b i r = left-holds locals below count rest values l b r
    frame-holds locals below count inner rest (Branches (suc label) values) l b i r = tt
    frame-holds locals below count inner rest (Returns values) l b i r = left-holds locals below count rest values l b r
    frame-holds locals below count inner rest (Pauses question inside) l b i r = (r.0, (b, i, r.1))
    frame-holds locals below count inner rest (Traps kind) l b i r = tt
    frame-holds locals below count inner rest Sticks l b i r = tt

    inside-holds : (locals : List Value) (inside : Inside) → ValuesHold is locals → InsideHolds is inside → ReductHolds is (inside_reduct s locals inside)
    inside-holds locals (Innermost values code) l h = code-holds locals values code l h
    inside-holds locals (InLabel below count again inside rest) l h =
        label-holds locals below count again rest (inside_reduct s locals inside) l h.0 (inside-holds locals inside l h.1)
    inside-holds locals (InFrame below count inner inside rest) l h =
        frame-holds locals below count inner rest (inside_reduct s inner inside) l h.0 h.1 (inside-holds inner inside h.1 h.2)

    results-hold : (count : ℕ) (values : List Value) → ValuesHold is values → AnswerHolds is (results_answer count values)
    results-hold count values h =
        if-both (λ (a : Answer). AnswerHolds is a) (nat_le count (length values)) (Done (reverse (take count values))) Stuck
        (values-reverse is (take count values) (values-take is count values h)) tt

    answer-holds : (count : ℕ) (locals : List Value) (reduct : Reduct) → ValuesHold is locals → ReductHolds is reduct → AnswerHolds is (frame_answer count locals reduct)
    answer-holds count locals (Goes change new inside) l r = (r.0, (r.1, r.2))
    answer-holds count locals (Finishes values) l r =
        if-both (λ (a : Answer). AnswerHolds is a) (length values == count) (Done (reverse values)) Stuck (values-reverse is values r) tt
    answer-holds count locals (Branches zero values) l r = results-hold count values r
    answer-holds count locals (Branches (suc label) values) l r = tt
    answer-holds count locals (Returns values) l r = results-hold count values r
    answer-holds count locals (Pauses question inside) l r = (r.0, (l, r.1))
    answer-holds count locals (Traps kind) l r = tt
    answer-holds count locals Sticks l r = tt

pub step_adds_no_reference : StepAddsNoReference
step_adds_no_reference is s (Frame count locals inside) own holds h =
    answer-holds is own s holds count locals (inside_reduct s locals inside) h.0 (inside-holds is own s holds locals inside h.0 h.1)
step_adds_no_reference is s (BareValues values) own holds h = values-reverse is values h

-- ---- changes

pub change_adds_no_reference : ChangeAddsNoReference
change_adds_no_reference is s Nothing h c = h
change_adds_no_reference is s (SetGlobal index value) h c = record {
  globals = each-altered (λ (g : Global). ValueHolds is g.content) (λ g. with_content value g) s.globals index h.globals (λ g e old. c);
  tables = h.tables;
  elements = h.elements;
}
change_adds_no_reference is s (WriteTable index at new) h c = record {
  globals = h.globals;
  tables = each-altered (λ (t : Table). AllAre is t.entries) (λ t. with_entries at new t) s.tables index h.tables
      (λ t e old. each-written (λ r. IsTrue (is r)) t.entries at new old c);
  elements = h.elements;
}
change_adds_no_reference is s (WriteMemory index at bytes) h c = record { globals = h.globals; tables = h.tables; elements = h.elements }
change_adds_no_reference is s (GrowTable index by reference) h c = record {
  globals = h.globals;
  tables = each-altered (λ (t : Table). AllAre is t.entries) (λ t. with_more_entries by reference t) s.tables index h.tables
      (λ t e old. each-join (λ r. IsTrue (is r)) t.entries (replicate by reference) old (all-same is by reference c));
  elements = h.elements;
}
change_adds_no_reference is s (GrowMemory index pages) h c = record { globals = h.globals; tables = h.tables; elements = h.elements }
change_adds_no_reference is s (EmptyElement index) h c = record {
  globals = h.globals;
  tables = h.tables;
  elements = each-altered (λ (e : Element). AllAre is e.items) (λ e. without_items e) s.elements index h.elements (λ x e old k r f. absurd (cc f));
}
change_adds_no_reference is s (EmptyData index) h c = record { globals = h.globals; tables = h.tables; elements = h.elements }

-- ---- calls and answers

entered-holds : (is : Reference → Bool) (function : Option Callable) (values : List Value) → TakesOwn is → ValuesHold is values
    → StandingHolds is (entered_callable function values)
entered-holds is None values own h = tt
entered-holds is (Some function) values own h = by function.type function.body
  where
    by : (type : FunctionType) (body : FunctionBody) → StandingHolds is (entered_body type body values)
    by type (OwnBody locals code) = (values-append is values (zeros_of locals) h (zeros-hold is own locals), tt)
    by type (ImportedBody number) = (h, tt)
    by type NoBody = tt

pub entry_adds_no_reference : EntryAddsNoReference
entry_adds_no_reference is s function values own h = entered-holds is (callable_at s.types s.functions function) values own h

put-inside : (is : Reference → Bool) (values : List Value) (inside : Inside) → ValuesHold is values → InsideHolds is inside → InsideHolds is (put_inside values inside)
put-inside is values (Innermost old code) h k = values-append is values old h k
put-inside is values (InLabel below count again inside rest) h k = (k.0, put-inside is values inside h k.1)
put-inside is values (InFrame below count own inside rest) h k = (k.0, k.1, put-inside is values inside h k.2)

pub put_adds_no_reference : PutAddsNoReference
put_adds_no_reference is values (Frame count locals inside) h k = (k.0, put-inside is values inside h k.1)
put_adds_no_reference is values (BareValues old) h k = values-append is values old h k

pub own_pass : TakesOwn is_own
own_pass = record { null = λ kind. refl; own = λ index. refl }
