-- What a step of a run does to the state: it changes no table, no memory's size, and sets globals to fitting values of the instance's own.
use Rattle.std.proofs.Common.{◌≡◌, ℕ, zero, suc, ◌+◌, ◌/◌, ◌%◌, ◌≤◌, nat_le, ◌==◌, List, [], ◌∷◌, ◌++◌, Option, Some, None, Result, Ok, Err, Bool, true, false, ◌&&◌, if◌then◌else◌, length, take, drop, reverse, replicate, slice_get, slice_set, refl, sym, ap, subst, arith}
use Rattle.std.proofs.Common.{leb-true}
use Rattle.std.proofs.Math.ListN.{length-replicate}
use mathlib.Core.List.{reverse-cons}
use Rattle.wz_types.specs.declared.types.ValType.{ValType}
use Rattle.wz_types.specs.declared.types.ValType.TheVariants as valtype
use Rattle.wz_types.specs.declared.trap.TrapKind.{TrapKind}
use Rattle.wz_types.specs.declared.trap.TrapKind.TheVariants.{MemoryBounds}
use Rattle.wz_types.specs.declared.value.Reference.{Reference}
use Rattle.wz_types.specs.declared.value.Reference.TheVariants.{Null, Fn, Foreign}
use Rattle.wz_types.specs.declared.value.Value.{Value}
use Rattle.wz_types.specs.declared.value.Value.TheVariants.{I32, I64, F32, F64, Ref}
use Rattle.wz_types.specs.FunctionType.{FunctionType}
use Rattle.wz_types.specs.Fits.{Fits, value_fits}
use Rattle.wz_types.specs.SameType.{same_function_type}
use Rattle.wz_types.specs.Zeros.{zero_of, zeros_of}
use Rattle.wz_linear.specs.Bytes.{part, bytes_of}
use Rattle.wz_code.specs.declared.numeric.NumOp.{NumOp}
use Rattle.wz_code.specs.declared.numeric.NumOp.TheVariants as op
use Rattle.wz_code.specs.declared.accesses.AccessShape.{AccessShape}
use Rattle.wz_code.specs.Numeric.{types_of}
use Rattle.wz_code.specs.Accesses.{shape_of}
use Rattle.wz_code.specs.declared.instr.Instr.{Instr}
use Rattle.wz_code.specs.declared.instr.Instr.TheVariants.{I32Const, I64Const, F32Const, F64Const, RefNull, Nop, Num, RefIsNull, RefFunc, Drop, Select, LocalGet, LocalSet, LocalTee, GlobalGet, GlobalSet, TableGet, TableSet, TableSize, TableGrow, TableFill, TableCopy, TableInit, ElemDrop, Access, MemorySize, MemoryGrow, MemoryFill, MemoryCopy, MemoryInit, DataDrop, Br, BrIf, Return, Call, CallIndirect}
use Rattle.wz_code.specs.Trees.{Code, End, Then, InBlock, InLoop, InIf, Leaf, Plain, TableBranch, TypedSelect}
use Rattle.wz_num.specs.declared.answer.NumAnswer.{NumAnswer}
use Rattle.wz_num.specs.declared.answer.NumAnswer.TheVariants as answer
use Rattle.wz_num.specs.Integers.{idiv_s, idiv_u, irem_s, irem_u}
use Rattle.wz_num.specs.Number.{Meaning, OneI32, OneI64, OneF32, OneF64, TwoI32, TwoI64, TwoF32, TwoF64, meant, meaning_of, i32_or_trap, i64_or_trap, number}
use Rattle.wz_store.specs.State.{Global, Table, Memory, Element, pages_of}
use Rattle.wz_store.specs.Changes.{Change, Nothing, SetGlobal, WriteTable, WriteMemory, GrowTable, GrowMemory, EmptyElement, EmptyData}
use Rattle.wz_store.specs.Growth.{may_grow}
use Rattle.wz_bulk.specs.Effects.{within}
use Rattle.wz_bulk.specs.TableEffects.{entry_or_trap}
use Rattle.wz_bulk.specs.MemoryEffects.{bytes_effect}
use Rattle.wz_machine.specs.declared.questions.HostTarget.TheVariants as target
use Rattle.wz_machine.specs.State.{FunctionBody, OwnBody, ImportedBody, NoBody, Callable, callable_at, FunctionInstance, State}
use Rattle.wz_machine.specs.Terms.{Inside, Innermost, InLabel, InFrame, Term, Frame, BareValues, Question, AskFloat, AskMemory, AskTable, AskHost}
use Rattle.wz_machine.specs.Outcomes.{Effect, Yields, Poses, Fails, HasNoRule, Outcome, Does, SetsLocals, Jumps, Quits, Calls, Reduct, Goes, Finishes, Branches, Returns, Pauses, Traps, Sticks, Answer, Next, Done, Trap, Ask, Stuck}
use Rattle.wz_machine.specs.NumericSteps.{result_effect, operation_step}
use Rattle.wz_machine.specs.ReferenceSteps.{ref_is_null_step, ref_func_step}
use Rattle.wz_machine.specs.ParametricSteps.{drop_step, select_step}
use Rattle.wz_machine.specs.VariableSteps.{local_get_step, local_set_step, local_tee_step, global_get_step, global_set_step}
use Rattle.wz_machine.specs.TableSteps.{entry_effect, table_get_step, table_size_step, elem_drop_step}
use Rattle.wz_machine.specs.BulkSteps.{bulk_step, minus_one}
use Rattle.wz_machine.specs.MemorySteps.{value_of_bits, bits_of_value, value_effect, read_value, load_step, write_effect, store_step, access_step, memory_size_step, memory_grow_step, memory_fill_step, memory_copy_step, memory_init_step, data_drop_step}
use Rattle.wz_machine.specs.ControlSteps.{br_if_step, listed_jump, br_table_step}
use Rattle.wz_machine.specs.CallSteps.{invocation, with_arguments, call_step, expected_call, entry_call, call_indirect_step}
use Rattle.wz_machine.specs.InstrSteps.{instr_step, leaf_step}
use Rattle.wz_machine.specs.BlockSteps.{block_type, label_types, block_entry, if_entry, arrival, label_reduct, frame_left, frame_reduct}
use Rattle.wz_machine.specs.Step.{outcome_reduct, code_reduct, inside_reduct, results_answer, frame_answer, step}
use Rattle.wz_machine.specs.Next.{head_of, head_in, next}
use Rattle.wz_machine.proofs.LeafLemmas.{if-both}
use Rattle.wz_machine.specs.Straight.{changes_table}
use Rattle.wz_machine.specs.Advance.{leaf_changes_table, head_changes_table}
use Rattle.wz_init.specs.Reached.{IsOwnReference, IsOwn, AreOwn, AreOwnReferences, HoldsOwn, InsideOwn, TermOwn}

-- ---- what such a change is

abbrev pub IsFine : State → Change → Type 0
IsFine s Nothing = Unit {0}
IsFine s (SetGlobal index value) =
    IsOwn value × ((global : Global) → slice_get s.globals index ≡ Some global → Fits value global.type.value (length s.functions) (length s.types))
IsFine s (WriteTable index at entries) = ⊥
IsFine s (WriteMemory index at bytes) = (memory : Memory) → slice_get s.memories index ≡ Some memory → at + length bytes ≤ length memory.bytes
IsFine s (GrowTable index by reference) = ⊥
IsFine s (GrowMemory index by) = ⊥
IsFine s (EmptyElement index) = Unit {0}
IsFine s (EmptyData index) = Unit {0}

-- growth is asked of a memory that is there, within its limits; and nothing of a function of the host that only a reference leads to
abbrev pub IsAsked : State → Question → Type 0
IsAsked s (AskFloat o operands) = Unit {0}
IsAsked s (AskMemory index by) = (memory : Memory) × (slice_get s.memories index ≡ Some memory) × (may_grow (pages_of memory) memory.maximum by ≡ true)
IsAsked s (AskTable index by reference) = Unit {0}
IsAsked s (AskHost (target.Import number) arguments type) = Unit {0}
IsAsked s (AskHost (target.Foreign id) arguments type) = ⊥

abbrev pub EffectFine : State → Effect → Type 0
EffectFine s (Yields change values) = IsFine s change × AreOwn values
EffectFine s (Poses question values) = IsAsked s question × AreOwn values
EffectFine s (Fails kind) = Unit {0}
EffectFine s HasNoRule = Unit {0}

abbrev pub OutcomeFine : State → Outcome → Type 0
OutcomeFine s (Does effect) = EffectFine s effect
OutcomeFine s (SetsLocals locals values) = AreOwn locals × AreOwn values
OutcomeFine s (Jumps label values) = AreOwn values
OutcomeFine s (Quits values) = AreOwn values
OutcomeFine s (Calls count locals code values) = AreOwn locals × AreOwn values

abbrev pub ReductFine : State → Reduct → Type 0
ReductFine s (Goes change locals inside) = IsFine s change × AreOwn locals × InsideOwn inside
ReductFine s (Finishes values) = AreOwn values
ReductFine s (Branches label values) = AreOwn values
ReductFine s (Returns values) = AreOwn values
ReductFine s (Pauses question inside) = IsAsked s question × InsideOwn inside
ReductFine s (Traps kind) = Unit {0}
ReductFine s Sticks = Unit {0}

abbrev pub AnswerFine : State → Answer → Type 0
AnswerFine s (Next change term) = IsFine s change × TermOwn term
AnswerFine s (Done values) = Unit {0}
AnswerFine s (Trap kind) = Unit {0}
AnswerFine s (Ask question rest) = IsAsked s question × TermOwn rest
AnswerFine s Stuck = Unit {0}

-- ---- lists of values

pub own_append : (xs ys : List Value) → AreOwn xs → AreOwn ys → AreOwn (xs ++ ys)
own_append [] ys h k = k
own_append (x ∷ xs) ys h k = (h.0, own_append xs ys h.1 k)

own_take : (n : ℕ) (xs : List Value) → AreOwn xs → AreOwn (take n xs)
own_take zero xs h = tt
own_take (suc n) [] h = tt
own_take (suc n) (x ∷ xs) h = (h.0, own_take n xs h.1)

own_drop : (n : ℕ) (xs : List Value) → AreOwn xs → AreOwn (drop n xs)
own_drop zero xs h = h
own_drop (suc n) [] h = tt
own_drop (suc n) (x ∷ xs) h = own_drop n xs h.1

own_reverse : (xs : List Value) → AreOwn xs → AreOwn (reverse xs)
own_reverse [] h = tt
own_reverse (x ∷ xs) h = subst (λ (l : List Value). AreOwn l) (sym (reverse-cons x xs)) (own_append (reverse xs) (x ∷ []) (own_reverse xs h.1) (h.0, tt))

own_get : (xs : List Value) (i : ℕ) (x : Value) → slice_get xs i ≡ Some x → AreOwn xs → IsOwn x
own_get [] i x e h = absurd (cc e)
own_get (y ∷ xs) zero x e h = subst (λ (v : Value). IsOwn v) (cc e) h.0
own_get (y ∷ xs) (suc i) x e h = own_get xs i x e h.1

own_set : (xs : List Value) (i : ℕ) (x : Value) → AreOwn xs → IsOwn x → AreOwn (slice_set xs i x)
own_set [] i x h k = tt
own_set (y ∷ xs) zero x h k = (k, h.1)
own_set (y ∷ xs) (suc i) x h k = (h.0, own_set xs i x h.1 k)

own_zero : (type : ValType) → IsOwn (zero_of type)
own_zero valtype.I32 = tt
own_zero valtype.I64 = tt
own_zero valtype.F32 = tt
own_zero valtype.F64 = tt
own_zero valtype.FuncRef = tt
own_zero valtype.ExternRef = tt

pub own_zeros : (types : List ValType) → AreOwn (zeros_of types)
own_zeros [] = tt
own_zeros (type ∷ types) = (own_zero type, own_zeros types)

-- ---- numeric instructions

abbrev AnswerOwn : NumAnswer → Type 0
AnswerOwn (answer.Gives result) = IsOwn result
AnswerOwn (answer.Trap kind) = Unit {0}
AnswerOwn answer.Ask = Unit {0}
AnswerOwn answer.Stuck = Unit {0}

abbrev on_two : Meaning → ℕ → ℕ → NumAnswer
on_two (OneI32 f) a b = f a
on_two (OneI64 f) a b = f a
on_two (OneF32 f) a b = f a
on_two (OneF64 f) a b = f a
on_two (TwoI32 f) a b = f a b
on_two (TwoI64 f) a b = f a b
on_two (TwoF32 f) a b = f a b
on_two (TwoF64 f) a b = f a b

or_trap_32 : (r : Result ℕ TrapKind) → AnswerOwn (i32_or_trap r)
or_trap_32 (Ok a) = tt
or_trap_32 (Err kind) = tt

or_trap_64 : (r : Result ℕ TrapKind) → AnswerOwn (i64_or_trap r)
or_trap_64 (Ok a) = tt
or_trap_64 (Err kind) = tt

numbers_own : (o : NumOp) (a b : ℕ) → AnswerOwn (on_two (meaning_of o) a b)
numbers_own op.I32DivS a b = or_trap_32 (idiv_s 32 a b)
numbers_own op.I32DivU a b = or_trap_32 (idiv_u 32 a b)
numbers_own op.I32RemS a b = or_trap_32 (irem_s 32 a b)
numbers_own op.I32RemU a b = or_trap_32 (irem_u 32 a b)
numbers_own op.I64DivS a b = or_trap_64 (idiv_s 64 a b)
numbers_own op.I64DivU a b = or_trap_64 (idiv_u 64 a b)
numbers_own op.I64RemS a b = or_trap_64 (irem_s 64 a b)
numbers_own op.I64RemU a b = or_trap_64 (irem_u 64 a b)
numbers_own o a b = tt

-- the answer on operands is that on patterns, or there is none
meant_own : (meaning : Meaning) (operands : List Value) → ((a b : ℕ) → AnswerOwn (on_two meaning a b)) → AnswerOwn (meant meaning operands)
meant_own (OneI32 f) (I32 a ∷ []) h = h a 0
meant_own (OneI64 f) (I64 a ∷ []) h = h a 0
meant_own (OneF32 f) (F32 a ∷ []) h = h a 0
meant_own (OneF64 f) (F64 a ∷ []) h = h a 0
meant_own (TwoI32 f) (I32 a ∷ I32 b ∷ []) h = h a b
meant_own (TwoI64 f) (I64 a ∷ I64 b ∷ []) h = h a b
meant_own (TwoF32 f) (F32 a ∷ F32 b ∷ []) h = h a b
meant_own (TwoF64 f) (F64 a ∷ F64 b ∷ []) h = h a b
meant_own meaning operands h = tt

number_own : (o : NumOp) (operands : List Value) → AnswerOwn (number o operands)
unfolding number
number_own o operands = meant_own (meaning_of o) operands (λ a b. numbers_own o a b)

result_fine : (s : State) (o : NumOp) (operands values : List Value) → AreOwn values → (a : NumAnswer) → AnswerOwn a → EffectFine s (result_effect o operands values a)
result_fine s o operands values h (answer.Gives result) k = (tt, (k, h))
result_fine s o operands values h (answer.Trap kind) k = tt
result_fine s o operands values h answer.Ask k = (tt, h)
result_fine s o operands values h answer.Stuck k = tt

operation_fine : (s : State) (o : NumOp) (second : Option ValType) (values : List Value) → AreOwn values → EffectFine s (operation_step o second values)
operation_fine s o None [] h = tt
operation_fine s o None (a ∷ values) h = result_fine s o (a ∷ []) values h.1 (number o (a ∷ [])) (number_own o (a ∷ []))
operation_fine s o (Some type) [] h = tt
operation_fine s o (Some type) (b ∷ []) h = tt
operation_fine s o (Some type) (b ∷ a ∷ values) h = result_fine s o (a ∷ b ∷ []) values h.1.1 (number o (a ∷ b ∷ [])) (number_own o (a ∷ b ∷ []))

-- ---- reference, parametric and variable instructions

is_null_fine : (s : State) (values : List Value) → AreOwn values → EffectFine s (ref_is_null_step values)
is_null_fine s (Ref (Null kind) ∷ values) h = (tt, (tt, h.1))
is_null_fine s (Ref (Fn index) ∷ values) h = (tt, (tt, h.1))
is_null_fine s (Ref (Foreign id sort) ∷ values) h = (tt, (tt, h.1))
is_null_fine s values h = tt

ref_func_fine : (s : State) (index : ℕ) (o : Option FunctionInstance) (values : List Value) → AreOwn values → EffectFine s (ref_func_step index o values)
ref_func_fine s index None values h = tt
ref_func_fine s index (Some function) values h = (tt, (tt, h))

drop_fine : (s : State) (values : List Value) → AreOwn values → EffectFine s (drop_step values)
drop_fine s [] h = tt
drop_fine s (value ∷ values) h = (tt, h.1)

select_fine : (s : State) (values : List Value) → AreOwn values → EffectFine s (select_step values)
select_fine s (I32 (suc c) ∷ second ∷ first ∷ values) h = (tt, h.1.1)
select_fine s (I32 zero ∷ second ∷ first ∷ values) h = (tt, (h.1.0, h.1.1.1))
select_fine s values h = tt

local_get_fine : (s : State) (locals : List Value) (index : ℕ) (o : Option Value) → slice_get locals index ≡ o → (values : List Value) → AreOwn locals → AreOwn values
    → EffectFine s (local_get_step o values)
local_get_fine s locals index None e values h k = tt
local_get_fine s locals index (Some value) e values h k = (tt, (own_get locals index value e h, k))

local_set_fine : (s : State) (locals : List Value) (index : ℕ) (o : Option Value) (values : List Value) → AreOwn locals → AreOwn values
    → OutcomeFine s (local_set_step locals index o values)
local_set_fine s locals index (Some old) (value ∷ values) h k = (own_set locals index value h k.0, k.1)
local_set_fine s locals index o values h k = tt

local_tee_fine : (s : State) (locals : List Value) (index : ℕ) (o : Option Value) (values : List Value) → AreOwn locals → AreOwn values
    → OutcomeFine s (local_tee_step locals index o values)
local_tee_fine s locals index (Some old) (value ∷ values) h k = (own_set locals index value h k.0, k)
local_tee_fine s locals index o values h k = tt

global_get_fine : (s : State) (index : ℕ) (o : Option Global) → slice_get s.globals index ≡ o → (values : List Value) → HoldsOwn s → AreOwn values
    → EffectFine s (global_get_step o values)
global_get_fine s index None e values h k = tt
global_get_fine s index (Some global) e values h k = (tt, (h.globals index global e, k))

global_set_fine : (s : State) (index : ℕ) (o : Option Global) → slice_get s.globals index ≡ o → (values : List Value) → AreOwn values
    → EffectFine s (global_set_step (length s.functions) (length s.types) index o values)
global_set_fine s index None e values k = tt
global_set_fine s index (Some global) e [] k = tt
global_set_fine s index (Some global) e (value ∷ values) k = by (value_fits value global.type.value (length s.functions) (length s.types)) refl
  where
    by : (b : Bool) → value_fits value global.type.value (length s.functions) (length s.types) ≡ b
        → EffectFine s (if b then Yields (SetGlobal index value) values else HasNoRule)
    by true fits =
        ((k.0, λ other here. let same : global ≡ other = cc (e, here) in subst (λ (g : Global). Fits value g.type.value (length s.functions) (length s.types)) same fits), k.1)
    by false fits = tt

-- ---- table instructions that change none

own_reference_at : (rs : List Reference) (i : ℕ) (r : Reference) → slice_get rs i ≡ Some r → AreOwnReferences rs → IsOwnReference r
own_reference_at [] i r e h = absurd (cc e)
own_reference_at (x ∷ rs) zero r e h = subst (λ (v : Reference). IsOwnReference v) (cc e) h.0
own_reference_at (x ∷ rs) (suc i) r e h = own_reference_at rs i r e h.1

entry_fine : (s : State) (index at : ℕ) (table : Table) → slice_get s.tables index ≡ Some table → (o : Option Reference) → slice_get table.entries at ≡ o
    → (values : List Value) → HoldsOwn s → AreOwn values → EffectFine s (entry_effect (entry_or_trap o) values)
entry_fine s index at table e None e' values h k = tt
entry_fine s index at table e (Some reference) e' values h k = (tt, (own_reference_at table.entries at reference e' (h.tables index table e), k))

table_get_fine : (s : State) (index : ℕ) (o : Option Table) → slice_get s.tables index ≡ o → (values : List Value) → HoldsOwn s → AreOwn values
    → EffectFine s (table_get_step o values)
table_get_fine s index None e (I32 at ∷ values) h k = tt
table_get_fine s index (Some table) e (I32 at ∷ values) h k = entry_fine s index at table e (slice_get table.entries at) refl values h k.1
table_get_fine s index o e values h k = tt

table_size_fine : (s : State) (o : Option Table) (values : List Value) → AreOwn values → EffectFine s (table_size_step o values)
table_size_fine s None values h = tt
table_size_fine s (Some table) values h = (tt, (tt, h))

elem_drop_fine : (s : State) (index : ℕ) (o : Option Element) (values : List Value) → AreOwn values → EffectFine s (elem_drop_step index o values)
elem_drop_fine s index None values h = tt
elem_drop_fine s index (Some element) values h = (tt, h)

-- ---- memory instructions

bits_own : (type : ValType) (bits : ℕ) (s : State) (values : List Value) → AreOwn values → EffectFine s (value_effect (value_of_bits type bits) values)
bits_own valtype.I32 bits s values h = (tt, (tt, h))
bits_own valtype.I64 bits s values h = (tt, (tt, h))
bits_own valtype.F32 bits s values h = (tt, (tt, h))
bits_own valtype.F64 bits s values h = (tt, (tt, h))
bits_own valtype.FuncRef bits s values h = tt
bits_own valtype.ExternRef bits s values h = tt

load_fine : (s : State) (shape : AccessShape) (offset : ℕ) (o : Option Memory) (values : List Value) → AreOwn values → EffectFine s (load_step shape offset o values)
load_fine s shape offset (Some memory) (I32 base ∷ values) h =
    if-both (λ (e : Effect). EffectFine s e) (nat_le (base + offset + shape.bytes) (length memory.bytes)) (value_effect (read_value shape memory.bytes (base + offset)) values)
    (Fails _) (bits_own shape.value _ s values h.1) tt
load_fine s shape offset o values h = tt

length-bytes_of : (count number : ℕ) → length (bytes_of count number) ≡ count
unfolding bytes_of
length-bytes_of zero number = refl
length-bytes_of (suc count) number = ap suc (length-bytes_of count (number / 256))

write_fine : (s : State) (shape : AccessShape) (place index : ℕ) (memory : Memory) → slice_get s.memories index ≡ Some memory → (o : Option ℕ) (values : List Value)
    → AreOwn values → EffectFine s (write_effect shape place index memory o values)
write_fine s shape place index memory e None values h = tt
write_fine s shape place index memory e (Some bits) values h = by (nat_le (place + shape.bytes) (length memory.bytes)) refl
  where
    by : (b : Bool) → nat_le (place + shape.bytes) (length memory.bytes) ≡ b
        → EffectFine s (if b then Yields (WriteMemory index place (bytes_of shape.bytes bits)) values else Fails MemoryBounds)
    by true fits = (
      (λ other here.
          let same : memory ≡ other = cc (e, here) in
          omega (arith, ap (λ (m : Memory). length m.bytes) same, length-bytes_of shape.bytes bits, leb-true (place + shape.bytes) (length memory.bytes) fits)),
      h,
    )
    by false fits = tt

store_fine : (s : State) (shape : AccessShape) (offset index : ℕ) (o : Option Memory) → slice_get s.memories index ≡ o → (values : List Value) → AreOwn values
    → EffectFine s (store_step shape offset index o values)
store_fine s shape offset index (Some memory) e (value ∷ I32 base ∷ values) h =
    write_fine s shape (base + offset) index memory e (bits_of_value shape.value value) values h.1.1
store_fine s shape offset index o e values h = tt

access_fine : (s : State) (shape : AccessShape) (offset index : ℕ) (values : List Value) → AreOwn values
    → EffectFine s (access_step shape offset index (slice_get s.memories index) values)
access_fine s shape offset index values h =
    if-both (λ (e : Effect). EffectFine s e) shape.store (store_step shape offset index (slice_get s.memories index) values)
    (load_step shape offset (slice_get s.memories index) values) (store_fine s shape offset index (slice_get s.memories index) refl values h)
    (load_fine s shape offset (slice_get s.memories index) values h)

memory_size_fine : (s : State) (o : Option Memory) (values : List Value) → AreOwn values → EffectFine s (memory_size_step o values)
memory_size_fine s None values h = tt
memory_size_fine s (Some memory) values h = (tt, (tt, h))

memory_grow_fine : (s : State) (index : ℕ) (o : Option Memory) → slice_get s.memories index ≡ o → (values : List Value) → AreOwn values
    → EffectFine s (memory_grow_step index o values)
memory_grow_fine s index (Some memory) e (I32 by ∷ values) h = test (may_grow (pages_of memory) memory.maximum by) refl
  where
    test : (b : Bool) → may_grow (pages_of memory) memory.maximum by ≡ b
        → EffectFine s (if b then Poses (AskMemory index by) values else Yields Nothing (minus_one ∷ values))
    test true fits = ((memory, e, fits), h.1)
    test false fits = (tt, (tt, h.1))
memory_grow_fine s index o e values h = tt

-- a range is written where it is within the memory
range_fine : (s : State) (index to : ℕ) (bytes : List ℕ) (memory : Memory) (count : ℕ) (more : Bool) (values : List Value) → slice_get s.memories index ≡ Some memory
    → length bytes ≤ count → AreOwn values → EffectFine s (bulk_step values (bytes_effect index to bytes (within to count (length memory.bytes) && more)))
range_fine s index to bytes memory count more values e short h = by (within to count (length memory.bytes)) refl more
  where
    by : (b : Bool) → within to count (length memory.bytes) ≡ b → (other : Bool) → EffectFine s (bulk_step values (bytes_effect index to bytes (b && other)))
    by true fits true = (
      (λ found here.
          let same : memory ≡ found = cc (e, here) in
          omega (arith, ap (λ (m : Memory). length m.bytes) same, short, leb-true (to + count) (length memory.bytes) fits)),
      h,
    )
    by true fits false = tt
    by false fits other = tt

fill_fine : (s : State) (index : ℕ) (o : Option Memory) → slice_get s.memories index ≡ o → (values : List Value) → AreOwn values
    → EffectFine s (memory_fill_step index o values)
fill_fine s index (Some memory) e (I32 count ∷ I32 bits ∷ I32 to ∷ values) h =
    let same : within to count (length memory.bytes) ≡ (within to count (length memory.bytes) && true) = and-true (within to count (length memory.bytes)) in
    subst (λ (b : Bool). EffectFine s (bulk_step values (bytes_effect index to (replicate count (bits % 256)) b))) (sym same)
    (range_fine s index to (replicate count (bits % 256)) memory count true values e (omega (arith, length-replicate count (bits % 256))) h.1.1.1)
  where
    and-true : (b : Bool) → b ≡ (b && true)
    and-true true = refl
    and-true false = refl
fill_fine s index None e (I32 count ∷ I32 bits ∷ I32 to ∷ values) h = tt
fill_fine s index o e values h = tt

take_short : {X : Type 0} (n : ℕ) (xs : List X) → length (take n xs) ≤ n
take_short zero xs = omega arith
take_short (suc n) [] = omega arith
take_short (suc n) (x ∷ xs) = omega (arith, take_short n xs)

pub part_short : (bytes : List ℕ) (from count : ℕ) → length (part bytes from count) ≤ count
unfolding part
part_short bytes from count = take_short count (drop from bytes)

copy_fine : (s : State) (index : ℕ) (o : Option Memory) → slice_get s.memories index ≡ o → (source : Option Memory) (values : List Value) → AreOwn values
    → EffectFine s (memory_copy_step index o source values)
copy_fine s index (Some memory) e (Some source) (I32 count ∷ I32 from ∷ I32 to ∷ values) h =
    range_fine s index to (part source.bytes from count) memory count (within from count (length source.bytes)) values e (part_short source.bytes from count) h.1.1.1
copy_fine s index (Some memory) e None (I32 count ∷ I32 from ∷ I32 to ∷ values) h = tt
copy_fine s index None e source (I32 count ∷ I32 from ∷ I32 to ∷ values) h = tt
copy_fine s index o e source values h = tt

init_fine : (s : State) (index : ℕ) (o : Option Memory) → slice_get s.memories index ≡ o → (segment : Option (List ℕ)) (values : List Value) → AreOwn values
    → EffectFine s (memory_init_step index o segment values)
init_fine s index (Some memory) e (Some bytes) (I32 count ∷ I32 from ∷ I32 to ∷ values) h =
    range_fine s index to (part bytes from count) memory count (within from count (length bytes)) values e (part_short bytes from count) h.1.1.1
init_fine s index (Some memory) e None (I32 count ∷ I32 from ∷ I32 to ∷ values) h = tt
init_fine s index None e segment (I32 count ∷ I32 from ∷ I32 to ∷ values) h = tt
init_fine s index o e segment values h = tt

data_drop_fine : (s : State) (index : ℕ) (o : Option (List ℕ)) (values : List Value) → AreOwn values → EffectFine s (data_drop_step index o values)
data_drop_fine s index None values h = tt
data_drop_fine s index (Some bytes) values h = (tt, h)

-- ---- control instructions and calls

br_if_fine : (s : State) (label : ℕ) (values : List Value) → AreOwn values → OutcomeFine s (br_if_step label values)
br_if_fine s label (I32 (suc c) ∷ values) h = h.1
br_if_fine s label (I32 zero ∷ values) h = (tt, h.1)
br_if_fine s label values h = tt

listed_fine : (s : State) (o : Option ℕ) (last : ℕ) (values : List Value) → AreOwn values → OutcomeFine s (listed_jump o last values)
listed_fine s None last values h = h
listed_fine s (Some label) last values h = h

br_table_fine : (s : State) (labels : List ℕ) (last : ℕ) (values : List Value) → AreOwn values → OutcomeFine s (br_table_step labels last values)
br_table_fine s labels last (I32 number ∷ values) h = listed_fine s (slice_get labels number) last values h.1
br_table_fine s labels last values h = tt

invocation_fine : (s : State) (type : FunctionType) (body : FunctionBody) (arguments values : List Value) → AreOwn arguments → AreOwn values
    → OutcomeFine s (invocation type body arguments values)
invocation_fine s type (OwnBody locals code) arguments values h k = (own_append arguments (zeros_of locals) h (own_zeros locals), k)
invocation_fine s type (ImportedBody number) arguments values h k = (tt, k)
invocation_fine s type NoBody arguments values h k = tt

with_arguments_fine : (s : State) (type : FunctionType) (outcome : List Value → List Value → Outcome)
    → ((arguments below : List Value) → AreOwn arguments → AreOwn below → OutcomeFine s (outcome arguments below)) → (values : List Value) → AreOwn values
    → OutcomeFine s (with_arguments type outcome values)
with_arguments_fine s type outcome each values h =
    let n = length type.params in
    if-both (λ (o : Outcome). OutcomeFine s o) (nat_le n (length values)) (outcome (reverse (take n values)) (drop n values)) (Does HasNoRule)
    (each (reverse (take n values)) (drop n values) (own_reverse (take n values) (own_take n values h)) (own_drop n values h)) tt

call_fine : (s : State) (o : Option Callable) (values : List Value) → AreOwn values → OutcomeFine s (call_step o values)
call_fine s None values h = tt
call_fine s (Some function) values h =
    with_arguments_fine s function.type (λ arguments below. invocation function.type function.body arguments below)
    (λ arguments below a b. invocation_fine s function.type function.body arguments below a b) values h

expected_fine : (s : State) (type : FunctionType) (o : Option Callable) (values : List Value) → AreOwn values → OutcomeFine s (expected_call type o values)
expected_fine s type None values h = tt
expected_fine s type (Some function) values h =
    if-both (λ (o : Outcome). OutcomeFine s o) (same_function_type function.type type) (call_step (Some function) values) (Does (Fails _)) (call_fine s (Some function) values h)
    tt

entry_call_fine : (s : State) (type : FunctionType) (entries : List Reference) (at : ℕ) (o : Option Reference) → slice_get entries at ≡ o → AreOwnReferences entries
    → (values : List Value) → AreOwn values → OutcomeFine s (entry_call s.types s.functions type o values)
entry_call_fine s type entries at None e own values h = tt
entry_call_fine s type entries at (Some (Null kind)) e own values h = tt
entry_call_fine s type entries at (Some (Fn index)) e own values h = expected_fine s type (callable_at s.types s.functions index) values h
entry_call_fine s type entries at (Some (Foreign id sort)) e own values h = absurd (own_reference_at entries at (Foreign id sort) e own)

call_indirect_fine : (s : State) (type : Option FunctionType) (index : ℕ) (o : Option Table) → slice_get s.tables index ≡ o → HoldsOwn s → (values : List Value)
    → AreOwn values → OutcomeFine s (call_indirect_step s.types s.functions type o values)
call_indirect_fine s (Some type) index (Some table) e own (I32 at ∷ values) h =
    entry_call_fine s type table.entries at (slice_get table.entries at) refl (own.tables index table e) values h.1
call_indirect_fine s type index o e own values h = tt

-- ---- all instructions

instr_fine : (s : State) (locals : List Value) (instr : Instr) (values : List Value) → changes_table instr ≡ false → HoldsOwn s → AreOwn locals → AreOwn values
    → OutcomeFine s (instr_step s locals instr values)
instr_fine s locals (TableSet table) values e h l k = absurd (cc e)
instr_fine s locals (TableInit segment table) values e h l k = absurd (cc e)
instr_fine s locals (TableCopy to from) values e h l k = absurd (cc e)
instr_fine s locals (TableGrow table) values e h l k = absurd (cc e)
instr_fine s locals (TableFill table) values e h l k = absurd (cc e)
instr_fine s locals (Num o) values e h l k = operation_fine s o (types_of o).second values k
instr_fine s locals RefIsNull values e h l k = is_null_fine s values k
instr_fine s locals (RefFunc index) values e h l k = ref_func_fine s index (slice_get s.functions index) values k
instr_fine s locals Drop values e h l k = drop_fine s values k
instr_fine s locals Select values e h l k = select_fine s values k
instr_fine s locals (LocalGet index) values e h l k = local_get_fine s locals index (slice_get locals index) refl values l k
instr_fine s locals (LocalSet index) values e h l k = local_set_fine s locals index (slice_get locals index) values l k
instr_fine s locals (LocalTee index) values e h l k = local_tee_fine s locals index (slice_get locals index) values l k
instr_fine s locals (GlobalGet index) values e h l k = global_get_fine s index (slice_get s.globals index) refl values h k
instr_fine s locals (GlobalSet index) values e h l k = global_set_fine s index (slice_get s.globals index) refl values k
instr_fine s locals (TableGet table) values e h l k = table_get_fine s table (slice_get s.tables table) refl values h k
instr_fine s locals (TableSize table) values e h l k = table_size_fine s (slice_get s.tables table) values k
instr_fine s locals (ElemDrop segment) values e h l k = elem_drop_fine s segment (slice_get s.elements segment) values k
instr_fine s locals (Access o align offset memory) values e h l k = access_fine s (shape_of o) offset memory values k
instr_fine s locals (MemorySize memory) values e h l k = memory_size_fine s (slice_get s.memories memory) values k
instr_fine s locals (MemoryGrow memory) values e h l k = memory_grow_fine s memory (slice_get s.memories memory) refl values k
instr_fine s locals (MemoryFill memory) values e h l k = fill_fine s memory (slice_get s.memories memory) refl values k
instr_fine s locals (MemoryCopy to from) values e h l k = copy_fine s to (slice_get s.memories to) refl (slice_get s.memories from) values k
instr_fine s locals (MemoryInit segment memory) values e h l k = init_fine s memory (slice_get s.memories memory) refl (slice_get s.datas segment) values k
instr_fine s locals (DataDrop segment) values e h l k = data_drop_fine s segment (slice_get s.datas segment) values k
instr_fine s locals (Br label) values e h l k = k
instr_fine s locals (BrIf label) values e h l k = br_if_fine s label values k
instr_fine s locals Return values e h l k = k
instr_fine s locals (Call function) values e h l k = call_fine s (callable_at s.types s.functions function) values k
instr_fine s locals (CallIndirect signature table) values e h l k =
    call_indirect_fine s (slice_get s.types signature) table (slice_get s.tables table) refl h values k
instr_fine s locals (I32Const bits) values e h l k = (tt, (tt, k))
instr_fine s locals (I64Const bits) values e h l k = (tt, (tt, k))
instr_fine s locals (F32Const bits) values e h l k = (tt, (tt, k))
instr_fine s locals (F64Const bits) values e h l k = (tt, (tt, k))
instr_fine s locals (RefNull kind) values e h l k = (tt, (tt, k))
instr_fine s locals Nop values e h l k = (tt, k)
instr_fine s locals instr values e h l k = tt

leaf_fine : (s : State) (locals : List Value) (leaf : Leaf) (values : List Value) → leaf_changes_table leaf ≡ false → HoldsOwn s → AreOwn locals → AreOwn values
    → OutcomeFine s (leaf_step s locals leaf values)
leaf_fine s locals (Plain instr) values e h l k = instr_fine s locals instr values e h l k
leaf_fine s locals (TypedSelect types) values e h l k = select_fine s values k
leaf_fine s locals (TableBranch labels last) values e h l k = br_table_fine s labels last values k

-- ---- what stands around

outcome_fine : (s : State) (locals : List Value) (rest : Code) (o : Outcome) → AreOwn locals → OutcomeFine s o → ReductFine s (outcome_reduct locals rest o)
outcome_fine s locals rest (Does (Yields change values)) l h = (h.0, l, h.1)
outcome_fine s locals rest (Does (Poses question values)) l h = h
outcome_fine s locals rest (Does (Fails kind)) l h = tt
outcome_fine s locals rest (Does HasNoRule) l h = tt
outcome_fine s locals rest (SetsLocals new values) l h = (tt, h.0, h.1)
outcome_fine s locals rest (Jumps label values) l h = h
outcome_fine s locals rest (Quits values) l h = h
outcome_fine s locals rest (Calls count inner code values) l h = (tt, l, (h.1, h.0, tt))

block_fine : (s : State) (locals : List Value) (type : Option FunctionType) (again : Option Code) (inner : Code) (values : List Value) (rest : Code) → AreOwn locals
    → AreOwn values → ReductFine s (block_entry locals type again inner values rest)
block_fine s locals None again inner values rest l h = tt
block_fine s locals (Some type) again inner values rest l h =
    let n = length type.params in
    if-both (λ (r : Reduct). ReductFine s r) (nat_le n (length values))
    (Goes Nothing locals (InLabel (drop n values) (length (label_types type again)) again (Innermost (take n values) inner) rest)) Sticks
    (tt, l, (own_drop n values h, own_take n values h)) tt

if_fine : (s : State) (locals : List Value) (type : Option FunctionType) (first second : Code) (values : List Value) (rest : Code) → AreOwn locals → AreOwn values
    → ReductFine s (if_entry locals type first second values rest)
if_fine s locals type first second (I32 (suc c) ∷ values) rest l h = block_fine s locals type None first values rest l h.1
if_fine s locals type first second (I32 zero ∷ values) rest l h = block_fine s locals type None second values rest l h.1
if_fine s locals type first second values rest l h = tt

code_fine : (s : State) (locals values : List Value) (code : Code) → head_changes_table (head_of code) ≡ false → HoldsOwn s → AreOwn locals → AreOwn values
    → ReductFine s (code_reduct s locals values code)
code_fine s locals values End e h l k = k
code_fine s locals values (Then leaf rest) e h l k = outcome_fine s locals rest (leaf_step s locals leaf values) l (leaf_fine s locals leaf values e h l k)
code_fine s locals values (InBlock shape inner rest) e h l k = block_fine s locals (block_type s.types shape) None inner values rest l k
code_fine s locals values (InLoop shape inner rest) e h l k = block_fine s locals (block_type s.types shape) (Some inner) inner values rest l k
code_fine s locals values (InIf shape first second rest) e h l k = if_fine s locals (block_type s.types shape) first second values rest l k

arrival_own : (below : List Value) (count : ℕ) (again : Option Code) (rest : Code) (carried : List Value) → AreOwn below → AreOwn carried
    → InsideOwn (arrival below count again rest carried)
arrival_own below count (Some again) rest carried b h = (b, h)
arrival_own below count None rest carried b h = own_append carried below h b

label_fine : (s : State) (locals below : List Value) (count : ℕ) (again : Option Code) (rest : Code) (r : Reduct) → AreOwn locals → AreOwn below → ReductFine s r
    → ReductFine s (label_reduct locals below count again rest r)
label_fine s locals below count again rest (Goes change new inside) l b h = (h.0, h.1, (b, h.2))
label_fine s locals below count again rest (Finishes values) l b h = (tt, l, own_append values below h b)
label_fine s locals below count again rest (Branches zero values) l b h =
    if-both (λ (r : Reduct). ReductFine s r) (nat_le count (length values)) (Goes Nothing locals (arrival below count again rest (take count values))) Sticks
    (tt, l, arrival_own below count again rest (take count values) b (own_take count values h)) tt
label_fine s locals below count again rest (Branches (suc label) values) l b h = h
label_fine s locals below count again rest (Returns values) l b h = h
label_fine s locals below count again rest (Pauses question inside) l b h = (h.0, (b, h.1))
label_fine s locals below count again rest (Traps kind) l b h = tt
label_fine s locals below count again rest Sticks l b h = tt

left_fine : (s : State) (locals below : List Value) (count : ℕ) (rest : Code) (values : List Value) → AreOwn locals → AreOwn below → AreOwn values
    → ReductFine s (frame_left locals below count rest values)
left_fine s locals below count rest values l b h =
    if-both (λ (r : Reduct). ReductFine s r) (nat_le count (length values)) (Goes Nothing locals (Innermost (take count values ++ below) rest)) Sticks
    (tt, l, own_append (take count values) below (own_take count values h) b) tt

frame_fine : (s : State) (locals below : List Value) (count : ℕ) (own : List Value) (rest : Code) (r : Reduct) → AreOwn locals → AreOwn below → AreOwn own → ReductFine s r
    → ReductFine s (frame_reduct locals below count own rest r)
frame_fine s locals below count own rest (Goes change new inside) l b o h = (h.0, l, (b, h.1, h.2))
frame_fine s locals below count own rest (Finishes values) l b o h =
    if-both (λ (r : Reduct). ReductFine s r) (length values == count) (Goes Nothing locals (Innermost (values ++ below) rest)) Sticks (tt, l, own_append values below h b) tt
frame_fine s locals below count own rest (Branches zero values) l b o h = left_fine s locals below count rest values l b h
frame_fine s locals below count own rest (Branches (suc label) values) l b o h = tt
frame_fine s locals below count own rest (Returns values) l b o h = left_fine s locals below count rest values l b h
frame_fine s locals below count own rest (Pauses question inside) l b o h = (h.0, (b, o, h.1))
frame_fine s locals below count own rest (Traps kind) l b o h = tt
frame_fine s locals below count own rest Sticks l b o h = tt

inside_fine : (s : State) (locals : List Value) (inside : Inside) → head_changes_table (head_in inside) ≡ false → HoldsOwn s → AreOwn locals → InsideOwn inside
    → ReductFine s (inside_reduct s locals inside)
inside_fine s locals (Innermost values code) e h l k = code_fine s locals values code e h l k
inside_fine s locals (InLabel below count again inside rest) e h l k =
    label_fine s locals below count again rest (inside_reduct s locals inside) l k.0 (inside_fine s locals inside e h l k.1)
inside_fine s locals (InFrame below count own inside rest) e h l k =
    frame_fine s locals below count own rest (inside_reduct s own inside) l k.0 k.1 (inside_fine s own inside e h k.1 k.2)

results_fine : (s : State) (count : ℕ) (values : List Value) → AnswerFine s (results_answer count values)
results_fine s count values =
    if-both (λ (a : Answer). AnswerFine s a) (nat_le count (length values)) (Done (reverse (take count values))) Stuck tt tt

answer_fine : (s : State) (count : ℕ) (locals : List Value) (r : Reduct) → AreOwn locals → ReductFine s r → AnswerFine s (frame_answer count locals r)
answer_fine s count locals (Goes change new inside) l h = (h.0, (h.1, h.2))
answer_fine s count locals (Finishes values) l h =
    if-both (λ (a : Answer). AnswerFine s a) (length values == count) (Done (reverse values)) Stuck tt tt
answer_fine s count locals (Branches zero values) l h = results_fine s count values
answer_fine s count locals (Branches (suc label) values) l h = tt
answer_fine s count locals (Returns values) l h = results_fine s count values
answer_fine s count locals (Pauses question inside) l h = (h.0, (l, h.1))
answer_fine s count locals (Traps kind) l h = tt
answer_fine s count locals Sticks l h = tt

pub step_fine : (s : State) (term : Term) → head_changes_table (next term) ≡ false → HoldsOwn s → TermOwn term → AnswerFine s (step s term)
step_fine s (Frame count locals inside) e h t = answer_fine s count locals (inside_reduct s locals inside) t.0 (inside_fine s locals inside e h t.0 t.1)
step_fine s (BareValues values) e h t = tt
