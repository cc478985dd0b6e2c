-- Section 4.4 of the Core Specification: what each instruction does that holds no others, in the standard's order. Each has one line
-- here, with all that it looks at in the state and in its frame's locals; the rules themselves stand in the modules of the groups.
use Rattle.std.specs.Prelude.{List, length, slice_get}
use Rattle.wz_types.specs.declared.value.Value.{Value}
use Rattle.wz_types.specs.declared.value.Value.TheVariants as value
use Rattle.wz_code.specs.declared.instr.Instr.{Instr}
use Rattle.wz_code.specs.declared.instr.Instr.TheVariants.{Unreachable, Nop, Block, Loop, If, Br, BrIf, BrTable, Return, Call, CallIndirect, RefNull, RefIsNull, RefFunc, Drop, Select, SelectTyped, LocalGet, LocalSet, LocalTee, GlobalGet, GlobalSet, TableGet, TableSet, TableInit, ElemDrop, TableCopy, TableGrow, TableSize, TableFill, Access, MemorySize, MemoryGrow, MemoryInit, DataDrop, MemoryCopy, MemoryFill, I32Const, I64Const, F32Const, F64Const, Num}
use Rattle.wz_code.specs.Numeric.{types_of}
use Rattle.wz_code.specs.Accesses.{shape_of}
use Rattle.wz_code.specs.Trees.{Leaf, Plain, TableBranch, TypedSelect}
use Rattle.wz_machine.specs.State.{State, callable_at}
use Rattle.wz_machine.specs.Outcomes.{HasNoRule, Outcome, Does}
use Rattle.wz_machine.specs.NumericSteps.{const_step, operation_step}
use Rattle.wz_machine.specs.ReferenceSteps.{ref_null_step, ref_is_null_step, ref_func_step}
use Rattle.wz_machine.specs.ParametricSteps.{drop_step, select_step}
use Rattle.wz_machine.specs.VariableSteps.{local_get_step, local_set_step, local_tee_step, global_get_step, global_set_step}
use Rattle.wz_machine.specs.TableSteps.{table_get_step, table_set_step, table_size_step, table_grow_step, table_fill_step, table_copy_step, table_init_step, elem_drop_step}
use Rattle.wz_machine.specs.MemorySteps.{access_step, memory_size_step, memory_grow_step, memory_fill_step, memory_copy_step, memory_init_step, data_drop_step}
use Rattle.wz_machine.specs.ControlSteps.{nop_step, unreachable_step, br_step, br_if_step, br_table_step, return_step}
use Rattle.wz_machine.specs.CallSteps.{call_step, call_indirect_step}

-- in a frame with these locals, and with these values before it
abbrev pub instr_step : State → List Value → Instr → List Value → Outcome
-- 4.4.1 numeric instructions
instr_step s locals (I32Const bits) values = Does (const_step (value.I32 bits) values)
instr_step s locals (I64Const bits) values = Does (const_step (value.I64 bits) values)
instr_step s locals (F32Const bits) values = Does (const_step (value.F32 bits) values)
instr_step s locals (F64Const bits) values = Does (const_step (value.F64 bits) values)
instr_step s locals (Num op) values = Does (operation_step op (types_of op).second values)
-- 4.4.2 reference instructions
instr_step s locals (RefNull kind) values = Does (ref_null_step kind values)
instr_step s locals RefIsNull values = Does (ref_is_null_step values)
instr_step s locals (RefFunc index) values = Does (ref_func_step index (slice_get s.functions index) values)
-- 4.4.4 parametric instructions
instr_step s locals Drop values = Does (drop_step values)
instr_step s locals Select values = Does (select_step values)
-- 4.4.5 variable instructions
instr_step s locals (LocalGet index) values = Does (local_get_step (slice_get locals index) values)
instr_step s locals (LocalSet index) values = local_set_step locals index (slice_get locals index) values
instr_step s locals (LocalTee index) values = local_tee_step locals index (slice_get locals index) values
instr_step s locals (GlobalGet index) values = Does (global_get_step (slice_get s.globals index) values)
instr_step s locals (GlobalSet index) values = Does (global_set_step (length s.functions) (length s.types) index (slice_get s.globals index) values)
-- 4.4.6 table instructions
instr_step s locals (TableGet table) values = Does (table_get_step (slice_get s.tables table) values)
instr_step s locals (TableSet table) values = Does (table_set_step table (slice_get s.tables table) values)
instr_step s locals (TableSize table) values = Does (table_size_step (slice_get s.tables table) values)
instr_step s locals (TableGrow table) values = Does (table_grow_step table (slice_get s.tables table) values)
instr_step s locals (TableFill table) values = Does (table_fill_step table (slice_get s.tables table) values)
instr_step s locals (TableCopy to from) values = Does (table_copy_step to (slice_get s.tables to) (slice_get s.tables from) values)
instr_step s locals (TableInit segment table) values = Does (table_init_step table (slice_get s.tables table) (slice_get s.elements segment) values)
instr_step s locals (ElemDrop segment) values = Does (elem_drop_step segment (slice_get s.elements segment) values)
-- 4.4.7 memory instructions
instr_step s locals (Access op align offset memory) values = Does (access_step (shape_of op) offset memory (slice_get s.memories memory) values)
instr_step s locals (MemorySize memory) values = Does (memory_size_step (slice_get s.memories memory) values)
instr_step s locals (MemoryGrow memory) values = Does (memory_grow_step memory (slice_get s.memories memory) values)
instr_step s locals (MemoryFill memory) values = Does (memory_fill_step memory (slice_get s.memories memory) values)
instr_step s locals (MemoryCopy to from) values = Does (memory_copy_step to (slice_get s.memories to) (slice_get s.memories from) values)
instr_step s locals (MemoryInit segment memory) values = Does (memory_init_step memory (slice_get s.memories memory) (slice_get s.datas segment) values)
instr_step s locals (DataDrop segment) values = Does (data_drop_step segment (slice_get s.datas segment) values)
-- 4.4.8 control instructions
instr_step s locals Nop values = Does (nop_step values)
instr_step s locals Unreachable values = Does (unreachable_step values)
instr_step s locals (Br label) values = br_step label values
instr_step s locals (BrIf label) values = br_if_step label values
instr_step s locals Return values = return_step values
instr_step s locals (Call function) values = call_step (callable_at s.types s.functions function) values
instr_step s locals (CallIndirect signature table) values = call_indirect_step s.types s.functions (slice_get s.types signature) (slice_get s.tables table) values
-- these stand in a tree in forms of their own, so a tree with one of them as a plain instruction is that of no body
instr_step s locals (Block shape body) values = Does HasNoRule
instr_step s locals (Loop shape body) values = Does HasNoRule
instr_step s locals (If shape first second) values = Does HasNoRule
instr_step s locals (BrTable first count last) values = Does HasNoRule
instr_step s locals (SelectTyped first count) values = Does HasNoRule

-- the same of any leaf of a tree; a typed select's types are no part of its rule
abbrev pub leaf_step : State → List Value → Leaf → List Value → Outcome
leaf_step s locals (Plain instr) values = instr_step s locals instr values
leaf_step s locals (TypedSelect types) values = Does (select_step values)
leaf_step s locals (TableBranch labels last) values = br_table_step labels last values
