-- Each instruction of the tables, by what the code of its group answers.
use Rattle.std.proofs.Common.{length, slice_get, refl, ap, arith}
use Rattle.std.proofs.lemmas.List.{length-map}
use Rattle.wz_types.specs.declared.value.Value.TheVariants.{I32, I64, F32, F64}
use Rattle.wz_code.specs.declared.instr.Instr.TheVariants.{Nop, RefNull, RefIsNull, RefFunc, Drop, Select, SelectTyped, LocalGet, GlobalGet, GlobalSet, TableGet, TableSet, TableInit, ElemDrop, TableCopy, TableSize, TableFill, MemorySize, MemoryInit, DataDrop, MemoryCopy, MemoryFill, I32Const, I64Const, F32Const, F64Const}
use Rattle.wz_machine.specs.declared.plain.Plain.TheVariants.{Went}
use Rattle.wz_machine.specs.State.{state_of, instance_of}
use Rattle.wz_machine.specs.Outcomes.{Does}
use Rattle.wz_machine.specs.NumericSteps.{const_step}
use Rattle.wz_machine.specs.ReferenceSteps.{ref_null_step, ref_is_null_step, ref_func_step}
use Rattle.wz_machine.specs.ParametricSteps.{drop_step, select_step}
use Rattle.wz_machine.specs.VariableSteps.{local_get_step, global_get_step, global_set_step}
use Rattle.wz_machine.specs.TableSteps.{table_get_step, table_set_step, table_size_step, table_fill_step, table_copy_step, table_init_step, elem_drop_step}
use Rattle.wz_machine.specs.MemorySteps.{memory_size_step, memory_fill_step, memory_copy_step, memory_init_step, data_drop_step}
use Rattle.wz_machine.specs.ControlSteps.{nop_step}
use Rattle.wz_machine.specs.PlainSteps.{used}
use Rattle.wz_machine.proofs.ReplyLemmas.{of_values, of_store, of_store_if, of_number}
use Rattle.wz_machine.proofs.plain.run_plain.Goals as goal

pub returns-in-I32Const-clause-reply : goal.returns-in-I32Const-clause-reply
returns-in-I32Const-clause-reply g c =
    of_values c.constant.result c.args.body.now c.args.instr.now (I32Const c.in-I32Const.bits) (λ bodies. const_step (I32 c.in-I32Const.bits) (used c.args.have c.args.own.now)) c.args.have c.args.locals.now c.args.own.now
    c.constant.new.own c.args.store.now c.in-I32Const.is (λ rest. refl) (λ bodies. refl) (λ bodies. c.constant.ensures)

pub returns-in-I64Const-clause-reply : goal.returns-in-I64Const-clause-reply
returns-in-I64Const-clause-reply g c =
    of_values c.constant-in-I64Const.result c.args.body.now c.args.instr.now (I64Const c.in-I64Const.bits) (λ bodies. const_step (I64 c.in-I64Const.bits) (used c.args.have c.args.own.now)) c.args.have c.args.locals.now c.args.own.now
    c.constant-in-I64Const.new.own c.args.store.now c.in-I64Const.is (λ rest. refl) (λ bodies. refl) (λ bodies. c.constant-in-I64Const.ensures)

pub returns-in-F32Const-clause-reply : goal.returns-in-F32Const-clause-reply
returns-in-F32Const-clause-reply g c =
    of_values c.constant-in-F32Const.result c.args.body.now c.args.instr.now (F32Const c.in-F32Const.bits) (λ bodies. const_step (F32 c.in-F32Const.bits) (used c.args.have c.args.own.now)) c.args.have c.args.locals.now c.args.own.now
    c.constant-in-F32Const.new.own c.args.store.now c.in-F32Const.is (λ rest. refl) (λ bodies. refl) (λ bodies. c.constant-in-F32Const.ensures)

pub returns-in-F64Const-clause-reply : goal.returns-in-F64Const-clause-reply
returns-in-F64Const-clause-reply g c =
    of_values c.constant-in-F64Const.result c.args.body.now c.args.instr.now (F64Const c.in-F64Const.bits) (λ bodies. const_step (F64 c.in-F64Const.bits) (used c.args.have c.args.own.now)) c.args.have c.args.locals.now c.args.own.now
    c.constant-in-F64Const.new.own c.args.store.now c.in-F64Const.is (λ rest. refl) (λ bodies. refl) (λ bodies. c.constant-in-F64Const.ensures)

pub returns-in-Num-clause-reply : goal.returns-in-Num-clause-reply
returns-in-Num-clause-reply g c =
    of_number c.operation.result c.args.body.now c.args.instr.now c.in-Num.op c.args.have c.args.locals.now c.args.own.now c.operation.new.own c.args.store.now c.in-Num.is
    c.operation.ensures

pub returns-in-RefNull-clause-reply : goal.returns-in-RefNull-clause-reply
returns-in-RefNull-clause-reply g c =
    of_values c.ref_null.result c.args.body.now c.args.instr.now (RefNull c.in-RefNull.kind) (λ bodies. ref_null_step c.in-RefNull.kind (used c.args.have c.args.own.now)) c.args.have c.args.locals.now c.args.own.now
    c.ref_null.new.own c.args.store.now c.in-RefNull.is (λ rest. refl) (λ bodies. refl) (λ bodies. c.ref_null.ensures)

pub returns-in-RefIsNull-clause-reply : goal.returns-in-RefIsNull-clause-reply
returns-in-RefIsNull-clause-reply g c =
    of_values c.ref_is_null.result c.args.body.now c.args.instr.now RefIsNull (λ bodies. ref_is_null_step (used c.args.have c.args.own.now)) c.args.have c.args.locals.now c.args.own.now
    c.ref_is_null.new.own c.args.store.now c.in-RefIsNull.is (λ rest. refl) (λ bodies. refl) (λ bodies. c.ref_is_null.ensures)

pub returns-in-RefFunc-clause-reply : goal.returns-in-RefFunc-clause-reply
returns-in-RefFunc-clause-reply g c =
    of_values c.ref_func.result c.args.body.now c.args.instr.now (RefFunc c.in-RefFunc.index)
    (λ bodies. ref_func_step c.in-RefFunc.index (slice_get (state_of bodies c.args.store.now).functions c.in-RefFunc.index) (used c.args.have c.args.own.now)) c.args.have c.args.locals.now c.args.own.now
    c.ref_func.new.own c.args.store.now c.in-RefFunc.is (λ rest. refl) (λ bodies. refl) c.ref_func.ensures

pub returns-in-Drop-clause-reply : goal.returns-in-Drop-clause-reply
returns-in-Drop-clause-reply g c =
    of_values c.drop_value.result c.args.body.now c.args.instr.now Drop (λ bodies. drop_step (used c.args.have c.args.own.now)) c.args.have c.args.locals.now c.args.own.now
    c.args.own.now c.args.store.now c.in-Drop.is (λ rest. refl) (λ bodies. refl) (λ bodies. c.drop_value.ensures)

pub returns-in-Select-clause-reply : goal.returns-in-Select-clause-reply
returns-in-Select-clause-reply g c =
    of_values c.select.result c.args.body.now c.args.instr.now Select (λ bodies. select_step (used c.args.have c.args.own.now)) c.args.have c.args.locals.now c.args.own.now
    c.select.new.own c.args.store.now c.in-Select.is (λ rest. refl) (λ bodies. refl) (λ bodies. c.select.ensures)

pub returns-in-SelectTyped-clause-reply : goal.returns-in-SelectTyped-clause-reply
returns-in-SelectTyped-clause-reply g c =
    of_values c.select-in-SelectTyped.result c.args.body.now c.args.instr.now (SelectTyped c.in-SelectTyped.first c.in-SelectTyped.count) (λ bodies. select_step (used c.args.have c.args.own.now)) c.args.have c.args.locals.now c.args.own.now
    c.select-in-SelectTyped.new.own c.args.store.now c.in-SelectTyped.is (λ rest. refl) (λ bodies. refl) (λ bodies. c.select-in-SelectTyped.ensures)

pub returns-in-LocalGet-clause-reply : goal.returns-in-LocalGet-clause-reply
returns-in-LocalGet-clause-reply g c =
    of_values c.local_get.result c.args.body.now c.args.instr.now (LocalGet c.in-LocalGet.index) (λ bodies. local_get_step (slice_get c.args.locals.now c.in-LocalGet.index) (used c.args.have c.args.own.now)) c.args.have c.args.locals.now c.args.own.now
    c.local_get.new.own c.args.store.now c.in-LocalGet.is (λ rest. refl) (λ bodies. refl) (λ bodies. c.local_get.ensures)

pub returns-in-GlobalGet-clause-reply : goal.returns-in-GlobalGet-clause-reply
returns-in-GlobalGet-clause-reply g c =
    of_values c.global_get.result c.args.body.now c.args.instr.now (GlobalGet c.in-GlobalGet.index) (λ bodies. global_get_step (slice_get c.args.store.now.globals c.in-GlobalGet.index) (used c.args.have c.args.own.now)) c.args.have c.args.locals.now c.args.own.now
    c.global_get.new.own c.args.store.now c.in-GlobalGet.is (λ rest. refl) (λ bodies. refl) (λ bodies. c.global_get.ensures)

pub returns-in-GlobalSet-clause-reply : goal.returns-in-GlobalSet-clause-reply
returns-in-GlobalSet-clause-reply g c =
    of_store c.global_set.result c.args.body.now c.args.instr.now (GlobalSet c.in-GlobalSet.index) (global_set_step (length c.args.store.now.functions) (length c.args.store.now.types) c.in-GlobalSet.index (slice_get c.args.store.now.globals c.in-GlobalSet.index) (used c.args.have c.args.own.now)) c.args.have c.args.locals.now c.args.own.now c.args.store.now
    c.global_set.new.store c.in-GlobalSet.is (λ rest. refl) (λ bodies. ap (λ n. Does (global_set_step n (length c.args.store.now.types) c.in-GlobalSet.index (slice_get c.args.store.now.globals c.in-GlobalSet.index) (used c.args.have c.args.own.now))) (length-map c.args.store.now.functions (λ f. instance_of bodies f))) c.global_set.ensures

pub returns-in-TableGet-clause-reply : goal.returns-in-TableGet-clause-reply
returns-in-TableGet-clause-reply g c =
    of_values c.table_get.result c.args.body.now c.args.instr.now (TableGet c.in-TableGet.table) (λ bodies. table_get_step (slice_get c.args.store.now.tables c.in-TableGet.table) (used c.args.have c.args.own.now)) c.args.have c.args.locals.now c.args.own.now
    c.table_get.new.own c.args.store.now c.in-TableGet.is (λ rest. refl) (λ bodies. refl) (λ bodies. c.table_get.ensures)

pub returns-in-TableSet-clause-reply : goal.returns-in-TableSet-clause-reply
returns-in-TableSet-clause-reply g c =
    of_store c.table_set.result c.args.body.now c.args.instr.now (TableSet c.in-TableSet.table) (table_set_step c.in-TableSet.table (slice_get c.args.store.now.tables c.in-TableSet.table) (used c.args.have c.args.own.now)) c.args.have c.args.locals.now c.args.own.now c.args.store.now
    c.table_set.new.store c.in-TableSet.is (λ rest. refl) (λ bodies. refl) c.table_set.ensures

pub returns-in-TableSize-clause-reply : goal.returns-in-TableSize-clause-reply
returns-in-TableSize-clause-reply g c =
    of_values c.table_size.result c.args.body.now c.args.instr.now (TableSize c.in-TableSize.table) (λ bodies. table_size_step (slice_get c.args.store.now.tables c.in-TableSize.table) (used c.args.have c.args.own.now)) c.args.have c.args.locals.now c.args.own.now
    c.table_size.new.own c.args.store.now c.in-TableSize.is (λ rest. refl) (λ bodies. refl) (λ bodies. c.table_size.ensures)

pub returns-in-TableFill-clause-reply : goal.returns-in-TableFill-clause-reply
returns-in-TableFill-clause-reply g c =
    of_store c.table_fill.result c.args.body.now c.args.instr.now (TableFill c.in-TableFill.table) (table_fill_step c.in-TableFill.table (slice_get c.args.store.now.tables c.in-TableFill.table) (used c.args.have c.args.own.now)) c.args.have c.args.locals.now c.args.own.now c.args.store.now
    c.table_fill.new.store c.in-TableFill.is (λ rest. refl) (λ bodies. refl) c.table_fill.ensures

pub returns-in-TableCopy-clause-reply : goal.returns-in-TableCopy-clause-reply
returns-in-TableCopy-clause-reply g c =
    of_store c.table_copy.result c.args.body.now c.args.instr.now (TableCopy c.in-TableCopy.to c.in-TableCopy.from) (table_copy_step c.in-TableCopy.to (slice_get c.args.store.now.tables c.in-TableCopy.to) (slice_get c.args.store.now.tables c.in-TableCopy.from) (used c.args.have c.args.own.now)) c.args.have c.args.locals.now c.args.own.now c.args.store.now
    c.table_copy.new.store c.in-TableCopy.is (λ rest. refl) (λ bodies. refl) c.table_copy.ensures

pub returns-in-TableInit-clause-reply : goal.returns-in-TableInit-clause-reply
returns-in-TableInit-clause-reply g c =
    of_store c.table_init.result c.args.body.now c.args.instr.now (TableInit c.in-TableInit.segment c.in-TableInit.table) (table_init_step c.in-TableInit.table (slice_get c.args.store.now.tables c.in-TableInit.table) (slice_get c.args.store.now.elements c.in-TableInit.segment) (used c.args.have c.args.own.now)) c.args.have c.args.locals.now c.args.own.now c.args.store.now
    c.table_init.new.store c.in-TableInit.is (λ rest. refl) (λ bodies. refl) c.table_init.ensures

pub returns-in-ElemDrop-clause-reply : goal.returns-in-ElemDrop-clause-reply
returns-in-ElemDrop-clause-reply g c =
    of_store c.elem_drop.result c.args.body.now c.args.instr.now (ElemDrop c.in-ElemDrop.segment) (elem_drop_step c.in-ElemDrop.segment (slice_get c.args.store.now.elements c.in-ElemDrop.segment) (used c.args.have c.args.own.now)) c.args.have c.args.locals.now c.args.own.now c.args.store.now
    c.elem_drop.new.store c.in-ElemDrop.is (λ rest. refl) (λ bodies. refl) c.elem_drop.ensures

pub returns-in-MemorySize-clause-reply : goal.returns-in-MemorySize-clause-reply
returns-in-MemorySize-clause-reply g c =
    of_values c.memory_size.result c.args.body.now c.args.instr.now (MemorySize c.in-MemorySize.memory) (λ bodies. memory_size_step (slice_get c.args.store.now.memories c.in-MemorySize.memory) (used c.args.have c.args.own.now)) c.args.have c.args.locals.now c.args.own.now
    c.memory_size.new.own c.args.store.now c.in-MemorySize.is (λ rest. refl) (λ bodies. refl) (λ bodies. c.memory_size.ensures)

pub returns-in-MemoryFill-clause-reply : goal.returns-in-MemoryFill-clause-reply
returns-in-MemoryFill-clause-reply g c =
    of_store_if c.memory_fill.result c.args.body.now c.args.instr.now (MemoryFill c.in-MemoryFill.memory) (memory_fill_step c.in-MemoryFill.memory (slice_get c.args.store.now.memories c.in-MemoryFill.memory) (used c.args.have c.args.own.now)) c.args.have c.args.locals.now c.args.own.now c.args.store.now
    c.memory_fill.new.store c.in-MemoryFill.is (λ rest. refl) (λ bodies. refl) c.memory_fill.ensures.reply

pub returns-in-MemoryCopy-clause-reply : goal.returns-in-MemoryCopy-clause-reply
returns-in-MemoryCopy-clause-reply g c =
    of_store_if c.memory_copy.result c.args.body.now c.args.instr.now (MemoryCopy c.in-MemoryCopy.to c.in-MemoryCopy.from) (memory_copy_step c.in-MemoryCopy.to (slice_get c.args.store.now.memories c.in-MemoryCopy.to) (slice_get c.args.store.now.memories c.in-MemoryCopy.from) (used c.args.have c.args.own.now)) c.args.have c.args.locals.now c.args.own.now c.args.store.now
    c.memory_copy.new.store c.in-MemoryCopy.is (λ rest. refl) (λ bodies. refl) c.memory_copy.ensures.reply

pub returns-in-MemoryInit-clause-reply : goal.returns-in-MemoryInit-clause-reply
returns-in-MemoryInit-clause-reply g c =
    of_store_if c.memory_init.result c.args.body.now c.args.instr.now (MemoryInit c.in-MemoryInit.segment c.in-MemoryInit.memory) (memory_init_step c.in-MemoryInit.memory (slice_get c.args.store.now.memories c.in-MemoryInit.memory) (slice_get c.args.store.now.datas c.in-MemoryInit.segment) (used c.args.have c.args.own.now)) c.args.have c.args.locals.now c.args.own.now c.args.store.now
    c.memory_init.new.store c.in-MemoryInit.is (λ rest. refl) (λ bodies. refl) c.memory_init.ensures.reply

pub returns-in-DataDrop-clause-reply : goal.returns-in-DataDrop-clause-reply
returns-in-DataDrop-clause-reply g c =
    of_store c.data_drop.result c.args.body.now c.args.instr.now (DataDrop c.in-DataDrop.segment) (data_drop_step c.in-DataDrop.segment (slice_get c.args.store.now.datas c.in-DataDrop.segment) (used c.args.have c.args.own.now)) c.args.have c.args.locals.now c.args.own.now c.args.store.now
    c.data_drop.new.store c.in-DataDrop.is (λ rest. refl) (λ bodies. refl) c.data_drop.ensures

pub returns-in-Access-clause-reply : goal.returns-in-Access-clause-reply
returns-in-Access-clause-reply g c =
    rw c.in-Access.is (c.load_or_store.ensures.reply c.args.body.now c.in-Access.align c.args.locals.now)

pub returns-in-Nop-clause-reply : goal.returns-in-Nop-clause-reply
returns-in-Nop-clause-reply g c =
    of_values (Went c.args.have) c.args.body.now c.args.instr.now Nop (λ bodies. nop_step (used c.args.have c.args.own.now)) c.args.have c.args.locals.now c.args.own.now c.args.own.now
    c.args.store.now c.in-Nop.is (λ rest. refl) (λ bodies. refl) (λ bodies. (omega arith, refl))
