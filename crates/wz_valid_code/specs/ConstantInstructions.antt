-- Section 3.3.10 of the Core Specification: the rule of each instruction in a constant expression. Those that aren't constant have none.
use Rattle.std.specs.Prelude.{[], ◌∷◌}
use Rattle.wz_types.specs.declared.types.ValType.TheVariants.{I32, I64, F32, F64, FuncRef}
use Rattle.wz_types.specs.Fits.{type_of_kind}
use Rattle.wz_code.specs.declared.instr.Instr.{Instr}
use Rattle.wz_code.specs.declared.instr.Instr.TheVariants.{I32Const, I64Const, F32Const, F64Const, Num}
use Rattle.wz_code.specs.declared.instr.Instr.TheVariants.{RefNull, RefIsNull, RefFunc, Drop, Select, SelectTyped}
use Rattle.wz_code.specs.declared.instr.Instr.TheVariants.{LocalGet, LocalSet, LocalTee, GlobalGet, GlobalSet}
use Rattle.wz_code.specs.declared.instr.Instr.TheVariants.{TableGet, TableSet, TableSize, TableGrow, TableFill, TableCopy, TableInit, ElemDrop}
use Rattle.wz_code.specs.declared.instr.Instr.TheVariants.{Access, MemorySize, MemoryGrow, MemoryFill, MemoryCopy, MemoryInit, DataDrop}
use Rattle.wz_code.specs.declared.instr.Instr.TheVariants.{Nop, Unreachable, Block, Loop, If, Br, BrIf, BrTable, Return, Call, CallIndirect}
use Rattle.wz_code.specs.Trees.{Leaf, Plain, TableBranch, TypedSelect}
use Rattle.wz_valid_code.specs.Rules.{Rule, Exchange, NoRule, rule_from, rule_if}
use Rattle.wz_valid_code.specs.Context.{TypingContext, constant_global, may_refer}
use Rattle.wz_valid_code.specs.Instructions.{constant_of}

abbrev pub constant_instr_rule : TypingContext → Instr → Rule
-- numeric instructions
constant_instr_rule context (I32Const bits) = constant_of I32 32 bits
constant_instr_rule context (I64Const bits) = constant_of I64 64 bits
constant_instr_rule context (F32Const bits) = constant_of F32 32 bits
constant_instr_rule context (F64Const bits) = constant_of F64 64 bits
constant_instr_rule context (Num op) = NoRule
-- reference instructions
constant_instr_rule context (RefNull kind) = Exchange [] (type_of_kind kind ∷ [])
constant_instr_rule context RefIsNull = NoRule
constant_instr_rule context (RefFunc function) = rule_if (may_refer context function) (Exchange [] (FuncRef ∷ []))
-- parametric instructions
constant_instr_rule context Drop = NoRule
constant_instr_rule context Select = NoRule
constant_instr_rule context (SelectTyped first count) = NoRule
-- variable instructions
constant_instr_rule context (LocalGet index) = NoRule
constant_instr_rule context (LocalSet index) = NoRule
constant_instr_rule context (LocalTee index) = NoRule
constant_instr_rule context (GlobalGet index) = rule_from (constant_global context index) (λ type. Exchange [] (type ∷ []))
constant_instr_rule context (GlobalSet index) = NoRule
-- table instructions
constant_instr_rule context (TableGet table) = NoRule
constant_instr_rule context (TableSet table) = NoRule
constant_instr_rule context (TableSize table) = NoRule
constant_instr_rule context (TableGrow table) = NoRule
constant_instr_rule context (TableFill table) = NoRule
constant_instr_rule context (TableCopy to from) = NoRule
constant_instr_rule context (TableInit segment table) = NoRule
constant_instr_rule context (ElemDrop segment) = NoRule
-- memory instructions
constant_instr_rule context (Access op align offset memory) = NoRule
constant_instr_rule context (MemorySize memory) = NoRule
constant_instr_rule context (MemoryGrow memory) = NoRule
constant_instr_rule context (MemoryFill memory) = NoRule
constant_instr_rule context (MemoryCopy to from) = NoRule
constant_instr_rule context (MemoryInit segment memory) = NoRule
constant_instr_rule context (DataDrop segment) = NoRule
-- control instructions
constant_instr_rule context Nop = NoRule
constant_instr_rule context Unreachable = NoRule
constant_instr_rule context (Block shape body) = NoRule
constant_instr_rule context (Loop shape body) = NoRule
constant_instr_rule context (If shape first second) = NoRule
constant_instr_rule context (Br label) = NoRule
constant_instr_rule context (BrIf label) = NoRule
constant_instr_rule context (BrTable first count last) = NoRule
constant_instr_rule context Return = NoRule
constant_instr_rule context (Call function) = NoRule
constant_instr_rule context (CallIndirect signature table) = NoRule

abbrev pub constant_rule : TypingContext → Leaf → Rule
constant_rule context (Plain instr) = constant_instr_rule context instr
constant_rule context (TableBranch numbers last) = NoRule
constant_rule context (TypedSelect types) = NoRule
