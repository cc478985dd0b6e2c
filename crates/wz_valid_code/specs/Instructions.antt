-- Sections 3.3.1 to 3.3.8 of the Core Specification: the rule of each instruction that holds no others, in the standard's order.
use Rattle.std.specs.Prelude.{is_some, ℕ, ◌^◌, nat_lt, nat_le, List, [], ◌∷◌, ◌++◌, Option, Some, None, Bool, if◌then◌else◌, slice_get}
use Rattle.std.specs.Option.{option_to_list}
use Rattle.wz_types.specs.declared.types.ValType.{ValType}
use Rattle.wz_types.specs.declared.types.ValType.TheVariants.{I32, I64, F32, F64, FuncRef}
use Rattle.wz_types.specs.Fits.{type_of_kind}
use Rattle.wz_code.specs.declared.instr.Instr.{Instr}
use Rattle.wz_code.specs.declared.instr.Instr.TheVariants.{I32Const, I64Const, F32Const, F64Const, Num}
use Rattle.wz_code.specs.declared.instr.Instr.TheVariants.{RefNull, RefIsNull, RefFunc, Drop, Select, SelectTyped}
use Rattle.wz_code.specs.declared.instr.Instr.TheVariants.{LocalGet, LocalSet, LocalTee, GlobalGet, GlobalSet}
use Rattle.wz_code.specs.declared.instr.Instr.TheVariants.{TableGet, TableSet, TableSize, TableGrow, TableFill, TableCopy, TableInit, ElemDrop}
use Rattle.wz_code.specs.declared.instr.Instr.TheVariants.{Access, MemorySize, MemoryGrow, MemoryFill, MemoryCopy, MemoryInit, DataDrop}
use Rattle.wz_code.specs.declared.instr.Instr.TheVariants.{Nop, Unreachable, Block, Loop, If, Br, BrIf, BrTable, Return, Call, CallIndirect}
use Rattle.wz_code.specs.declared.numeric.OpTypes.{OpTypes}
use Rattle.wz_code.specs.Numeric.{types_of}
use Rattle.wz_code.specs.declared.accesses.AccessShape.{AccessShape}
use Rattle.wz_code.specs.Accesses.{shape_of}
use Rattle.wz_code.specs.Trees.{Leaf, Plain, TableBranch, TypedSelect}
use Rattle.wz_valid_code.specs.Rules.{Rule, Exchange, Stop, Choose, DropOne, SelectOne, TestReference, NoRule, rule_from, rule_if}
use Rattle.wz_valid_code.specs.Context.{Scope, Labels, function_type, is_function_kind, is_one_kind, type_to_set, may_refer}

-- ---- what the rules have in common

-- a constant, whose bits are those of its width
abbrev pub constant_of : ValType → ℕ → ℕ → Rule
constant_of type width bits = rule_if (nat_lt bits (2 ^ width)) (Exchange [] (type ∷ []))

-- an operation of one operand or two
abbrev pub operation_rule : OpTypes → Rule
operation_rule types = Exchange (types.first ∷ option_to_list types.second) (types.result ∷ [])

-- one type is asked for, and no other number of them is valid
abbrev pub select_rule : List ValType → Rule
select_rule [] = NoRule
select_rule (type ∷ []) = Exchange (type ∷ type ∷ I32 ∷ []) (type ∷ [])
select_rule (type ∷ other ∷ types) = NoRule

-- the alignment is at most the natural one
abbrev pub is_aligned : ℕ → ℕ → Bool
is_aligned align bytes = nat_le (2 ^ align) bytes

-- a load or a store
abbrev pub access_rule : AccessShape → Rule
access_rule shape = if shape.store then Exchange (I32 ∷ shape.value ∷ []) [] else Exchange (I32 ∷ []) (shape.value ∷ [])

abbrev pub aligned_rule : ℕ → AccessShape → Rule
aligned_rule align shape = rule_if (is_aligned align shape.bytes) (access_rule shape)

-- what takes three numbers, as a place, another and a length
abbrev pub bulk_rule : Rule
bulk_rule = Exchange (I32 ∷ I32 ∷ I32 ∷ []) []

abbrev pub with_first_label : Option (List ValType) → Option (List (List ValType)) → Option (List (List ValType))
with_first_label None others = None
with_first_label (Some types) None = None
with_first_label (Some types) (Some lists) = Some (types ∷ lists)

-- the types of these labels, if each is there
abbrev pub labels_at : Labels → List ℕ → Option (List (List ValType))
labels_at labels [] = Some []
labels_at labels (label ∷ numbers) = with_first_label (slice_get labels label) (labels_at labels numbers)

-- ---- the rule of an instruction that holds no others

abbrev pub rule_of : Scope → Labels → Leaf → Rule
-- numeric instructions; section 3.3.1
rule_of scope labels (Plain (I32Const bits)) = constant_of I32 32 bits
rule_of scope labels (Plain (I64Const bits)) = constant_of I64 64 bits
rule_of scope labels (Plain (F32Const bits)) = constant_of F32 32 bits
rule_of scope labels (Plain (F64Const bits)) = constant_of F64 64 bits
rule_of scope labels (Plain (Num op)) = operation_rule (types_of op)
-- reference instructions; section 3.3.2
rule_of scope labels (Plain (RefNull kind)) = Exchange [] (type_of_kind kind ∷ [])
rule_of scope labels (Plain RefIsNull) = TestReference
rule_of scope labels (Plain (RefFunc function)) = rule_if (may_refer scope.context function) (Exchange [] (FuncRef ∷ []))
-- parametric instructions; section 3.3.4
rule_of scope labels (Plain Drop) = DropOne
rule_of scope labels (Plain Select) = SelectOne
rule_of scope labels (Plain (SelectTyped first count)) = NoRule  -- in a tree it has its types in it, as here:
rule_of scope labels (TypedSelect types) = select_rule types
-- variable instructions; section 3.3.5
rule_of scope labels (Plain (LocalGet index)) = rule_from (slice_get scope.locals index) (λ type. Exchange [] (type ∷ []))
rule_of scope labels (Plain (LocalSet index)) = rule_from (slice_get scope.locals index) (λ type. Exchange (type ∷ []) [])
rule_of scope labels (Plain (LocalTee index)) = rule_from (slice_get scope.locals index) (λ type. Exchange (type ∷ []) (type ∷ []))
rule_of scope labels (Plain (GlobalGet index)) = rule_from (slice_get scope.context.globals index) (λ global. Exchange [] (global.value ∷ []))
rule_of scope labels (Plain (GlobalSet index)) = rule_from (type_to_set (slice_get scope.context.globals index)) (λ type. Exchange (type ∷ []) [])
-- table instructions; section 3.3.6
rule_of scope labels (Plain (TableGet table)) = rule_from (slice_get scope.context.tables table) (λ kind. Exchange (I32 ∷ []) (type_of_kind kind ∷ []))
rule_of scope labels (Plain (TableSet table)) = rule_from (slice_get scope.context.tables table) (λ kind. Exchange (I32 ∷ type_of_kind kind ∷ []) [])
rule_of scope labels (Plain (TableSize table)) = rule_if (is_some (slice_get scope.context.tables table)) (Exchange [] (I32 ∷ []))
rule_of scope labels (Plain (TableGrow table)) = rule_from (slice_get scope.context.tables table) (λ kind. Exchange (type_of_kind kind ∷ I32 ∷ []) (I32 ∷ []))
rule_of scope labels (Plain (TableFill table)) = rule_from (slice_get scope.context.tables table) (λ kind. Exchange (I32 ∷ type_of_kind kind ∷ I32 ∷ []) [])
rule_of scope labels (Plain (TableCopy to from)) = rule_if (is_one_kind (slice_get scope.context.tables to) (slice_get scope.context.tables from)) bulk_rule
rule_of scope labels (Plain (TableInit segment table)) = rule_if (is_one_kind (slice_get scope.context.elements segment) (slice_get scope.context.tables table)) bulk_rule
rule_of scope labels (Plain (ElemDrop segment)) = rule_if (is_some (slice_get scope.context.elements segment)) (Exchange [] [])
-- memory instructions; section 3.3.7
rule_of scope labels (Plain (Access op align offset memory)) = rule_if (nat_lt memory scope.context.memories) (aligned_rule align (shape_of op))
rule_of scope labels (Plain (MemorySize memory)) = rule_if (nat_lt memory scope.context.memories) (Exchange [] (I32 ∷ []))
rule_of scope labels (Plain (MemoryGrow memory)) = rule_if (nat_lt memory scope.context.memories) (Exchange (I32 ∷ []) (I32 ∷ []))
rule_of scope labels (Plain (MemoryFill memory)) = rule_if (nat_lt memory scope.context.memories) bulk_rule
rule_of scope labels (Plain (MemoryCopy to from)) = rule_if (nat_lt to scope.context.memories) (rule_if (nat_lt from scope.context.memories) bulk_rule)
rule_of scope labels (Plain (MemoryInit segment memory)) = rule_if (nat_lt memory scope.context.memories) (rule_if (nat_lt segment scope.context.datas) bulk_rule)
rule_of scope labels (Plain (DataDrop segment)) = rule_if (nat_lt segment scope.context.datas) (Exchange [] [])
-- control instructions; section 3.3.8; those that hold others are no leaves of a tree
rule_of scope labels (Plain Nop) = Exchange [] []
rule_of scope labels (Plain Unreachable) = Stop []
rule_of scope labels (Plain (Block shape body)) = NoRule
rule_of scope labels (Plain (Loop shape body)) = NoRule
rule_of scope labels (Plain (If shape first second)) = NoRule
rule_of scope labels (Plain (Br label)) = rule_from (slice_get labels label) (λ types. Stop types)
rule_of scope labels (Plain (BrIf label)) = rule_from (slice_get labels label) (λ types. Exchange (types ++ I32 ∷ []) types)
rule_of scope labels (Plain (BrTable first count last)) = NoRule  -- in a tree it has its labels in it, as here:
rule_of scope labels (TableBranch numbers last) = rule_from (labels_at labels (last ∷ numbers)) (λ lists. Choose lists)
rule_of scope labels (Plain Return) = Stop scope.results
rule_of scope labels (Plain (Call function)) = rule_from (function_type scope.context function) (λ type. Exchange type.params type.results)
rule_of scope labels (Plain (CallIndirect signature table)) =
    rule_if (is_function_kind (slice_get scope.context.tables table)) (rule_from (slice_get scope.context.types signature)
    (λ type. Exchange (type.params ++ I32 ∷ []) type.results))

-- the rule of an instruction that no label has a part in
abbrev pub plain_rule : Scope → Instr → Rule
plain_rule scope instr = rule_of scope [] (Plain instr)
