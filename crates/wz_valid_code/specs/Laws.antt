-- What holds of typing (sections 3.3.1 to 3.3.10 of the Core Specification), for the crates above.
use Rattle.std.specs.Prelude.{◌≡◌, ℕ, ◌<◌, ◌^◌, List, IsTrue}
use Rattle.wz_types.specs.declared.types.ValType.{ValType}
use Rattle.wz_code.specs.BodyParts.{BodyParts, block_at}
use Rattle.wz_code.specs.BlockRule.{NamesRise}
use Rattle.wz_code.specs.declared.instr.Instr.TheVariants.{I32Const, I64Const, F32Const, F64Const}
use Rattle.wz_code.specs.Trees.{Code, Leaf, Plain, leaf_in, tree_of}
use Rattle.wz_code.specs.References.{has_number}
use Rattle.wz_valid_code.specs.Operands.{Operands}
use Rattle.wz_valid_code.specs.Rules.{Leads, Lead}
use Rattle.wz_valid_code.specs.Context.{TypingContext, Scope, Labels}
use Rattle.wz_valid_code.specs.Instructions.{rule_of}
use Rattle.wz_valid_code.specs.ConstantInstructions.{constant_rule}
use Rattle.wz_valid_code.specs.Typing.{IsTyped}
use Rattle.wz_valid_code.specs.Blocks.{outer_rules, inner_in, AllTyped}

-- a block is typed as its instructions are, where each block that they name is taken by its type, and as those blocks are
pub record IsBlockTyped (scope : Scope) (labels : Labels) (body : BodyParts) (number : ℕ) (before : Operands) (after : List ValType) : Type 0 where
  pub lead : Lead (outer_rules scope labels (λ instr. leaf_in body instr) (block_at body.blocks number)) before after
  pub inner : AllTyped scope (λ k. tree_of body k) (inner_in scope labels (block_at body.blocks number))

abbrev pub BlocksOfTree : Type 0
BlocksOfTree = (scope : Scope) (labels : Labels) (body : BodyParts) (number : ℕ) (before : Operands) (after : List ValType) → NamesRise body.blocks
    → IsTyped scope labels (tree_of body number) before after → IsBlockTyped scope labels body number before after

abbrev pub TreeOfBlocks : Type 0
TreeOfBlocks = (scope : Scope) (labels : Labels) (body : BodyParts) (number : ℕ) (before : Operands) (after : List ValType) → NamesRise body.blocks
    → IsBlockTyped scope labels body number before after → IsTyped scope labels (tree_of body number) before after

-- The second scope has all that typing in the first rests on. How many globals are imported is no part of it, and the second
-- may let references be made of more functions.
pub record Serves (scope other : Scope) : Type 0 where
  pub types : scope.context.types ≡ other.context.types
  pub functions : scope.context.functions ≡ other.context.functions
  pub tables : scope.context.tables ≡ other.context.tables
  pub memories : scope.context.memories ≡ other.context.memories
  pub globals : scope.context.globals ≡ other.context.globals
  pub elements : scope.context.elements ≡ other.context.elements
  pub datas : scope.context.datas ≡ other.context.datas
  pub locals : scope.locals ≡ other.locals
  pub results : scope.results ≡ other.results
  pub declared : (function : ℕ) → IsTrue (has_number function scope.context.declared) → IsTrue (has_number function other.context.declared)

abbrev pub TypingServes : Type 0
TypingServes = (scope other : Scope) → Serves scope other → (labels : Labels) (code : Code) (before : Operands) (after : List ValType)
    → IsTyped scope labels code before after → IsTyped other labels code before after

-- a constant's bits are those of its width
abbrev pub HasConstantWidth : Leaf → Type 0
HasConstantWidth (Plain (I32Const bits)) = bits < 2 ^ 32
HasConstantWidth (Plain (I64Const bits)) = bits < 2 ^ 64
HasConstantWidth (Plain (F32Const bits)) = bits < 2 ^ 32
HasConstantWidth (Plain (F64Const bits)) = bits < 2 ^ 64
HasConstantWidth leaf = Unit {0}

abbrev pub TypedHasWidth : Type 0
TypedHasWidth = (scope : Scope) (labels : Labels) (leaf : Leaf) (before next : Operands) → Leads (rule_of scope labels leaf) before next → HasConstantWidth leaf

abbrev pub ConstantHasWidth : Type 0
ConstantHasWidth = (context : TypingContext) (leaf : Leaf) (before next : Operands) → Leads (constant_rule context leaf) before next → HasConstantWidth leaf
