-- Sections 2.4.8 and 2.4.9 of the Core Specification: a body is a tree of instructions, in which a block, a loop and an if hold others.
use Rattle.std.specs.Prelude.{ℕ, zero, suc, List, [], ◌∷◌, length, take, drop, Option, Some, None}
use Rattle.wz_types.specs.declared.types.ValType.{ValType}
use Rattle.wz_code.specs.declared.instr.Shape.{Shape}
use Rattle.wz_code.specs.declared.instr.Instr.{Instr}
use Rattle.wz_code.specs.declared.instr.Instr.TheVariants.{Block, Loop, If, BrTable, SelectTyped}
use Rattle.wz_code.specs.BodyParts.{Blocks, block_at, BodyParts}

-- an instruction that holds no others, where a br_table has its labels and a select its types in it
pub data Leaf : Type 0 where
  Plain : Instr → Leaf
  TableBranch : List ℕ → ℕ → Leaf
  TypedSelect : List ValType → Leaf

-- a sequence of instructions: nothing, or one with what stands in it, and then what follows it
pub data Code : Type 0 where
  End : Code
  Then : Leaf → Code → Code
  InBlock : Shape → Code → Code → Code
  InLoop : Shape → Code → Code → Code
  InIf : Shape → Code → Code → Code → Code

-- code, and more code behind it
abbrev pub joined : Code → Code → Code
joined End more = more
joined (Then leaf rest) more = Then leaf (joined rest more)
joined (InBlock shape inner rest) more = InBlock shape inner (joined rest more)
joined (InLoop shape inner rest) more = InLoop shape inner (joined rest more)
joined (InIf shape first second rest) more = InIf shape first second (joined rest more)

-- ---- from numbered blocks to a tree

-- the leaf that an instruction is, with these pools of labels and types
abbrev pub leaf_of : List ℕ → List ValType → Instr → Leaf
leaf_of labels types (BrTable first count last) = TableBranch (take count (drop first labels)) last
leaf_of labels types (SelectTyped first count) = TypedSelect (take count (drop first types))
leaf_of labels types instr = Plain instr

-- the second arm of an if, which is empty where it is left out
abbrev pub arm_of : (ℕ → Code) → Option ℕ → Code
arm_of inner None = End
arm_of inner (Some number) = inner number

-- an instruction, and what follows it, where `inner` is the code of each block that it names
abbrev pub headed : (Instr → Leaf) → (ℕ → Code) → Instr → Code → Code
headed leaf inner (Block shape body) rest = InBlock shape (inner body) rest
headed leaf inner (Loop shape body) rest = InLoop shape (inner body) rest
headed leaf inner (If shape first second) rest = InIf shape (inner first) (arm_of inner second) rest
headed leaf inner instr rest = Then (leaf instr) rest

abbrev pub expand : (Instr → Leaf) → (ℕ → Code) → List Instr → Code
expand leaf inner [] = End
expand leaf inner (instr ∷ rest) = headed leaf inner instr (expand leaf inner rest)

-- a block's tree down to a depth
unfoldable pub tree_by : ℕ → (Instr → Leaf) → Blocks → ℕ → Code
tree_by zero leaf blocks number = End
tree_by (suc depth) leaf blocks number = expand leaf (λ k. tree_by depth leaf blocks k) (block_at blocks number)

-- A block's tree. A block names later ones alone, so there is no more depth than blocks.
unfoldable pub tree_in : (Instr → Leaf) → Blocks → ℕ → Code
tree_in leaf blocks number = tree_by (length blocks) leaf blocks number

-- ---- of a body

abbrev pub leaf_in : BodyParts → Instr → Leaf
leaf_in body instr = leaf_of body.labels body.types instr

-- the tree of one of the body's blocks; the body's own is that of block 0
abbrev pub tree_of : BodyParts → ℕ → Code
tree_of body number = tree_in (λ instr. leaf_of body.labels body.types instr) body.blocks number

-- the tree that instructions of the body stand for
abbrev pub code_in : BodyParts → List Instr → Code
code_in body code = expand (λ instr. leaf_of body.labels body.types instr) (λ number. tree_of body number) code

-- the rest of a block from a place on
abbrev pub code_from : BodyParts → ℕ → ℕ → Code
code_from body number place = code_in body (drop place (block_at body.blocks number))

-- an instruction of the body, and code behind it
abbrev pub headed_in : BodyParts → Instr → Code → Code
headed_in body instr rest = headed (λ instr. leaf_of body.labels body.types instr) (λ number. tree_of body number) instr rest
