-- A block by itself: its own instructions, where each block that they name is taken by its type, and what is to be shown of those blocks.
use Rattle.std.specs.Prelude.{ℕ, List, [], ◌∷◌, ◌++◌, Option, Some, None, Bool, true, false, if◌then◌else◌}
use Rattle.wz_types.specs.declared.types.ValType.{ValType}
use Rattle.wz_types.specs.declared.types.ValType.TheVariants.{I32}
use Rattle.wz_types.specs.FunctionType.{FunctionType}
use Rattle.wz_code.specs.declared.instr.Instr.{Instr}
use Rattle.wz_code.specs.declared.instr.Instr.TheVariants.{Block, Loop, If}
use Rattle.wz_code.specs.BodyParts.{Blocks, block_at}
use Rattle.wz_code.specs.Trees.{Code, Leaf, arm_of}
use Rattle.wz_valid_code.specs.Operands.{pushed}
use Rattle.wz_valid_code.specs.Rules.{Rule, Exchange, rule_from}
use Rattle.wz_valid_code.specs.Context.{TypingContext, Scope, Labels, shape_type}
use Rattle.wz_valid_code.specs.Instructions.{rule_of}
use Rattle.wz_valid_code.specs.ConstantInstructions.{constant_instr_rule}
use Rattle.wz_valid_code.specs.Typing.{IsTyped}

-- a block or a loop takes and gives what its type says; section 3.3.8
abbrev pub block_rule : Option FunctionType → Rule
block_rule type = rule_from type (λ type. Exchange type.params type.results)

-- an if takes its condition besides
abbrev pub if_rule : Option FunctionType → Rule
if_rule type = rule_from type (λ type. Exchange (type.params ++ I32 ∷ []) type.results)

-- An instruction's rule, where `leaf` is the leaf that it is if it holds no others. One that holds others and isn't named here
-- has no rule, by `rule_of`.
abbrev pub outer_rule : Scope → Labels → (Instr → Leaf) → Instr → Rule
outer_rule scope labels leaf (Block shape body) = block_rule (shape_type scope.context shape)
outer_rule scope labels leaf (Loop shape body) = block_rule (shape_type scope.context shape)
outer_rule scope labels leaf (If shape first second) = if_rule (shape_type scope.context shape)
outer_rule scope labels leaf instr = rule_of scope labels (leaf instr)

abbrev pub outer_rules : Scope → Labels → (Instr → Leaf) → List Instr → List Rule
outer_rules scope labels leaf [] = []
outer_rules scope labels leaf (instr ∷ rest) = outer_rule scope labels leaf instr ∷ outer_rules scope labels leaf rest

-- A block within another, or an arm that was left out: it is typed within these labels, the innermost first, from what it
-- takes to what it gives.
pub record Inner : Type 0 where
  pub labels : List (List ValType)
  pub block : Option ℕ
  pub before : List ValType
  pub results : List ValType

-- a branch to a loop goes to its start, and takes its parameters along
abbrev pub inner_from : Labels → Option FunctionType → Bool → Option ℕ → List Inner
inner_from labels None again block = []
inner_from labels (Some type) again block =
    let carried : List ValType = (if again then type.params else type.results) in
    record { labels = carried ∷ labels; block = block; before = type.params; results = type.results } ∷ []

-- the blocks that an instruction names
abbrev pub inner_of : Scope → Labels → Instr → List Inner
inner_of scope labels (Block shape body) = inner_from labels (shape_type scope.context shape) false (Some body)
inner_of scope labels (Loop shape body) = inner_from labels (shape_type scope.context shape) true (Some body)
inner_of scope labels (If shape first second) =
    inner_from labels (shape_type scope.context shape) false (Some first) ++ inner_from labels (shape_type scope.context shape) false second
inner_of scope labels instr = []

abbrev pub inner_in : Scope → Labels → List Instr → List Inner
inner_in scope labels [] = []
inner_in scope labels (instr ∷ rest) = inner_of scope labels instr ++ inner_in scope labels rest

-- it is typed, where `tree` gives the code of each block
abbrev pub IsInnerTyped : Scope → (ℕ → Code) → Inner → Type 0
IsInnerTyped scope tree inner = IsTyped scope inner.labels (arm_of tree inner.block) (pushed inner.before []) inner.results

abbrev pub AllTyped : Scope → (ℕ → Code) → List Inner → Type 0
AllTyped scope tree [] = Unit {0}
AllTyped scope tree (inner ∷ others) = IsInnerTyped scope tree inner × AllTyped scope tree others

-- a block's instructions, and none of an arm that was left out
abbrev pub arm_at : Blocks → Option ℕ → List Instr
arm_at blocks None = []
arm_at blocks (Some number) = block_at blocks number

-- the rules of the instructions of a constant expression, none of which holds others
abbrev pub constant_rules : TypingContext → List Instr → List Rule
constant_rules context [] = []
constant_rules context (instr ∷ rest) = constant_instr_rule context instr ∷ constant_rules context rest
