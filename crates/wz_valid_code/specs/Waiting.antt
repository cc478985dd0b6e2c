-- The blocks of a body that wait to be checked, each with how many blocks are around it.
use Rattle.std.specs.Prelude.{◌≡◌, ℕ, ◌≤◌, List, [], ◌∷◌, ◌++◌, Option, take, reverse, length, map}
use Rattle.wz_types.specs.declared.types.ValType.{ValType}
use Rattle.wz_code.specs.declared.instr.Instr.{Instr}
use Rattle.wz_code.specs.BodyParts.{Blocks}
use Rattle.wz_code.specs.Trees.{Leaf}
use Rattle.wz_valid_code.specs.Operands.{pushed}
use Rattle.wz_valid_code.specs.Rules.{Lead}
use Rattle.wz_valid_code.specs.Context.{Scope}
use Rattle.wz_valid_code.specs.Blocks.{Inner, outer_rules, arm_at}

-- a block that waits, within so many others: what it takes and gives, and what a branch to it takes along
pub record WaitingBlock : Type 0 where
  pub block : Option ℕ
  pub depth : ℕ
  pub before : List ValType
  pub results : List ValType
  pub label : List ValType

-- what is to be shown of it, where the labels around it stand first among these, the outermost first
abbrev pub inner_at : List (List ValType) → WaitingBlock → Inner
inner_at labels pending = record { labels = pending.label ∷ reverse (take pending.depth labels); block = pending.block; before = pending.before; results = pending.results }

abbrev pub AllDeep : ℕ → List WaitingBlock → Type 0
AllDeep depth [] = Unit {0}
AllDeep depth (pending ∷ waiting) = (pending.depth ≡ depth) × AllDeep depth waiting

-- the new list is the old one with these blocks behind it, all within the innermost label
pub record Grown (labels : List (List ValType)) (old new : List WaitingBlock) (made : List Inner) : Type 0 where
  pub new_blocks : List WaitingBlock
  pub split : new ≡ old ++ new_blocks
  pub inner : map (inner_at labels) new_blocks ≡ made
  pub deep : AllDeep (length labels) new_blocks

-- their depths rise from `low` to at most `high`
abbrev pub DepthsRise : ℕ → List WaitingBlock → ℕ → Type 0
DepthsRise low [] high = low ≤ high
DepthsRise low (pending ∷ waiting) high = (low ≤ pending.depth) × DepthsRise pending.depth waiting high

-- the labels within the block that is taken up
abbrev pub labels_in : List (List ValType) → WaitingBlock → List (List ValType)
labels_in labels pending = take pending.depth labels ++ pending.label ∷ []

-- the rules of the block that is taken up lead from what it takes to what it gives
abbrev pub IsLed : Scope → (Instr → Leaf) → Blocks → List (List ValType) → WaitingBlock → Type 0
IsLed scope leaf blocks labels pending = Lead (outer_rules scope (reverse (labels_in labels pending)) leaf (arm_at blocks pending.block)) (pushed pending.before []) pending.results
