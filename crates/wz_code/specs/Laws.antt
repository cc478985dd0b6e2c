-- What holds of trees, and of a body while it is built (sections 2.4.8 and 2.4.9 of the Core Specification).
use Rattle.std.specs.Prelude.{◌≡◌, ◌≢◌, ℕ, ◌+◌, ◌-◌, ◌^◌, ◌<◌, ◌≤◌, List, [], ◌∷◌, ◌++◌, length, Some, None, slice_get, All}
use Rattle.wz_types.specs.declared.types.ValType.{ValType}
use Rattle.wz_code.specs.declared.instr.Instr.{Instr}
use Rattle.wz_code.specs.BodyParts.{BodyParts, block_at, no_parts, with_locals, with_instr, with_block, with_label, with_type, with_pools, item_count}
use Rattle.wz_code.specs.Trees.{Code, End, joined, tree_of, code_in, code_from, headed_in}
use Rattle.wz_code.specs.BlockRule.{named, times, NamesRise, InPools, IsBuilding, IsShort}

-- ---- the tree of a block, and the code at a place of it

-- a block's tree is its instructions in order, each with the trees of the blocks that it names
abbrev pub TreeOfBlock : Type 0
TreeOfBlock = (body : BodyParts) (number : ℕ) → NamesRise body.blocks → tree_of body number ≡ code_in body (block_at body.blocks number)

abbrev pub CodeAtStart : Type 0
CodeAtStart = (body : BodyParts) (number : ℕ) → NamesRise body.blocks → code_from body number 0 ≡ tree_of body number

abbrev pub CodeAtInstr : Type 0
CodeAtInstr = (body : BodyParts) (number place : ℕ) (instr : Instr) → slice_get (block_at body.blocks number) place ≡ Some instr
    → code_from body number place ≡ headed_in body instr (code_from body number (place + 1))

abbrev pub CodeAtEnd : Type 0
CodeAtEnd = (body : BodyParts) (number place : ℕ) → slice_get (block_at body.blocks number) place ≡ None → code_from body number place ≡ End

-- ---- code and more code behind it

abbrev pub JoinedEnd : Type 0
JoinedEnd = (code : Code) → joined code End ≡ code

abbrev pub JoinedAssoc : Type 0
JoinedAssoc = (first second third : Code) → joined (joined first second) third ≡ joined first (joined second third)

-- ---- how often a number stands in a list

abbrev pub TimesAppend : Type 0
TimesAppend = (number : ℕ) (xs ys : List ℕ) → times number (xs ++ ys) ≡ times number xs + times number ys

abbrev pub TimesHere : Type 0
TimesHere = (number : ℕ) (numbers : List ℕ) → times number (number ∷ numbers) ≡ 1 + times number numbers

-- a list in which it never stands has other numbers alone
abbrev pub NotTimes : Type 0
NotTimes = (number : ℕ) (numbers : List ℕ) → times number numbers ≡ 0 → All (λ n. n ≢ number) numbers

-- ---- a body that is being built

abbrev pub StartsBuilding : Type 0
StartsBuilding = IsBuilding no_parts (0 ∷ [])

-- a block that is held back is there, and is held back once
abbrev pub HeldIsThere : Type 0
HeldIsThere = (body : BodyParts) (held : List ℕ) (number : ℕ) → IsBuilding body held → 1 ≤ times number held → (number < length body.blocks) × (times number held ≡ 1)

-- An instruction may go to this block, which is held back: it names later blocks alone, and the pools have what it names.
-- The blocks that it names were held back before, and now the others are.
pub record TakesInstr (body : BodyParts) (before : List ℕ) (number : ℕ) (instr : Instr) (now : List ℕ) : Type 0 where
  pub held : 1 ≤ times number before
  pub rises : All (λ k. number < k) (named instr)
  pub pools : InPools body.labels body.types instr
  pub moved : (k : ℕ) → times k (named instr) + times k now ≡ times k before

-- the block's tree has the instruction behind what was there, and the other trees stay
pub record InstrTaken (body : BodyParts) (number : ℕ) (instr : Instr) (now : List ℕ) : Type 0 where
  pub building : IsBuilding (with_instr body number instr) now
  pub here : tree_of (with_instr body number instr) number ≡ joined (tree_of body number) (headed_in body instr End)
  pub elsewhere : (n : ℕ) → n ≢ number → tree_of (with_instr body number instr) n ≡ tree_of body n

abbrev pub TakingInstr : Type 0
TakingInstr = (body : BodyParts) (before : List ℕ) (number : ℕ) (instr : Instr) (now : List ℕ)
    → IsBuilding body before → TakesInstr body before number instr now → InstrTaken body number instr now

-- the new block is empty, and the other trees stay
pub record BlockTaken (body : BodyParts) (now : List ℕ) : Type 0 where
  pub building : IsBuilding (with_block body) now
  pub here : tree_of (with_block body) (length body.blocks) ≡ End
  pub elsewhere : (n : ℕ) → tree_of (with_block body) n ≡ tree_of body n

-- the new block is held back
abbrev pub TakingBlock : Type 0
TakingBlock = (body : BodyParts) (before now : List ℕ) → IsBuilding body before → ((k : ℕ) → times k now ≡ times k (length body.blocks ∷ before)) → BlockTaken body now

-- a body with more in its pools or more locals, whose trees stay
pub record StaysBuilding (body now : BodyParts) (held : List ℕ) : Type 0 where
  pub building : IsBuilding now held
  pub trees : (n : ℕ) → tree_of now n ≡ tree_of body n

abbrev pub TakingLabel : Type 0
TakingLabel = (body : BodyParts) (held : List ℕ) (label : ℕ) → IsBuilding body held → StaysBuilding body (with_label body label) held

abbrev pub TakingType : Type 0
TakingType = (body : BodyParts) (held : List ℕ) (type : ValType) → IsBuilding body held → StaysBuilding body (with_type body type) held

-- several labels and types at once
abbrev pub TakingPools : Type 0
TakingPools = (body : BodyParts) (held labels : List ℕ) (types : List ValType) → IsBuilding body held → StaysBuilding body (with_pools body labels types) held

abbrev pub TakingLocals : Type 0
TakingLocals = (body : BodyParts) (held : List ℕ) (count : ℕ) (type : ValType) → IsBuilding body held → StaysBuilding body (with_locals body count type) held

-- ---- the number of items

abbrev pub CountsInstr : Type 0
CountsInstr = (body : BodyParts) (number : ℕ) (instr : Instr) → number < length body.blocks → item_count (with_instr body number instr) ≡ item_count body + 1

abbrev pub CountsBlock : Type 0
CountsBlock = (body : BodyParts) → item_count (with_block body) ≡ item_count body + 1

abbrev pub CountsLabel : Type 0
CountsLabel = (body : BodyParts) (label : ℕ) → item_count (with_label body label) ≡ item_count body + 1

abbrev pub CountsType : Type 0
CountsType = (body : BodyParts) (type : ValType) → item_count (with_type body type) ≡ item_count body + 1

abbrev pub CountsLocals : Type 0
CountsLocals = (body : BodyParts) (count : ℕ) (type : ValType) → item_count (with_locals body count type) ≡ item_count body + 1

-- a body of so few items has short lists
abbrev pub ShortByCount : Type 0
ShortByCount = (body : BodyParts) → item_count body < 2 ^ 32 - 1 → IsShort body
