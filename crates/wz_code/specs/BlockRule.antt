-- When numbered blocks and pools stand for a tree of instructions (sections 2.4.8 and 2.4.9 of the Core Specification).
use Rattle.std.specs.Prelude.{◌≡◌, ◌≢◌, ℕ, ◌+◌, ◌-◌, ◌^◌, ◌<◌, ◌≤◌, nat_lt, ◌==◌, if◌then◌else◌, List, [], ◌∷◌, length, Option, Some, None, All}
use Rattle.wz_types.specs.declared.types.ValType.{ValType}
use Rattle.wz_code.specs.declared.instr.Instr.{Instr}
use Rattle.wz_code.specs.declared.instr.Instr.TheVariants.{Block, Loop, If, BrTable, SelectTyped}
use Rattle.wz_code.specs.BodyParts.{Blocks, block_at, BodyParts}

-- ---- which blocks are named, and how often

abbrev pub arm_named : Option ℕ → List ℕ
arm_named None = []
arm_named (Some number) = number ∷ []

-- the blocks that an instruction names
abbrev pub named : Instr → List ℕ
named (Block shape body) = body ∷ []
named (Loop shape body) = body ∷ []
named (If shape first second) = first ∷ arm_named second
named instr = []

-- each block that these instructions name is such
abbrev pub Names : (ℕ → Type 0) → List Instr → Type 0
Names Is code = All (λ instr. All Is (named instr)) code

-- how often a list has this number
abbrev pub times : ℕ → List ℕ → ℕ
times k [] = 0
times k (n ∷ ns) = (if n == k then 1 else 0) + times k ns

-- how often instructions name this block
abbrev pub namings : ℕ → List Instr → ℕ
namings k [] = 0
namings k (instr ∷ rest) = times k (named instr) + namings k rest

abbrev pub all_namings : ℕ → Blocks → ℕ
all_namings k [] = 0
all_namings k (block ∷ blocks) = namings k block + all_namings k blocks

-- a block names blocks of higher numbers alone
pub record NamesRise (blocks : Blocks) : Type 0 where
  pub each : (number : ℕ) → Names (λ k. number < k) (block_at blocks number)

-- Of the blocks that are there each is named exactly once, or else it is one of those that are held back. No other is named.
-- Where block 0 alone is held back, each of the others is named once.
pub record EachOnce (blocks : Blocks) (held : List ℕ) : Type 0 where
  pub each : (k : ℕ) → all_namings k blocks + times k held ≡ (if nat_lt k (length blocks) then 1 else 0)

-- nothing that is there names the block
pub record NamesNot (blocks : Blocks) (number : ℕ) : Type 0 where
  pub each : (n : ℕ) → Names (λ k. k ≢ number) (block_at blocks n)

-- ---- the pools

-- what an instruction names of the pools lies within them
abbrev pub InPools : List ℕ → List ValType → Instr → Type 0
InPools labels types (BrTable first count last) = first + count ≤ length labels
InPools labels types (SelectTyped first count) = first + count ≤ length types
InPools labels types instr = Unit {0}

pub record PoolRule (labels : List ℕ) (types : List ValType) (blocks : Blocks) : Type 0 where
  pub each : (number : ℕ) → All (λ instr. InPools labels types instr) (block_at blocks number)

-- ---- the rule

-- a body that is being built, where some blocks are held back: no instruction names them yet
pub record IsBuilding (body : BodyParts) (held : List ℕ) : Type 0 where
  pub names_rise : NamesRise body.blocks
  pub once : EachOnce body.blocks held
  pub pools : PoolRule body.labels body.types body.blocks

-- all but the body itself are named
abbrev pub BlockRule : BodyParts → Type 0
BlockRule body = IsBuilding body (0 ∷ [])

-- every list is short enough for its places and its length to be numbers of 32 bits
pub record IsShort (body : BodyParts) : Type 0 where
  pub locals : length body.locals < 2 ^ 32 - 1
  pub blocks : length body.blocks < 2 ^ 32 - 1
  pub each : (number : ℕ) → length (block_at body.blocks number) < 2 ^ 32 - 1
  pub labels : length body.labels < 2 ^ 32 - 1
  pub types : length body.types < 2 ^ 32 - 1

-- what every body keeps
pub record IsBody (body : BodyParts) : Type 0 where
  pub rule : BlockRule body
  pub short : IsShort body
