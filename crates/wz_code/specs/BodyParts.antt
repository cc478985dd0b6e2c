-- What a function's body or an expression is made of (sections 2.4.9 and 2.5.3 of the Core Specification), in numbered blocks.
use Rattle.std.specs.Prelude.{ℕ, ◌+◌, List, [], ◌∷◌, ◌++◌, length, slice_get, slice_set, unwrap_or}
use Rattle.wz_types.specs.declared.types.ValType.{ValType}
use Rattle.wz_code.specs.declared.instr.Instr.{Instr}

-- Blocks of instructions, by number. An instruction that holds others names the blocks in which they stand.
abbrev pub Blocks : Type 0
Blocks = List (List Instr)

abbrev pub block_at : Blocks → ℕ → List Instr
block_at blocks number = unwrap_or (slice_get blocks number) []

-- runs of locals of one type, the blocks, and the pools of the labels and types that instructions name
pub record BodyParts : Type 0 where
  pub locals : List (ℕ × ValType)
  pub blocks : List (List Instr)
  pub labels : List ℕ
  pub types : List ValType

-- no instruction yet, and block 0 to put them in
abbrev pub no_parts : BodyParts
no_parts = record { locals = []; blocks = [] ∷ []; labels = []; types = [] }

-- ---- one item more

abbrev pub with_locals : BodyParts → ℕ → ValType → BodyParts
with_locals body count type = record body { locals = body.locals ++ (count, type) ∷ [] }

-- blocks with an instruction more in one of them
abbrev pub put_instr : Blocks → ℕ → Instr → Blocks
put_instr blocks number instr = slice_set blocks number (block_at blocks number ++ instr ∷ [])

abbrev pub with_instr : BodyParts → ℕ → Instr → BodyParts
with_instr body number instr = record body { blocks = put_instr body.blocks number instr }

abbrev pub with_block : BodyParts → BodyParts
with_block body = record body { blocks = body.blocks ++ [] ∷ [] }

abbrev pub with_label : BodyParts → ℕ → BodyParts
with_label body label = record body { labels = body.labels ++ label ∷ [] }

abbrev pub with_type : BodyParts → ValType → BodyParts
with_type body type = record body { types = body.types ++ type ∷ [] }

-- several labels and types at once
abbrev pub with_pools : BodyParts → List ℕ → List ValType → BodyParts
with_pools body labels types = record body { labels = body.labels ++ labels; types = body.types ++ types }

-- ---- the number of items

abbrev pub instr_count : Blocks → ℕ
instr_count [] = 0
instr_count (block ∷ blocks) = length block + instr_count blocks

-- how many items a body has in all
abbrev pub item_count : BodyParts → ℕ
item_count body = length body.locals + length body.blocks + instr_count body.blocks + length body.labels + length body.types
