-- A walk over the instructions of a body, one after the other.
use Rattle.std.specs.Prelude.{◌≡◌, List, [], ◌∷◌, ◌++◌}
use Rattle.wz_code.specs.declared.instr.Instr.{Instr}
use Rattle.wz_code.specs.BodyParts.{Blocks, BodyParts}

abbrev pub in_order : Blocks → List Instr
in_order [] = []
in_order (block ∷ blocks) = block ++ in_order blocks

-- each instruction of a body once, by its block's number and then by its place
abbrev pub instrs_of : BodyParts → List Instr
instrs_of body = in_order body.blocks

-- what instructions make of a meaning, one after the other
abbrev pub gathered : {M : Type 0} → (Instr → M → M) → List Instr → M → M
gathered after [] meaning = meaning
gathered after (instr ∷ rest) meaning = gathered after rest (after instr meaning)

-- a walk that was stopped by a fault: the instructions before the one that was refused were shown, and no other
pub record WalkStopsAt {M E : Type 0} (after : Instr → M → M) (refuses : Instr → M → E → Type 0) (all : List Instr) (before now : M) (fault : E) : Type 0 where
  pub shown : List Instr
  pub refused : Instr
  pub rest : List Instr
  pub parts : all ≡ shown ++ refused ∷ rest
  pub meaning : now ≡ gathered after shown before
  pub cause : refuses refused now fault
