-- What is seen of the instruction that the next tick reduces.
use Rattle.std.specs.Prelude.{◌≡◌, List, [], ◌∷◌, Option, Some, None}
use Rattle.wz_code.specs.declared.instr.Instr.{Instr}
use Rattle.wz_code.specs.BodyParts.{BodyParts}
use Rattle.wz_code.specs.Trees.{End, headed_in}
use Rattle.wz_machine.specs.Terms.{Standing}
use Rattle.wz_machine.specs.Next.{Head, head_of, standing_next}

-- of the topmost term
abbrev pub stack_next : List Standing → Option Head
stack_next [] = None
stack_next (top ∷ below) = standing_next top

-- An instruction names blocks, labels and types by number: it is the one that is reduced, as it stands in some body.
abbrev pub Shows : Option Instr → Option Head → Type 0
Shows None head = head ≡ None
Shows (Some instr) head = (body : BodyParts) × (head ≡ head_of (headed_in body instr End))
