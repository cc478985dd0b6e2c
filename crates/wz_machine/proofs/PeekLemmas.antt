-- The first instruction of what is left of the innermost block is the one that a step reduces.
use Rattle.std.proofs.Common.{◌≡◌, List, [], ◌∷◌, Some, None, ap, refl, ◌∙◌}
use Rattle.wz_code.specs.declared.instr.Instr.{Instr}
use Rattle.wz_code.specs.declared.instr.Instr.TheVariants.{Block, Loop, If}
use Rattle.wz_code.specs.BodyParts.{BodyParts}
use Rattle.wz_code.specs.Trees.{Code, End, code_in, headed_in}
use Rattle.wz_machine.specs.Next.{head_of, next}
use Rattle.wz_machine.specs.Stacks.{StackParts, stacks_term}
use Rattle.wz_machine.specs.Peeks.{Shows}
use Rattle.wz_machine.proofs.SiteLemmas.{next-head}

-- what follows is no part of it
head-alone : (body : BodyParts) (instr : Instr) (rest : Code) → head_of (headed_in body instr rest) ≡ head_of (headed_in body instr End)
head-alone body (Block shape number) rest = refl
head-alone body (Loop shape number) rest = refl
head-alone body (If shape first second) rest = refl
head-alone body instr rest = refl

pub first-shown : (s : StackParts) (instr : Instr) (rest : List Instr) → s.top.rest ≡ instr ∷ rest → Shows (Some instr) (next (stacks_term s))
first-shown s instr rest e = (
  s.top.body,
  next-head s ∙ ap (λ (code : List Instr). head_of (code_in s.top.body code)) e ∙ head-alone s.top.body instr (code_in s.top.body rest),
)

pub none-shown : (s : StackParts) → s.top.rest ≡ [] → Shows None (next (stacks_term s))
none-shown s e = next-head s ∙ ap (λ (code : List Instr). head_of (code_in s.top.body code)) e
