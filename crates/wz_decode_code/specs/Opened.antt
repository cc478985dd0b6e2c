-- What the numbered blocks of an expression that is being read stand for.
use Rattle.std.specs.Prelude.{◌≡◌, ℕ, ◌<◌, List, [], ◌∷◌, ◌++◌, map, Option, Some, None, All}
use Rattle.wz_code.specs.declared.instr.Shape.{Shape}
use Rattle.wz_code.specs.declared.instr.Instr.{Instr}
use Rattle.wz_code.specs.declared.instr.Instr.TheVariants as instr
use Rattle.wz_code.specs.BodyParts.{BodyParts}
use Rattle.wz_code.specs.Trees.{tree_of, leaf_in}
use Rattle.wz_code.specs.BlockRule.{InPools, IsBuilding}
use Rattle.wz_decode_code.specs.declared.token.Token.{Token}
use Rattle.wz_decode_code.specs.declared.token.Token.TheVariants as token
use Rattle.wz_decode_code.specs.declared.blocks.Kind.{Kind}
use Rattle.wz_decode_code.specs.declared.blocks.Kind.TheVariants as kind
use Rattle.wz_decode_code.specs.declared.blocks.Open.{Open}
use Rattle.wz_decode_code.specs.Tokens.{Symbol, seen}
use Rattle.wz_decode_code.specs.Reading.{BlockPart, OfBlock, OfLoop, OfFirst, OfSecond, Around, AfterSymbol, On, Complete, after_symbol}

abbrev pub part_of : BodyParts → Kind → BlockPart
part_of body kind.Block = OfBlock
part_of body kind.Loop = OfLoop
part_of body kind.First = OfFirst
part_of body (kind.Second first) = OfSecond (tree_of body first)

abbrev pub around_of : BodyParts → Open → Around
around_of body o = record { part = part_of body o.kind; shape = o.shape; before = tree_of body o.parent }

-- the open blocks, the innermost first
abbrev pub arounds : BodyParts → List Open → List Around
arounds body opens = map (λ o. around_of body o) opens

-- the first arm that nothing names yet
abbrev pub first_arm_of : Kind → List ℕ
first_arm_of (kind.Second first) = first ∷ []
first_arm_of kind = []

-- the blocks around the innermost one that no instruction names yet
abbrev pub unnamed_around : List Open → List ℕ
unnamed_around [] = []
unnamed_around (o ∷ opens) = first_arm_of o.kind ++ o.parent ∷ unnamed_around opens

abbrev pub unnamed_blocks : ℕ → List Open → List ℕ
unnamed_blocks here opens = here ∷ unnamed_around opens

-- a block comes behind its parent, and so does a first arm; the outermost is the body
abbrev pub ParentsRise : ℕ → List Open → Type 0
ParentsRise here [] = here ≡ 0
ParentsRise here (o ∷ opens) = (o.parent < here) × All (λ k. o.parent < k) (first_arm_of o.kind) × ParentsRise o.parent opens

-- an expression that is being read
pub record IsReading (body : BodyParts) (here : ℕ) (opens : List Open) : Type 0 where
  pub building : IsBuilding body (unnamed_blocks here opens)
  pub rises : ParentsRise here opens

-- the instruction that a block becomes at its end
abbrev pub node_of : Kind → Shape → ℕ → Instr
node_of kind.Block shape inner = instr.Block shape inner
node_of kind.Loop shape inner = instr.Loop shape inner
node_of kind.First shape inner = instr.If shape inner None
node_of (kind.Second first) shape inner = instr.If shape first (Some inner)

-- the symbol that a token is in this body
abbrev pub seen_in : BodyParts → Token → Symbol
seen_in body token = seen (λ i. leaf_in body i) token

-- an instruction that names no block
abbrev pub NamesNone : Instr → Type 0
NamesNone (instr.Block shape body) = ⊥
NamesNone (instr.Loop shape body) = ⊥
NamesNone (instr.If shape first second) = ⊥
NamesNone instr = Unit {0}

-- a token's instruction names no block, and what it names of the pools is there
abbrev pub TokenFits : BodyParts → Token → Type 0
TokenFits body (token.Plain instr) = NamesNone instr × InPools body.labels body.types instr
TokenFits body token = Unit {0}

-- what the token makes of what was read, where `here` is the innermost open block
abbrev pub next_of : BodyParts → ℕ → List Open → Token → AfterSymbol
next_of body here opens token = after_symbol (seen_in body token) (tree_of body here) (arounds body opens)

-- what is read now is what the token makes of what was read before
abbrev pub Follows : AfterSymbol → Option ℕ → BodyParts → List Open → Type 0
Follows next (Some here) body opens = IsReading body here opens × (next ≡ On (tree_of body here) (arounds body opens))
Follows next None body opens = IsReading body 0 [] × (next ≡ Complete (tree_of body 0))

-- how many items such a step may have added
abbrev pub items_of_step : Option ℕ → ℕ
items_of_step (Some here) = 1
items_of_step None = 0
