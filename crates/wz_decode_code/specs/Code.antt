-- Section 5.4 of the Core Specification: sequences of instructions (5.4.1) and expressions (5.4.9), by cases on their tree.
use Rattle.std.specs.Prelude.{◌≡◌, ℕ, List, [], ◌∷◌, ◌++◌, ◌⊎◌}
use Rattle.wz_code.specs.declared.instr.Shape.{Shape}
use Rattle.wz_code.specs.Trees.{Code, End, Then, InBlock, InLoop, InIf}
use Rattle.wz_decode_code.specs.Types.{IsShape}
use Rattle.wz_decode_code.specs.Instructions.{IsLeaf}

-- an opcode, and a spelling of what stands behind it
abbrev pub Behind : ℕ → (List ℕ → Type 0) → List ℕ → Type 0
Behind opcode IsRest text = (rest : List ℕ) × (text ≡ opcode ∷ rest) × IsRest rest

-- what a block's opcode has behind it: the block's type, its instructions, 0B, and what follows the block
abbrev pub IsBlockRest : (List ℕ → Type 0) → (List ℕ → Type 0) → Shape → List ℕ → Type 0
IsBlockRest IsInner IsRest shape text =
    (type inner rest : List ℕ) × (text ≡ type ++ (inner ++ 0x0B ∷ rest)) × IsShape type shape × IsInner inner × IsRest rest

-- the second arm of an if: 05 and its instructions, or nothing where it is empty
abbrev pub IsSecond : Code → (List ℕ → Type 0) → List ℕ → Type 0
IsSecond code IsArm text = ((code ≡ End) × (text ≡ [])) ⊎ Behind 0x05 IsArm text

-- the bytes spell the instructions
abbrev pub IsCode : List ℕ → Code → Type 0
IsCode text End = text ≡ []
IsCode text (Then leaf more) = (first rest : List ℕ) × (text ≡ first ++ rest) × IsLeaf first leaf × IsCode rest more
IsCode text (InBlock shape inner more) = Behind 0x02 (IsBlockRest (λ t. IsCode t inner) (λ t. IsCode t more) shape) text
IsCode text (InLoop shape inner more) = Behind 0x03 (IsBlockRest (λ t. IsCode t inner) (λ t. IsCode t more) shape) text
IsCode text (InIf shape one two more) = Behind 0x04 (IsBlockRest
    (λ t. (first second : List ℕ) × (t ≡ first ++ second) × IsCode first one × IsSecond two (λ u. IsCode u two) second)
    (λ t. IsCode t more) shape) text

-- the bytes spell an expression: instructions, and 0B
abbrev pub IsExpression : List ℕ → Code → Type 0
IsExpression text code = (instrs : List ℕ) × (text ≡ instrs ++ 0x0B ∷ []) × IsCode instrs code
