-- The symbols that code is a row of, and the one that stands in front of bytes.
use Rattle.std.specs.Prelude.{◌≡◌, ℕ, List, [], ◌∷◌, Option, Some, None, ◌==◌, if◌then◌else◌}
use Rattle.wz_bytes.specs.Forms.{both_at, made_at, vector_at}
use Rattle.wz_code.specs.declared.instr.Shape.{Shape}
use Rattle.wz_code.specs.declared.instr.Instr.{Instr}
use Rattle.wz_code.specs.declared.instr.Instr.TheVariants as instr
use Rattle.wz_code.specs.Trees.{Leaf, Plain, TableBranch, TypedSelect}
use Rattle.wz_decode_code.specs.declared.token.Token.{Token}
use Rattle.wz_decode_code.specs.declared.token.Token.TheVariants as token
use Rattle.wz_decode_code.specs.Types.{type_at, shape_at}
use Rattle.wz_decode_code.specs.Instructions.{IsLeaf}
use Rattle.wz_decode_code.specs.Code.{Behind}
use Rattle.wz_decode_code.specs.Types.{IsShape}
use Rattle.wz_decode_code.specs.InstrReading.{u32_at, instr_at}

-- a leaf, the beginning of a block with its type, an else, or an end
pub data Symbol : Type 0 where
  Single : Leaf → Symbol
  BeginsBlock : Shape → Symbol
  BeginsLoop : Shape → Symbol
  BeginsIf : Shape → Symbol
  Else : Symbol
  Ends : Symbol

abbrev pub IsSymbol : List ℕ → Symbol → Type 0
IsSymbol text (Single leaf) = IsLeaf text leaf
IsSymbol text (BeginsBlock shape) = Behind 0x02 (λ t. IsShape t shape) text
IsSymbol text (BeginsLoop shape) = Behind 0x03 (λ t. IsShape t shape) text
IsSymbol text (BeginsIf shape) = Behind 0x04 (λ t. IsShape t shape) text
IsSymbol text Else = text ≡ 0x05 ∷ []
IsSymbol text Ends = text ≡ 0x0B ∷ []

-- the symbol that a token is, where `leaf` says which leaf an instruction is
abbrev pub seen : (Instr → Leaf) → Token → Symbol
seen leaf (token.Plain instr) = Single (leaf instr)
seen leaf (token.Block shape) = BeginsBlock shape
seen leaf (token.Loop shape) = BeginsLoop shape
seen leaf (token.If shape) = BeginsIf shape
seen leaf token.Else = Else
seen leaf token.End = Ends

-- an instruction that names no block, and nothing in a pool
abbrev pub IsSimple : Instr → Type 0
IsSimple (instr.Block shape body) = ⊥
IsSimple (instr.Loop shape body) = ⊥
IsSimple (instr.If shape first second) = ⊥
IsSimple (instr.BrTable first count last) = ⊥
IsSimple (instr.SelectTyped first count) = ⊥
IsSimple instr = Unit {0}

abbrev pub HasSimple : Token → Type 0
HasSimple (token.Plain instr) = IsSimple instr
HasSimple token = Unit {0}

-- ---- what stands in front of bytes

-- all but the symbols with a vector in them
unfoldable pub token_at : List ℕ → Option (Token × List ℕ)
token_at [] = None
token_at (b ∷ bytes) =
    if b == 0x02 then made_at (λ s. token.Block s) (λ b. shape_at b) bytes
    else (if b == 0x03 then made_at (λ s. token.Loop s) (λ b. shape_at b) bytes
    else (if b == 0x04 then made_at (λ s. token.If s) (λ b. shape_at b) bytes
    else (if b == 0x05 then Some (token.Else, bytes)
    else (if b == 0x0B then Some (token.End, bytes)
    else made_at (λ i. token.Plain i) (λ b. instr_at b) (b ∷ bytes)))))

abbrev pub branch_labels_at : List ℕ → Option ((List ℕ × ℕ) × List ℕ)
branch_labels_at bytes = both_at (λ b. vector_at (λ b. u32_at b) b) (λ b. u32_at b) bytes

unfoldable pub symbol_at : List ℕ → Option (Symbol × List ℕ)
symbol_at [] = None
symbol_at (b ∷ bytes) =
    if b == 0x0E then made_at (λ x. Single (TableBranch x.0 x.1)) (λ b. branch_labels_at b) bytes
    else (if b == 0x1C then made_at (λ ts. Single (TypedSelect ts)) (λ b. vector_at (λ b. type_at b) b) bytes
    else made_at (λ t. seen (λ i. Plain i) t) (λ b. token_at b) (b ∷ bytes))
