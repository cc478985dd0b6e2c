-- Reading an expression from left to right, symbol by symbol: the code so far of the innermost open block, and what stands around it.
use Rattle.std.specs.Prelude.{ℕ, zero, suc, List, [], ◌∷◌, length, Option, Some, None}
use Rattle.wz_bytes.specs.Reading.{◌>>=◌}
use Rattle.wz_bytes.specs.Forms.{both_at}
use Rattle.wz_code.specs.declared.instr.Shape.{Shape}
use Rattle.wz_code.specs.Trees.{Code, End, Then, InBlock, InLoop, InIf, joined}
use Rattle.wz_decode_code.specs.Entry.{CodeEntry, locals_at}
use Rattle.wz_decode_code.specs.Tokens.{Symbol, Single, BeginsBlock, BeginsLoop, BeginsIf, Else, Ends, symbol_at}

-- which part of its parent an open block is; the second arm of an if has the first one with it
pub data BlockPart : Type 0 where
  OfBlock : BlockPart
  OfLoop : BlockPart
  OfFirst : BlockPart
  OfSecond : Code → BlockPart

-- an open block: its part and type, and the code before it in its parent
pub record Around : Type 0 where
  pub part : BlockPart
  pub shape : Shape
  pub before : Code

-- what a block is at its end
abbrev pub node : BlockPart → Shape → Code → Code
node OfBlock shape inner = InBlock shape inner End
node OfLoop shape inner = InLoop shape inner End
node OfFirst shape inner = InIf shape inner End End
node (OfSecond first) shape inner = InIf shape first inner End

-- what a symbol makes of the code so far within open blocks, the innermost first
pub data AfterSymbol : Type 0 where
  On : Code → List Around → AfterSymbol
  Complete : Code → AfterSymbol
  Misplaced : AfterSymbol

abbrev pub after_else : Code → List Around → AfterSymbol
after_else here [] = Misplaced
after_else here (o ∷ around) = second o.part o here around where
  second : BlockPart → Around → Code → List Around → AfterSymbol
  second OfFirst o here around = On End (record { part = OfSecond here; shape = o.shape; before = o.before } ∷ around)
  second part o here around = Misplaced

abbrev pub after_end : Code → List Around → AfterSymbol
after_end here [] = Complete here
after_end here (o ∷ around) = On (joined o.before (node o.part o.shape here)) around

abbrev pub opened : BlockPart → Shape → Code → List Around → AfterSymbol
opened part shape here around = On End (record { part = part; shape = shape; before = here } ∷ around)

abbrev pub after_symbol : Symbol → Code → List Around → AfterSymbol
after_symbol (Single leaf) here around = On (joined here (Then leaf End)) around
after_symbol (BeginsBlock shape) here around = opened OfBlock shape here around
after_symbol (BeginsLoop shape) here around = opened OfLoop shape here around
after_symbol (BeginsIf shape) here around = opened OfFirst shape here around
after_symbol Else here around = after_else here around
after_symbol Ends here around = after_end here around

abbrev pub go_on : (Code → List Around → Option (Code × List ℕ)) → List ℕ → AfterSymbol → Option (Code × List ℕ)
go_on more bytes (On here around) = more here around
go_on more bytes (Complete code) = Some (code, bytes)
go_on more bytes Misplaced = None

-- the rest of the expression, in at most so many symbols
unfoldable pub rest_at : ℕ → List ℕ → Code → List Around → Option (Code × List ℕ)
rest_at zero bytes here around = None
rest_at (suc fuel) bytes here around = symbol_at bytes >>= λ s. go_on (λ here around. rest_at fuel s.1 here around) s.1 (after_symbol s.0 here around)

-- the rest of the expression behind code within open blocks; there are no more symbols than bytes
unfoldable pub reads : List ℕ → Code → List Around → Option (Code × List ℕ)
reads bytes here around = rest_at (length bytes) bytes here around

-- the expression that stands in front of the bytes, and the bytes behind it
abbrev pub expression_at : List ℕ → Option (Code × List ℕ)
expression_at bytes = reads bytes End []

-- the locals and instructions that stand in front of the bytes, and the bytes behind them
abbrev pub entry_at : List ℕ → Option (CodeEntry × List ℕ)
entry_at bytes = both_at (λ b. locals_at b) (λ b. expression_at b) bytes
