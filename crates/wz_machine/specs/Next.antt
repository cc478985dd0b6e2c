-- The instruction that a step reduces (section 4.4 of the Core Specification). A step that leaves a label or a frame at its end
-- reduces none.
use Rattle.std.specs.Prelude.{Option, Some, None}
use Rattle.wz_code.specs.declared.instr.Shape.{Shape}
use Rattle.wz_code.specs.Trees.{Code, End, Then, InBlock, InLoop, InIf, Leaf}
use Rattle.wz_machine.specs.Terms.{Inside, Innermost, InLabel, InFrame, Term, Frame, BareValues, Standing, Runs, Waits}

-- an instruction without what stands in it
pub data Head : Type 0 where
  LeafHead : Leaf → Head
  BlockHead : Shape → Head
  LoopHead : Shape → Head
  IfHead : Shape → Head

abbrev pub head_of : Code → Option Head
head_of End = None
head_of (Then leaf rest) = Some (LeafHead leaf)
head_of (InBlock shape inner rest) = Some (BlockHead shape)
head_of (InLoop shape inner rest) = Some (LoopHead shape)
head_of (InIf shape first second rest) = Some (IfHead shape)

abbrev pub head_in : Inside → Option Head
head_in (Innermost values code) = head_of code
head_in (InLabel below count again inside rest) = head_in inside
head_in (InFrame below count own inside rest) = head_in inside

abbrev pub next : Term → Option Head
next (Frame count locals inside) = head_in inside
next (BareValues values) = None

-- none while the term waits for an answer
abbrev pub standing_next : Standing → Option Head
standing_next (Runs term) = next term
standing_next (Waits question rest) = None
