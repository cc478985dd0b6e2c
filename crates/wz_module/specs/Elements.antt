-- Section 2.5.7 of the Core Specification: element segments.
use Rattle.std.specs.Prelude.{ℕ, List}
use Rattle.wz_types.specs.declared.types.RefKind.{RefKind}
use Rattle.wz_code.specs.declared.instr.Instr.TheVariants.{RefFunc}
use Rattle.wz_code.specs.Trees.{Code, End, Then, Plain}

-- an active segment has its table's index and the expression of its offset
pub data ElemMode : Type 0 where
  PassiveElem : ElemMode
  ActiveElem : ℕ → Code → ElemMode
  DeclarativeElem : ElemMode

-- the kind of its references, and the expression of each
pub record Elem : Type 0 where
  pub mode : ElemMode
  pub kind : RefKind
  pub init : List Code

-- the expression that a function's index stands for
abbrev pub function_reference : ℕ → Code
function_reference index = Then (Plain (RefFunc index)) End
