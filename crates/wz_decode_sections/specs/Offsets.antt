-- What the active segments of sections 5.5.12 and 5.5.14 of the Core Specification have in front: an offset, perhaps with an index before it.
use Rattle.std.specs.Prelude.{ℕ}
use Rattle.wz_bytes.specs.Reading.{Form, Reading}
use Rattle.wz_bytes.specs.Forms.{Both, both_at}
use Rattle.wz_code.specs.Trees.{Code}
use Rattle.wz_decode_code.specs.Instructions.{IsU32}
use Rattle.wz_decode_code.specs.InstrReading.{u32_at}
use Rattle.wz_decode_code.specs.Code.{IsExpression}
use Rattle.wz_decode_code.specs.Reading.{expression_at}

-- expr, and a form behind it
abbrev pub AtOffset : {X : Type 0} → Form X → Form (Code × X)
AtOffset Spells text x = Both (λ t code. IsExpression t code) Spells text x

-- an index, expr, and a form behind them
abbrev pub AtPlace : {X : Type 0} → Form X → Form (ℕ × (Code × X))
AtPlace Spells text x = Both (λ t n. IsU32 t n) (λ t y. AtOffset Spells t y) text x

-- ---- what stands in front of bytes

abbrev pub offset_at : {X : Type 0} → Reading X → Reading (Code × X)
offset_at read bytes = both_at (λ b. expression_at b) read bytes

abbrev pub place_at : {X : Type 0} → Reading X → Reading (ℕ × (Code × X))
place_at read bytes = both_at (λ b. u32_at b) (λ b. offset_at read b) bytes
