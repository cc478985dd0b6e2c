-- Forms of several productions, where a byte or a number in front says which of them it is (as in sections 5.3.7 and 5.5 of the Core Specification).
use Rattle.std.specs.Prelude.{◌≡◌, ℕ, List, ◌++◌}
use Rattle.wz_bytes.specs.Reading.{Form}
use Rattle.wz_bytes.specs.Forms.{Made}
use Rattle.wz_decode_code.specs.Instructions.{IsU32}

-- one production: the tag in front, and behind it what the value is made of
abbrev pub Production : {X Y : Type 0} → Form ℕ → ℕ → (Y → X) → Form Y → Form X
Production IsTag tag make Spells text x = (first second : List ℕ) × (text ≡ first ++ second) × IsTag first tag × Made make Spells second x

-- the tag of a segment, a number that may be padded
abbrev pub IsSegmentFlag : Form ℕ
IsSegmentFlag text flag = IsU32 text flag
