-- What holds of the numeric operations (sections 3.3.1, 4.3 and 4.4.1 of the Core Specification), for the crates above.
use Rattle.std.specs.Prelude.{◌≡◌, ℕ, ◌+◌, ◌-◌, ◌/◌, ◌%◌, ◌^◌, ◌<◌, ◌≤◌, min, max, ℤ, pos, ◌+ℤ◌, ◌-ℤ◌, ◌*ℤ◌, int_div, int_rem, unsigned_abs, List, [], ◌∷◌, Option, Some, None, IsTrue}
use Rattle.std.specs.Int.{Width, bit_at}
use mir.Val.{bits}
use Rattle.wz_types.specs.declared.types.ValType.{ValType}
use Rattle.wz_types.specs.declared.value.Value.{Value}
use Rattle.wz_types.specs.Fits.{Fits, all_fit}
use Rattle.wz_code.specs.declared.numeric.NumOp.{NumOp}
use Rattle.wz_code.specs.Numeric.{types_of}
use Rattle.wz_num.specs.declared.answer.NumAnswer.{NumAnswer}
use Rattle.wz_num.specs.declared.answer.NumAnswer.TheVariants.{Gives, Trap, Ask, Stuck}
use Rattle.wz_num.specs.Integers.{signed_of, pattern_of, iand, ior, ixor, iclz, ictz, ipopcnt}
use Rattle.wz_num.specs.Number.{number}

-- the types of the operands, in the order of pushing
abbrev pub listed_types : ValType → Option ValType → List ValType
listed_types first None = first ∷ []
listed_types first (Some second) = first ∷ second ∷ []

abbrev pub operand_types : NumOp → List ValType
operand_types op = listed_types (types_of op).first (types_of op).second

-- a value that fits the type, a trap or a question
abbrev pub AnswerServes : ValType → ℕ → ℕ → NumAnswer → Type 0
AnswerServes type functions types (Gives value) = Fits value type functions types
AnswerServes type functions types (Trap kind) = Unit {0}
AnswerServes type functions types Ask = Unit {0}
AnswerServes type functions types Stuck = ⊥

-- operands that fit what the operation takes are never stuck, and what it gives fits its result
abbrev pub NumbersServe : Type 0
NumbersServe = (op : NumOp) (operands : List Value) (functions types : ℕ) → IsTrue (all_fit operands (operand_types op) functions types)
    → AnswerServes (types_of op).result functions types (number op operands)

-- ---- std's words in the definitions of section 4.3.2

-- the signed interpretation is i below 2 ^ (n - 1) and i - 2 ^ n from there on, and its pattern is i
pub record HasSign (n i : ℕ) : Type 0 where
  pub low : i < 2 ^ (n - 1) → signed_of n i ≡ pos i
  pub high : 2 ^ (n - 1) ≤ i → signed_of n i ≡ pos i -ℤ pos (2 ^ n)
  pub pattern : pattern_of n (signed_of n i) ≡ i

abbrev pub SignsAreExact : Type 0
SignsAreExact = (n i : ℕ) → i < 2 ^ n → HasSign n i

-- quotient and rest make up the dividend, and the rest is nearer to 0 than the divisor
abbrev pub QuotientsAreExact : Type 0
QuotientsAreExact = (a d : ℤ) → (int_div a d *ℤ d +ℤ int_rem a d ≡ a) × (0 < unsigned_abs d → unsigned_abs (int_rem a d) < unsigned_abs d)

-- bit i of `and` is 1 where both are, of `or` where one is, of `xor` where just one is
abbrev pub BitsAreExact : Type 0
BitsAreExact = (n a b i : ℕ) → (bit_at (iand n a b) i ≡ min (bit_at a i) (bit_at b i)) × (bit_at (ior n a b) i ≡ max (bit_at a i) (bit_at b i))
    × (bit_at (ixor n a b) i ≡ (bit_at a i + bit_at b i) % 2)

-- the highest 1 stands at j, with so many bits above it
abbrev pub HasHighest : ℕ → ℕ → ℕ → Type 0
HasHighest n a j = (iclz n a + (j + 1) ≡ n) × (2 ^ j ≤ a) × (a < 2 ^ (j + 1))

abbrev pub LeadingZerosAreExact : Type 0
LeadingZerosAreExact = (n : ℕ) → (iclz n 0 ≡ n) × ((a : ℕ) → 0 < a → a < 2 ^ n → (j : ℕ) × HasHighest n a j)

-- the lowest 1 stands just above so many zeros
abbrev pub HasLowest : ℕ → ℕ → ℕ → Type 0
HasLowest n a j = (ictz n a ≡ j) × (j < n) × (bit_at a j ≡ 1) × ((i : ℕ) → i < j → bit_at a i ≡ 0)

abbrev pub TrailingZerosAreExact : Type 0
TrailingZerosAreExact = (w : Width) → (ictz (bits w) 0 ≡ bits w) × ((a : ℕ) → 0 < a → a < 2 ^ bits w → (j : ℕ) × HasLowest (bits w) a j)

-- the lowest bit, and the count of the others
abbrev pub OnesAreExact : Type 0
OnesAreExact = (n a : ℕ) → (ipopcnt n 0 ≡ 0) × (ipopcnt n a ≡ a % 2 + ipopcnt n (a / 2))
