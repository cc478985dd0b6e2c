-- Operands as the last of a block's values (section 4.2.14 of the Core Specification), for the code that takes them by their number.
use Rattle.std.specs.Prelude.{◌≡◌, ◌≤◌, ◌-◌, ◌*◌, ℕ, List, ◌∷◌, Option, Some, None}
use Rattle.wz_types.specs.declared.value.Reference.{Reference}
use Rattle.wz_types.specs.declared.value.Value.{Value}
use Rattle.wz_types.specs.declared.value.Value.TheVariants.{I32, Ref}
use Rattle.wz_code.specs.declared.accesses.AccessShape.{AccessShape}
use Rattle.wz_bulk.specs.declared.bulk.Bulk.{Bulk}
use Rattle.wz_bulk.specs.declared.bulk.Bulk.TheVariants as bulk
use Rattle.wz_machine.specs.declared.plain.Plain.{Plain}
use Rattle.wz_machine.specs.declared.plain.Plain.TheVariants.{Went, Trapped, NoRule}
use Rattle.wz_machine.specs.MemorySteps.{value_of_bits, extension, bits_in}
use Rattle.wz_machine.specs.PlainSteps.{used}

-- ---- the last of so many values

pub record IsOnTop (value : Value) (have : ℕ) (own : List Value) : Type 0 where
  pub there : 1 ≤ have
  pub values : used have own ≡ value ∷ used (have - 1) own

abbrev pub HasNumber : ℕ → ℕ → List Value → Type 0
HasNumber number have own = IsOnTop (I32 number) have own

abbrev pub HasReference : Reference → ℕ → List Value → Type 0
HasReference reference have own = IsOnTop (Ref reference) have own

abbrev pub number_on_top : List Value → Option ℕ
number_on_top (I32 number ∷ values) = Some number
number_on_top values = None

abbrev pub reference_on_top : List Value → Option Reference
reference_on_top (Ref reference ∷ values) = Some reference
reference_on_top values = None

-- ---- the last three, in the order of pushing

pub record HasThree (first second third have : ℕ) (own : List Value) : Type 0 where
  pub there : 3 ≤ have
  pub values : used have own ≡ I32 third ∷ I32 second ∷ I32 first ∷ used (have - 3) own

abbrev pub three_on_top : List Value → Option (ℕ × ℕ × ℕ)
three_on_top (I32 third ∷ I32 second ∷ I32 first ∷ values) = Some (first, second, third)
three_on_top values = None

-- ---- what became of an instruction on a range, above so many values

abbrev pub reply_of : ℕ → Bulk → Plain
reply_of below bulk.Did = Went below
reply_of below (bulk.Trap kind) = Trapped kind
reply_of below bulk.Stuck = NoRule

-- ---- the value that a load makes of the number that its bytes are

abbrev pub loaded_value : AccessShape → ℕ → Option Value
loaded_value shape number = value_of_bits shape.value (extension shape.signed (8 * shape.bytes) (bits_in shape.value) number)
