-- Section 3.3 of the Core Specification: the forms that the rules of instructions have.
use Rattle.std.specs.Prelude.{◌≡◌, ℕ, List, [], ◌∷◌, Option, Some, None, Bool, true, false, IsTrue, length, reverse}
use Rattle.wz_types.specs.declared.types.ValType.{ValType}
use Rattle.wz_types.specs.declared.types.ValType.TheVariants.{I32}
use Rattle.wz_valid_code.specs.Operands.{Operand, Operands, fits, is_numeric, is_reference, Takes, pushed, Becomes}

-- What an instruction does to the stack; lists of types stand in the order of pushing. Beside each the type that the standard
-- gives such an instruction.
pub data Rule : Type 0 where
  -- [t1*] → [t2*]: takes operands of these types, and gives those
  Exchange : List ValType → List ValType → Rule
  -- [t1* t*] → [t2*], for any t1* and t2*: takes operands of these types t*, and what follows it is never reached
  Stop : List ValType → Rule
  -- [t1* t* i32] → [t2*], for any t1* and t2*: the same after an i32, where the operands t* fit each of these lists of types,
  -- all of one length
  Choose : List (List ValType) → Rule
  -- [t] → []: takes one operand of any type
  DropOne : Rule
  -- [t t i32] → [t], t a number type: takes an i32 and two operands of one type, and gives one of it
  SelectOne : Rule
  -- [t] → [i32], t a reference type: takes a reference of either kind, and gives an i32
  TestReference : Rule
  -- no typing has it
  NoRule : Rule

-- what a lookup gives the rule, and none where nothing is there
abbrev pub rule_from : {X : Type 0} → Option X → (X → Rule) → Rule
rule_from None rule = NoRule
rule_from (Some found) rule = rule found

abbrev pub rule_if : Bool → Rule → Rule
rule_if true rule = rule
rule_if false rule = NoRule

-- operands that fit each of these lists of types could be taken
abbrev pub TakesEach : List (List ValType) → Operands → Type 0
TakesEach [] stack = Unit {0}
TakesEach (types ∷ lists) stack = ((below : Operands) × Takes (reverse types) stack below) × TakesEach lists stack

abbrev pub AllLong : ℕ → List (List ValType) → Type 0
AllLong n [] = Unit {0}
AllLong n (types ∷ lists) = (length types ≡ n) × AllLong n lists

-- the lists are of one length
abbrev pub OneLength : List (List ValType) → Type 0
OneLength [] = Unit {0}
OneLength (types ∷ lists) = AllLong (length types) lists

-- the rule leads from the one stack to the other
abbrev pub Leads : Rule → Operands → Operands → Type 0
Leads (Exchange takes gives) stack next = (below : Operands) × Takes (reverse takes) stack below × (next ≡ pushed gives below)
Leads (Stop takes) stack next = (below : Operands) × Takes (reverse takes) stack below
Leads (Choose lists) stack next = (below : Operands) × Takes (I32 ∷ []) stack below × TakesEach lists below × OneLength lists
Leads DropOne stack next = (operand : Operand) × (stack ≡ operand ∷ next)
Leads SelectOne stack next =
    (condition : Operand) × (second : Operand) × (first : Operand) × (result : Operand) × (below : Operands)
    × (stack ≡ condition ∷ second ∷ first ∷ below) × IsTrue (fits condition I32)
    × Becomes second result × Becomes first result × IsTrue (is_numeric result) × (next ≡ result ∷ below)
Leads TestReference stack next =
    (operand : Operand) × (below : Operands) × (stack ≡ operand ∷ below) × IsTrue (is_reference operand) × (next ≡ Some I32 ∷ below)
Leads NoRule stack next = ⊥

-- rules that lead, one after another, from the stack to operands of just these types
abbrev pub Lead : List Rule → Operands → List ValType → Type 0
Lead [] stack results = Takes (reverse results) stack []
Lead (rule ∷ rules) stack results = (next : Operands) × Leads rule stack next × Lead rules next results
