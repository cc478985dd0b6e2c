-- The stack that the checker keeps, after the algorithm in the Core Specification's appendix (section 7.3): what a rule makes of it.
use Rattle.std.specs.Prelude.{MatchOption, is_some, ◌≡◌, ℕ, List, [], ◌∷◌, Option, Some, None, Bool, true, false, slice_get, reverse, length, if◌then◌else◌, ◌==◌}
use Rattle.wz_types.specs.declared.types.ValType.{ValType}
use Rattle.wz_types.specs.declared.types.ValType.TheVariants.{I32}
use Rattle.wz_types.specs.SameType.{same_type}
use Rattle.wz_valid_code.specs.Operands.{Operand, Operands, fits, is_numeric, is_reference, pushed}
use Rattle.wz_valid_code.specs.Rules.{Rule, Exchange, Stop, Choose, DropOne, SelectOne, TestReference, NoRule}
use Rattle.wz_valid_code.specs.Context.{Labels}

-- the known operands of the block that is checked, the last pushed first, and whether more of any type may follow them
pub record Known : Type 0 where
  pub items : List (Option ValType)
  pub dead : Bool

-- what is left of the known operands when these types are taken
abbrev pub after_taking : List ValType → Operands → Bool → Option Operands
after_taking [] stack dead = Some stack
after_taking (type ∷ types) [] dead = if dead then Some [] else None
after_taking (type ∷ types) (found ∷ stack) dead = if fits found type then after_taking types stack dead else None

pub data Popped : Type 0 where
  Gone : Popped
  Got : Operand → Operands → Popped

-- one operand of any type, and what is left
abbrev pub after_popping : Operands → Bool → Popped
after_popping [] true = Got None []
after_popping [] false = Gone
after_popping (found ∷ stack) dead = Got found stack

abbrev pub left_with : Operands → Bool → Option Known
left_with stack dead = Some (record { items = stack; dead = dead })

abbrev pub then_give : List ValType → Bool → Option Operands → Option Known
then_give gives dead None = None
then_give gives dead (Some stack) = left_with (pushed gives stack) dead

abbrev pub then_stop : Option Operands → Option Known
then_stop None = None
then_stop (Some stack) = left_with [] true

abbrev pub each_taken : ℕ → List (List ValType) → Operands → Bool → Bool
each_taken n [] stack dead = true
each_taken n (types ∷ lists) stack dead =
    if length types == n then (if is_some (after_taking (reverse types) stack dead) then each_taken n lists stack dead else false) else false

abbrev pub offered_at : Option (List ValType) → ℕ → Operands → Bool → Bool → Bool
offered_at None n stack dead others = false
offered_at (Some types) n stack dead others = if length types == n then (if is_some (after_taking (reverse types) stack dead) then others else false) else false

-- whether each of these labels is there, has n types, and could take them
abbrev pub each_offered : Labels → List ℕ → ℕ → Operands → Bool → Bool
each_offered labels [] n stack dead = true
each_offered labels (label ∷ numbers) n stack dead = offered_at (slice_get labels label) n stack dead (each_offered labels numbers n stack dead)

abbrev pub then_choose : List (List ValType) → Bool → Option Operands → Option Known
then_choose lists dead None = None
then_choose [] dead (Some stack) = left_with [] true
then_choose (types ∷ lists) dead (Some stack) = if each_taken (length types) (types ∷ lists) stack dead then left_with [] true else None

abbrev pub then_drop : Bool → Popped → Option Known
then_drop dead Gone = None
then_drop dead (Got found stack) = left_with stack dead

abbrev pub then_test : Bool → Popped → Option Known
then_test dead Gone = None
then_test dead (Got found stack) = if is_reference found then left_with (Some I32 ∷ stack) dead else None

-- the type that two operands have, where `any` may be the other's
abbrev pub common_type : Operand → Operand → Option Operand
common_type None other = Some other
common_type (Some type) None = Some (Some type)
common_type (Some type) (Some other) = if same_type type other then Some (Some type) else None

abbrev pub if_number : Operands → Bool → Option Operand → Option Known
if_number stack dead None = None
if_number stack dead (Some operand) = if is_numeric operand then left_with (operand ∷ stack) dead else None

abbrev pub then_common : Bool → Operand → Popped → Option Known
then_common dead second Gone = None
then_common dead second (Got first stack) = if_number stack dead (common_type second first)

abbrev pub then_second : Bool → Popped → Option Known
then_second dead Gone = None
then_second dead (Got second stack) = then_common dead second (after_popping stack dead)

abbrev pub then_select : Bool → Option Operands → Option Known
then_select dead None = None
then_select dead (Some stack) = then_second dead (after_popping stack dead)

-- what the checker's stack becomes, if the rule can be followed
abbrev pub after_rule : Rule → Operands → Bool → Option Known
after_rule (Exchange takes gives) stack dead = then_give gives dead (after_taking (reverse takes) stack dead)
after_rule (Stop takes) stack dead = then_stop (after_taking (reverse takes) stack dead)
after_rule (Choose lists) stack dead = then_choose lists dead (after_taking (I32 ∷ []) stack dead)
after_rule DropOne stack dead = then_drop dead (after_popping stack dead)
after_rule SelectOne stack dead = then_select dead (after_taking (I32 ∷ []) stack dead)
after_rule TestReference stack dead = then_test dead (after_popping stack dead)
after_rule NoRule stack dead = None

-- the checker followed the rule, and has the new stack; or the rule doesn't fit the stack
abbrev pub Followed : Rule → Known → Known → Bool → Type 0
Followed rule old new is_followed = after_rule rule old.items old.dead ≡ (if is_followed then Some new else None)

-- these types were taken off the known operands, or they don't fit
abbrev pub AfterTaking : List ValType → Known → Known → Bool → Type 0
AfterTaking types old new is_taken = after_taking types old.items old.dead ≡ (if is_taken then Some new.items else None)

-- an operand was taken off, or there is none
abbrev pub AfterPopping : Known → Known → Option Operand → Type 0
AfterPopping old new operand = MatchOption operand (after_popping old.items old.dead ≡ Gone) (λ q. after_popping old.items old.dead ≡ Got q new.items)
