-- What holds of the spellings of expressions and entries, whatever reads them.
use Rattle.std.specs.Prelude.{◌≡◌, ℕ, List, Option, Some, None, Result, Ok, Err}
use Rattle.wz_bytes.specs.Reading.{IsExact, OneFront}
use Rattle.wz_bytes.specs.Place.{Place}
use Rattle.wz_decode_code.specs.declared.fault.CodeFault.{CodeFault}
use Rattle.wz_decode_code.specs.declared.fault.CodeFault.TheVariants.{Bad, NoMemory}
use Rattle.wz_decode_code.specs.Types.{IsValType, IsRefKind, type_at, kind_at}
use Rattle.wz_decode_code.specs.Code.{IsExpression}
use Rattle.wz_decode_code.specs.Entry.{CodeEntry, IsEntry}
use Rattle.wz_decode_code.specs.Reading.{expression_at, entry_at}

-- what a reading of the front gave, as a function of the bytes
abbrev pub GivesRead : {X Y : Type 0} → (Y → X) → Result Y CodeFault → Place → Option (X × List ℕ) → Type 0
GivesRead view (Ok y) new read = read ≡ Some (view y, new.left)
GivesRead view (Err Bad) new read = read ≡ None
GivesRead view (Err NoMemory) new read = Unit {0}

-- the bytes as a whole spell none of this
abbrev pub SpellsNone : {X : Type 0} → (List ℕ → X → Type 0) → List ℕ → Type 0
SpellsNone {X = X} Spells bytes = (x : X) → Spells bytes x → ⊥

-- ---- bytes have at most one expression in front of them, and an entry's bytes spell at most one function

abbrev pub OneExpression : Type 0
OneExpression = OneFront IsExpression

abbrev pub OneEntry : Type 0
OneEntry = (bytes : List ℕ) (a b : CodeEntry) → IsEntry bytes a → IsEntry bytes b → a ≡ b

-- ---- the reading as a function gives just what the bytes spell

abbrev pub ExpressionIsExact : Type 0
ExpressionIsExact = IsExact IsExpression (λ bytes. expression_at bytes)

abbrev pub EntryIsExact : Type 0
EntryIsExact = IsExact (λ t entry. IsEntry t entry) (λ bytes. entry_at bytes)

abbrev pub ValTypeIsExact : Type 0
ValTypeIsExact = IsExact (λ t type. IsValType t type) (λ bytes. type_at bytes)

abbrev pub RefKindIsExact : Type 0
RefKindIsExact = IsExact (λ t kind. IsRefKind t kind) (λ bytes. kind_at bytes)
