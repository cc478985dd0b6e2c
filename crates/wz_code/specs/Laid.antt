-- What the parts of a body and of a builder keep. No contract of another crate speaks of it.
use Rattle.std.specs.Prelude.{◌≡◌, ℕ, List, [], ◌∷◌, length, Option, IsNone}
use Rattle.std.specs.Global.{Box}
use Rattle.wz_types.specs.declared.types.ValType.{ValType}
use Rattle.wz_code.specs.declared.instr.Instr.{Instr}
use Rattle.wz_code.specs.declared.body.Whole.{Whole}
use Rattle.wz_code.specs.declared.body.Parts.{Parts}
use Rattle.wz_code.specs.declared.body.Parts.TheVariants as part
use Rattle.wz_code.specs.BodyParts.{BodyParts}
use Rattle.wz_code.specs.BlockRule.{IsBody}
use Rattle.wz_code.specs.Layout.{cut, IsCut, IsNoted}

abbrev pub parts_of : Parts → BodyParts
parts_of (part.Plain code) = record { locals = []; blocks = code.items ∷ []; labels = []; types = [] }
parts_of (part.Whole whole) = record {
  locals = whole.value.locals.items;
  blocks = cut whole.value.code.items 0 whole.value.starts.items;
  labels = whole.value.labels.items;
  types = whole.value.types.items;
}

abbrev pub IsCutUp : Parts → Type 0
IsCutUp (part.Plain code) = Unit {0}
IsCutUp (part.Whole whole) = IsCut whole.value.starts.items (length whole.value.code.items)

pub record IsLaid (parts : Parts) : Type 0 where
  pub cuts : IsCutUp parts
  pub body : IsBody (parts_of parts)

-- without a place for the whole there is nothing but instructions of block 0
pub record HasWhole (spare : Option (Box Whole)) (counts : List ℕ) (locals : List (ℕ × ValType)) (labels : List ℕ) (types : List ValType) : Type 0 where
  pub one_block : IsNone spare → length counts ≡ 0
  pub no_locals : IsNone spare → length locals ≡ 0
  pub no_labels : IsNone spare → length labels ≡ 0
  pub no_types : IsNone spare → length types ≡ 0

pub record IsBuilt (code : List Instr) (settled : ℕ) (added : List (ℕ × Instr)) (counts : List ℕ) (spare : Option (Box Whole))
    (locals : List (ℕ × ValType)) (labels : List ℕ) (types : List ValType) : Type 0 where
  pub noted : IsNoted code settled added counts
  pub place : HasWhole spare counts locals labels types
