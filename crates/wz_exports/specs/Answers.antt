-- How the code's answers stand to what the definitions say, and what its maps hold. This is the tool's own.
use Rattle.std.specs.Prelude.{◌≡◌, ◌⊎◌, ℕ, List, Option, Some, None, Result, Ok, Err}
use Rattle.std.specs.Borrow.{Bor}
use Rattle.std.specs.HashMap.{HashMap, get_by}
use Rattle.std.specs.Option.{option_map}
use Rattle.std.specs.Str.{bytes_eq}
use Rattle.wz_module.specs.declared.items.ExportTarget.{ExportTarget}
use Rattle.wz_module.specs.Exports.{Export}
use Rattle.wz_words.specs.declared.settings.Rename.{Rename}
use Rattle.wz_exports.specs.declared.fault.ExportFault.{ExportFault}
use Rattle.wz_exports.specs.declared.fault.ExportFault.TheVariants.{NoMemory}
use Rattle.wz_exports.specs.Names.{target_named, renamed_to}

-- a call gives what is asked for, unless the memory didn't suffice
abbrev pub IsAnsweredAs : {X : Type 0} → Result X ExportFault → Result X ExportFault → Type 0
IsAnsweredAs (Ok x) asked = asked ≡ Ok x
IsAnsweredAs (Err fault) asked = (fault ≡ NoMemory) ⊎ (asked ≡ Err fault)

-- a call refuses what has a fault, for that fault, unless the memory didn't suffice
abbrev pub Refuses : {X : Type 0} → Result X ExportFault → Option ExportFault → Type 0
Refuses (Ok x) asked = asked ≡ None
Refuses (Err fault) asked = (fault ≡ NoMemory) ⊎ (asked ≡ Some fault)

-- the map has the targets of these exports by their names
abbrev pub HasTargets : {S : Type 0} → HashMap (Bor (List ℕ)) ExportTarget S → List Export → Type 0
HasTargets map exports = (name : List ℕ) → get_by (λ k. bytes_eq name k.now) map ≡ target_named name exports

-- the map has the new names of these renames by the exports' names
abbrev pub HasNewNames : {S : Type 0} → HashMap (Bor (List ℕ)) (Bor (List ℕ)) S → List Rename → Type 0
HasNewNames map renames = (name : List ℕ) → option_map (λ dst. dst.now) (get_by (λ k. bytes_eq name k.now) map) ≡ renamed_to name renames
