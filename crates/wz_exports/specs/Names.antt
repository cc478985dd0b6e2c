-- Exports and renames by their names (section 2.5.10 of the WebAssembly Core Specification 2.0: the names of a module's exports differ).
use Rattle.std.specs.Prelude.{List, [], ◌∷◌, ℕ, Option, Some, None, if◌then◌else◌}
use Rattle.std.specs.Str.{bytes_eq}
use Rattle.wz_module.specs.declared.items.ExportTarget.{ExportTarget}
use Rattle.wz_module.specs.Exports.{Export}
use Rattle.wz_words.specs.declared.settings.Rename.{Rename}

-- what the export of a name gives out
abbrev pub target_named : List ℕ → List Export → Option ExportTarget
target_named name [] = None
target_named name (e ∷ exports) = if bytes_eq name e.name then Some e.target else target_named name exports

-- the new name of the export of a name, where a rename asks for one
abbrev pub renamed_to : List ℕ → List Rename → Option (List ℕ)
renamed_to name [] = None
renamed_to name (rename ∷ renames) = if bytes_eq name rename.src then Some rename.dst else renamed_to name renames
