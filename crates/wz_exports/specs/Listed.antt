-- The entries of a map from names to what is exported, as exports. This is the tool's own.
use Rattle.std.specs.Prelude.{List, map, string_bytes}
use Rattle.std.specs.declared.string.String.{String}
use Rattle.wz_module.specs.declared.items.ExportTarget.{ExportTarget}
use Rattle.wz_module.specs.Exports.{Export}

abbrev pub export_in : {A : Type 0} → String A × ExportTarget → Export
export_in entry = record { name = string_bytes entry.0; target = entry.1 }

abbrev pub exports_in : {A : Type 0} → List (String A × ExportTarget) → List Export
exports_in entries = map export_in entries
