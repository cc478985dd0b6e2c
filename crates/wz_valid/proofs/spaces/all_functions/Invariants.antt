use Rattle.std.proofs.Common.{◌≡◌, map, take}
use Rattle.wz_module.specs.Views.{import_of}
use Rattle.wz_valid.specs.Indices.{imported_functions}
use Rattle.wz_valid.proofs.spaces.all_functions.Given as goal

abbrev pub invariant-loop-import : goal.invariant-loop-import
invariant-loop-import l = l.functions.items ≡ imported_functions (take l.import-index (map import_of l.imports))
