use Rattle.std.proofs.Common.{◌≡◌, map, take}
use Rattle.wz_module.specs.Views.{import_of}
use Rattle.wz_valid.specs.Indices.{imported_globals}
use Rattle.wz_valid.proofs.spaces.imported_globals.Given as goal

abbrev pub invariant-loop-import : goal.invariant-loop-import
invariant-loop-import l = l.globals.items ≡ imported_globals (take l.import-index (map import_of l.imports))
