use Rattle.std.proofs.Common.{All, map, take}
use Rattle.wz_module.specs.Views.{import_of}
use Rattle.wz_valid.specs.Profile.{IsFunctionImport}
use Rattle.wz_valid.proofs.profile_rules.check_imports.Given as goal

abbrev pub invariant-loop-index : goal.invariant-loop-index
invariant-loop-index l = All IsFunctionImport (take l.index (map import_of l.imports))
