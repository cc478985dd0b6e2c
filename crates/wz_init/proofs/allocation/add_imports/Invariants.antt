use Rattle.std.proofs.Common.{◌≡◌, map, drop}
use Rattle.wz_module.specs.Views.{import_of}
use Rattle.wz_init.specs.Functions.{import_functions}
use Rattle.wz_init.specs.Plain.{functions_behind}
use Rattle.wz_init.proofs.allocation.add_imports.Given as goal

abbrev pub invariant-loop-number : goal.invariant-loop-number
invariant-loop-number g l =
    functions_behind l.store (import_functions l.number (map import_of (drop l.number l.imports)))
    ≡ functions_behind l.initial.store (import_functions 0 (map import_of l.imports))
