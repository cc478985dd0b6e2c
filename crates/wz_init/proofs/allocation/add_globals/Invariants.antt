use Rattle.std.proofs.Common.{◌≡◌, map, drop}
use Rattle.wz_init.specs.Plain.{plain_global, globals_behind}
use Rattle.wz_init.proofs.allocation.add_globals.Given as goal

abbrev pub invariant-loop-global : goal.invariant-loop-global
invariant-loop-global g l = globals_behind l.store (map plain_global (drop l.global-index l.globals)) ≡ globals_behind l.initial.store (map plain_global l.globals)
