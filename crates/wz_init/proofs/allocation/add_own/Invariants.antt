use Rattle.std.proofs.Common.{◌≡◌, drop}
use Rattle.wz_init.specs.Functions.{own_functions}
use Rattle.wz_init.specs.Plain.{functions_behind}
use Rattle.wz_init.proofs.allocation.add_own.Given as goal

abbrev pub invariant-loop-number : goal.invariant-loop-number
invariant-loop-number g l =
    functions_behind l.store (own_functions l.number (drop l.number l.signatures)) ≡ functions_behind l.initial.store (own_functions 0 l.signatures)
