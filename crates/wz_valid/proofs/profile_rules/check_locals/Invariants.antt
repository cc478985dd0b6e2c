use Rattle.std.proofs.Common.{All, ◌≤◌, take}
use Rattle.wz_module.specs.Meaning.{module_of}
use Rattle.wz_valid.specs.Profile.{locals_limit, local_counts}
use Rattle.wz_valid.proofs.profile_rules.check_locals.Given as goal

abbrev pub invariant-loop-function : goal.invariant-loop-function
invariant-loop-function l = All (λ count. count ≤ locals_limit) (take l.function (local_counts (module_of l.«module»)))
