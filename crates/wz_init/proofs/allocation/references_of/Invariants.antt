use Rattle.std.proofs.Common.{◌≡◌, map, take}
use Rattle.wz_init.specs.Plain.{plain_reference}
use Rattle.wz_init.proofs.allocation.references_of.Given as goal

abbrev pub invariant-loop-body : goal.invariant-loop-body
invariant-loop-body l = l.references.items ≡ map plain_reference (take l.body-index l.bodies)
