use Rattle.std.proofs.Common.{ℕ, ◌<◌}
use Rattle.wz_module.specs.Meaning.{module_of}
use Rattle.wz_valid.specs.Validity.{IsItemOk}
use Rattle.wz_valid.proofs.validity.check_part.Given as goal

abbrev pub invariant-loop-index : goal.invariant-loop-index
invariant-loop-index l = (k : ℕ) → k < l.index → IsItemOk (module_of l.checker.«module».now) l.part k
