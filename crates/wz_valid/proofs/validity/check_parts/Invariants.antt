use Rattle.wz_module.specs.Meaning.{module_of}
use Rattle.wz_valid.specs.Checking.{ArePartsBeforeOk}
use Rattle.wz_valid.proofs.validity.check_parts.Given as goal

abbrev pub invariant-loop-part : goal.invariant-loop-part
invariant-loop-part l = ArePartsBeforeOk (module_of l.checker.«module».now) l.part-index
