use Rattle.std.proofs.Common.{take}
use Rattle.wz_module.specs.Meaning.{module_of}
use Rattle.wz_module.specs.Views.{trees_of}
use Rattle.wz_valid.specs.Checking.{AreConstant}
use Rattle.wz_valid.proofs.typed_rules.are_expressions_ok.Given as goal

abbrev pub invariant-loop-body : goal.invariant-loop-body
invariant-loop-body l = AreConstant (module_of l.checker.«module».now) l.kind (take l.body-index (trees_of l.bodies))
