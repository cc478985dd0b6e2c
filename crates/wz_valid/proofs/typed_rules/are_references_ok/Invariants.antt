use Rattle.std.proofs.Common.{map, take}
use Rattle.wz_module.specs.Elements.{function_reference}
use Rattle.wz_module.specs.Meaning.{module_of}
use Rattle.wz_valid.specs.Checking.{AreConstant}
use Rattle.wz_valid.proofs.typed_rules.are_references_ok.Given as goal

abbrev pub invariant-loop-function : goal.invariant-loop-function
invariant-loop-function l = AreConstant (module_of l.checker.«module».now) l.kind (take l.function-index (map function_reference l.functions))
