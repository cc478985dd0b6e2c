-- Section 4.2.6 of the Core Specification: a function that can be called, as the machine finds it.
use Rattle.wz_valid_code.specs.Context.{locals_of_runs}
use Rattle.wz_code.specs.Trees.{tree_of}
use Rattle.wz_machine.specs.declared.callee.Callee.{Callee}
use Rattle.wz_machine.specs.declared.callee.CalleeCode.{CalleeCode}
use Rattle.wz_machine.specs.declared.callee.CalleeCode.TheVariants.{Own, Import}
use Rattle.wz_machine.specs.State.{FunctionBody, OwnBody, ImportedBody, Callable}

abbrev pub body_in : CalleeCode → FunctionBody
body_in (Own body) = OwnBody (locals_of_runs body.now.locals) (tree_of body.now 0)
body_in (Import number) = ImportedBody number

abbrev pub callable_in : Callee → Callable
callable_in callee = record { type = callee.kind.now; body = body_in callee.code }
