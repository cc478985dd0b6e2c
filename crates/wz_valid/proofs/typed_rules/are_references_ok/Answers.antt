use Rattle.wz_types.specs.Fits.{type_of_kind}
use Rattle.wz_valid_code.specs.Typing.{IsConstant}
use Rattle.wz_module.specs.Elements.{function_reference}
use Rattle.std.proofs.Common.{arith}
use Rattle.wz_module.specs.Meaning.{module_of}
use Rattle.wz_valid.specs.Contexts.{context_of}
use Rattle.wz_valid.proofs.ListLemmas.{all_next, all_done, all_not_at}
use Rattle.wz_valid.proofs.typed_rules.are_references_ok.Goals as goal

pub loop-function-preserved : goal.loop-function-preserved
loop-function-preserved c =
    all_next (λ init. IsConstant (context_of (module_of c.args.checker.now.«module».now)) init (type_of_kind c.args.kind)) function_reference c.args.functions.now
    c.loop-function.function-index 0 c.loop-function-test.true c.loop-function.invariant c.if-not-is_reference_ok.ensures

pub returns-then-not-is_reference_ok : goal.returns-then-not-is_reference_ok
returns-then-not-is_reference_ok c =
    all_not_at (λ init. IsConstant (context_of (module_of c.args.checker.now.«module».now)) init (type_of_kind c.args.kind)) function_reference c.args.functions.now
    c.loop-function.function-index 0 c.loop-function-test.true c.if-not-is_reference_ok.ensures

pub returns : goal.returns
returns c =
    all_done (λ init. IsConstant (context_of (module_of c.args.checker.now.«module».now)) init (type_of_kind c.args.kind)) function_reference c.args.functions.now
    c.loop-function.function-index (omega arith) c.loop-function.invariant
