use Rattle.wz_module.specs.Meaning.{module_of}
use Rattle.wz_valid.specs.Contexts.{context_of}
use Rattle.wz_valid.proofs.CheckLemmas.{reference_of_kind}
use Rattle.wz_valid.proofs.typed_rules.is_reference_ok.Goals as goal

pub returns-in-Func : goal.returns-in-Func
returns-in-Func c =
    reference_of_kind c.args.checker.now.context (context_of (module_of c.args.checker.now.«module».now)) c.args.function c.args.kind c.may_refer.result c.requires c.in-Func.is
    c.may_refer.ensures
