use Rattle.std.proofs.Common.{Err, ap}
use Rattle.wz_code.specs.Trees.{tree_of}
use Rattle.wz_valid_code.specs.declared.body.BodyFault.{BodyFault}
use Rattle.wz_module.specs.Meaning.{module_of}
use Rattle.wz_valid.specs.Contexts.{context_of}
use Rattle.wz_valid.proofs.CheckLemmas.{constant_same, says_back}
use Rattle.wz_valid.proofs.typed_rules.is_constant.Goals as goal

pub returns-in-Ok : goal.returns-in-Ok
returns-in-Ok c =
    let all = context_of (module_of c.args.checker.now.«module».now) in
    constant_same c.args.checker.now.context all c.requires.says (tree_of c.args.body.now 0) c.args.kind c.in-Ok.ensures.constant

pub returns-in-Err-Untyped : goal.returns-in-Err-Untyped
returns-in-Err-Untyped c =
    let own = c.args.checker.now.context in
    let all = context_of (module_of c.args.checker.now.«module».now) in
    λ constant.
    c.in-Err-Untyped.ensures.untyped (ap (λ (fault : BodyFault). Err fault) c.in-Err-Untyped.field-0-is)
    (constant_same all own (says_back own all c.requires.says) (tree_of c.args.body.now 0) c.args.kind constant)
