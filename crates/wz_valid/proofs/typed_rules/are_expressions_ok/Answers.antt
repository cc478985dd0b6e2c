use Rattle.std.proofs.Common.{[], ap, sym, ◌∙◌, get_or, arith}
use Rattle.std.proofs.lemmas.List.{get_or_default}
use Rattle.wz_types.specs.Fits.{type_of_kind}
use Rattle.wz_code.specs.BodyParts.{BodyParts}
use Rattle.wz_code.specs.Trees.{tree_of}
use Rattle.wz_valid_code.specs.Typing.{IsConstant}
use Rattle.wz_module.specs.Meaning.{module_of}
use Rattle.wz_valid.specs.Contexts.{context_of}
use Rattle.wz_valid.proofs.ListLemmas.{all_next, all_done, all_not_at}
use Rattle.wz_valid.proofs.CheckLemmas.{tells_true, tells_false, constant_at}
use Rattle.wz_valid.proofs.typed_rules.are_expressions_ok.Goals as goal

abbrev none : BodyParts
none = record { locals = []; blocks = []; labels = []; types = [] }

pub loop-body-preserved : goal.loop-body-preserved
loop-body-preserved c =
    let all = context_of (module_of c.args.checker.now.«module».now) in
    let i = c.loop-body.body-index in
    let bodies = c.args.bodies.now in
    let same = c.body-item.is ∙ get_or_default bodies i c.body-item.result none c.loop-body-test.true in
    let found = tells_true (IsConstant all (tree_of c.body-item.result 0) c.from.result) c.in_ok-is_constant.field-0 c.if-not-branch.false c.in_ok-is_constant.ensures in
    all_next (λ init. IsConstant all init (type_of_kind c.args.kind)) (λ body. tree_of body 0) bodies i none c.loop-body-test.true c.loop-body.invariant
    (constant_at all (tree_of c.body-item.result 0) (tree_of (get_or bodies i none) 0) c.from.result (type_of_kind c.args.kind)
    (ap (λ (b : BodyParts). tree_of b 0) same) c.from.ensures found)

pub returns-then-not-branch : goal.returns-then-not-branch
returns-then-not-branch c =
    let all = context_of (module_of c.args.checker.now.«module».now) in
    let i = c.loop-body.body-index in
    let bodies = c.args.bodies.now in
    let same = c.body-item.is ∙ get_or_default bodies i c.body-item.result none c.loop-body-test.true in
    let not = tells_false (IsConstant all (tree_of c.body-item.result 0) c.from.result) c.in_ok-is_constant.field-0 c.if-not-branch.true c.in_ok-is_constant.ensures in
    all_not_at (λ init. IsConstant all init (type_of_kind c.args.kind)) (λ body. tree_of body 0) bodies i none c.loop-body-test.true
    (λ constant.
    not
    (constant_at all (tree_of (get_or bodies i none) 0) (tree_of c.body-item.result 0) (type_of_kind c.args.kind) c.from.result (ap (λ (b : BodyParts). tree_of b 0) (sym same))
    (sym c.from.ensures) constant))

pub returns : goal.returns
returns c =
    all_done (λ init. IsConstant (context_of (module_of c.args.checker.now.«module».now)) init (type_of_kind c.args.kind)) (λ body. tree_of body 0) c.args.bodies.now
    c.loop-body.body-index (omega arith) c.loop-body.invariant
