use Rattle.std.proofs.Common.{reverse, sym, ap, subst, ◌∙◌, drop, get_or, List, ◌+◌, [], arith}
use Rattle.std.proofs.lemmas.List.{drop_more, drop_all}
use Rattle.wz_code.specs.declared.instr.Instr.{Instr}
use Rattle.wz_code.specs.declared.instr.Instr.TheVariants.{Unreachable}
use Rattle.wz_code.specs.Trees.{leaf_in}
use Rattle.wz_valid_code.specs.Operands.{pushed}
use Rattle.wz_valid_code.specs.Checking.{Known}
use Rattle.wz_valid_code.specs.Blocks.{outer_rule, outer_rules}
use Rattle.wz_valid_code.proofs.WalkLemmas.{Walked, walk-start, walk-step, walk-stuck, walk-short, walk-over}
use Rattle.wz_valid_code.proofs.block.check_block.Goals as goal

pub loop-instr-init : goal.loop-instr-init
loop-instr-init c =
    let P : Known → Type 0 = λ k. Walked (outer_rules c.args.scope.now (reverse c.args.labels.now) (λ i. leaf_in c.args.body.now i) c.args.code.now)
    (outer_rules c.args.scope.now (reverse c.args.labels.now) (λ i. leaf_in c.args.body.now i) c.args.code.now) (pushed c.args.before.now []) c.args.results.now k in
    subst P (sym (c.in_ok-give.ensures ∙ ap (λ (k : Known). record { items = pushed c.args.before.now k.items; dead = k.dead }) c.clear.ensures))
    (walk-start (outer_rules c.args.scope.now (reverse c.args.labels.now) (λ i. leaf_in c.args.body.now i) c.args.code.now) c.args.before.now c.args.results.now)

pub returns-then-not-branch : goal.returns-then-not-branch
returns-then-not-branch c =
    let P : List Instr → Type 0 = λ rest. Walked (outer_rules c.args.scope.now (reverse c.args.labels.now) (λ i. leaf_in c.args.body.now i) c.args.code.now)
    (outer_rules c.args.scope.now (reverse c.args.labels.now) (λ i. leaf_in c.args.body.now i) rest) (pushed c.args.before.now []) c.args.results.now c.loop-instr.stack in
    walk-stuck (outer_rules c.args.scope.now (reverse c.args.labels.now) (λ i. leaf_in c.args.body.now i) c.args.code.now)
    (outer_rule c.args.scope.now (reverse c.args.labels.now) (λ i. leaf_in c.args.body.now i) (get_or c.args.code.now c.loop-instr.instr-index Unreachable))
    (outer_rules c.args.scope.now (reverse c.args.labels.now) (λ i. leaf_in c.args.body.now i) (drop (c.loop-instr.instr-index + 1) c.args.code.now))
    (pushed c.args.before.now []) c.args.results.now c.loop-instr.stack
    (subst P (drop_more c.args.code.now c.loop-instr.instr-index Unreachable c.loop-instr-test.true) c.loop-instr.invariant)
    (rw c.if-not-branch.true at c.in_ok-follow.ensures)

pub loop-instr-preserved : goal.loop-instr-preserved
loop-instr-preserved c =
    let P : List Instr → Type 0 = λ rest. Walked (outer_rules c.args.scope.now (reverse c.args.labels.now) (λ i. leaf_in c.args.body.now i) c.args.code.now)
    (outer_rules c.args.scope.now (reverse c.args.labels.now) (λ i. leaf_in c.args.body.now i) rest) (pushed c.args.before.now []) c.args.results.now c.loop-instr.stack in
    walk-step (outer_rules c.args.scope.now (reverse c.args.labels.now) (λ i. leaf_in c.args.body.now i) c.args.code.now)
    (outer_rule c.args.scope.now (reverse c.args.labels.now) (λ i. leaf_in c.args.body.now i) (get_or c.args.code.now c.loop-instr.instr-index Unreachable))
    (outer_rules c.args.scope.now (reverse c.args.labels.now) (λ i. leaf_in c.args.body.now i) (drop (c.loop-instr.instr-index + 1) c.args.code.now))
    (pushed c.args.before.now []) c.args.results.now c.loop-instr.stack c.follow.new.stack
    (subst P (drop_more c.args.code.now c.loop-instr.instr-index Unreachable c.loop-instr-test.true) c.loop-instr.invariant)
    (rw c.if-not-branch.false at c.in_ok-follow.ensures)

pub returns-then-not-take : goal.returns-then-not-take
returns-then-not-take c =
    let P : List Instr → Type 0 = λ rest. Walked (outer_rules c.args.scope.now (reverse c.args.labels.now) (λ i. leaf_in c.args.body.now i) c.args.code.now)
    (outer_rules c.args.scope.now (reverse c.args.labels.now) (λ i. leaf_in c.args.body.now i) rest) (pushed c.args.before.now []) c.args.results.now c.loop-instr.stack in
    walk-short (outer_rules c.args.scope.now (reverse c.args.labels.now) (λ i. leaf_in c.args.body.now i) c.args.code.now) (pushed c.args.before.now []) c.args.results.now
    c.loop-instr.stack
    (subst P (drop_all c.loop-instr.instr-index c.args.code.now (omega arith)) c.loop-instr.invariant)
    (λ left e none. absurd (cc (c.if-not-take.ensures.taken, e)))

pub returns : goal.returns
returns c =
    let P : List Instr → Type 0 = λ rest. Walked (outer_rules c.args.scope.now (reverse c.args.labels.now) (λ i. leaf_in c.args.body.now i) c.args.code.now)
    (outer_rules c.args.scope.now (reverse c.args.labels.now) (λ i. leaf_in c.args.body.now i) rest) (pushed c.args.before.now []) c.args.results.now c.loop-instr.stack in
    walk-over (outer_rules c.args.scope.now (reverse c.args.labels.now) (λ i. leaf_in c.args.body.now i) c.args.code.now) (pushed c.args.before.now []) c.args.results.now
    c.loop-instr.stack c.take.new.self.items c.is_empty.result
    (subst P (drop_all c.loop-instr.instr-index c.args.code.now (omega arith)) c.loop-instr.invariant)
    c.if-not-take.ensures.taken c.is_empty.ensures
