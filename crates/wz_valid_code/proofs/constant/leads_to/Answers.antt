use Rattle.std.proofs.Common.{sym, subst, drop, get_or, List, ◌+◌, [], ◌∷◌, arith}
use Rattle.std.proofs.lemmas.List.{drop_more, drop_all}
use Rattle.wz_code.specs.declared.instr.Instr.{Instr}
use Rattle.wz_code.specs.declared.instr.Instr.TheVariants.{Unreachable}
use Rattle.wz_valid_code.specs.ConstantInstructions.{constant_instr_rule}
use Rattle.wz_valid_code.specs.Checking.{Known}
use Rattle.wz_valid_code.specs.Blocks.{constant_rules}
use Rattle.wz_valid_code.proofs.WalkLemmas.{Walked, walk-start, walk-step, walk-stuck, walk-short, walk-over}
use Rattle.wz_valid_code.proofs.constant.leads_to.Goals as goal

pub loop-instr-init : goal.loop-instr-init
loop-instr-init c =
    let P : Known → Type 0 = λ k. Walked (constant_rules c.args.context.now c.args.code.now) (constant_rules c.args.context.now c.args.code.now) [] (c.args.kind ∷ []) k in
    subst P (sym c.new-stack.ensures) (walk-start (constant_rules c.args.context.now c.args.code.now) [] (c.args.kind ∷ []))

pub returns-then-not-branch : goal.returns-then-not-branch
returns-then-not-branch c =
    let P : List Instr → Type 0 = λ rest. Walked (constant_rules c.args.context.now c.args.code.now) (constant_rules c.args.context.now rest) [] (c.args.kind ∷ [])
    c.loop-instr.stack in
    walk-stuck (constant_rules c.args.context.now c.args.code.now) (constant_instr_rule c.args.context.now (get_or c.args.code.now c.loop-instr.instr-index Unreachable))
    (constant_rules c.args.context.now (drop (c.loop-instr.instr-index + 1) c.args.code.now)) [] (c.args.kind ∷ []) c.loop-instr.stack
    (subst P (drop_more c.args.code.now c.loop-instr.instr-index Unreachable c.loop-instr-test.true) c.loop-instr.invariant)
    (rw c.if-not-branch.true at c.in_ok-follow_constant.ensures)

pub loop-instr-preserved : goal.loop-instr-preserved
loop-instr-preserved c =
    let P : List Instr → Type 0 = λ rest. Walked (constant_rules c.args.context.now c.args.code.now) (constant_rules c.args.context.now rest) [] (c.args.kind ∷ [])
    c.loop-instr.stack in
    walk-step (constant_rules c.args.context.now c.args.code.now) (constant_instr_rule c.args.context.now (get_or c.args.code.now c.loop-instr.instr-index Unreachable))
    (constant_rules c.args.context.now (drop (c.loop-instr.instr-index + 1) c.args.code.now)) [] (c.args.kind ∷ []) c.loop-instr.stack c.follow_constant.new.stack
    (subst P (drop_more c.args.code.now c.loop-instr.instr-index Unreachable c.loop-instr-test.true) c.loop-instr.invariant)
    (rw c.if-not-branch.false at c.in_ok-follow_constant.ensures)

pub returns-then-not-take_one : goal.returns-then-not-take_one
returns-then-not-take_one c =
    let P : List Instr → Type 0 = λ rest. Walked (constant_rules c.args.context.now c.args.code.now) (constant_rules c.args.context.now rest) [] (c.args.kind ∷ [])
    c.loop-instr.stack in
    walk-short (constant_rules c.args.context.now c.args.code.now) [] (c.args.kind ∷ []) c.loop-instr.stack
    (subst P (drop_all c.loop-instr.instr-index c.args.code.now (omega arith)) c.loop-instr.invariant)
    (λ left e none. absurd (cc (c.if-not-take_one.ensures.taken, e)))

pub returns : goal.returns
returns c =
    let P : List Instr → Type 0 = λ rest. Walked (constant_rules c.args.context.now c.args.code.now) (constant_rules c.args.context.now rest) [] (c.args.kind ∷ [])
    c.loop-instr.stack in
    walk-over (constant_rules c.args.context.now c.args.code.now) [] (c.args.kind ∷ []) c.loop-instr.stack c.take_one.new.self.items c.is_empty.result
    (subst P (drop_all c.loop-instr.instr-index c.args.code.now (omega arith)) c.loop-instr.invariant)
    c.if-not-take_one.ensures.taken c.is_empty.ensures
