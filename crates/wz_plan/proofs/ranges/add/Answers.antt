use Rattle.std.proofs.Common.{◌≡◌, ◌+◌, length, set, arith, sym, ap, ◌∙◌}
use Rattle.wz_plan.specs.Ranges.{hull}
use Rattle.wz_plan.specs.Collected.{added}
use Rattle.wz_plan.proofs.AddLemmas.{added-merged, added-cut, added-empty}
use Rattle.wz_plan.proofs.ranges.add.Goals as goal
use Rattle.wz_plan.proofs.ranges.add.Goals.{in_default-via-in-Some+else-not-cut, in_default-via-in_default}

pub returns-in-Some-clause-added : goal.returns-in-Some-clause-added
returns-in-Some-clause-added c =
    let size : length c.args.ranges.now.items ≡ c.in-Some.last + 1 = grind (arith, c.in-Some.ensures) in
    ap (λ x. set c.args.ranges.now.items c.in-Some.last x) (c.up_to.ensures ∙ ap (λ x. hull x c.args.run) c.index.ensures)
    ∙ sym (added-merged c.args.ranges.now.items c.args.run c.index.result.now c.in-Some.last size)
    ∙ ap (λ b. added (λ _. b) c.args.ranges.now.items c.args.run) (sym c.if-not-cut.true)

pub returns-in_ok-push-in_default-clause-added : goal.returns-in_ok-push-in_default-clause-added
returns-in_ok-push-in_default-clause-added c =
    c.in_ok-push-in_default.ensures.items ∙ elim c.in_default.branch [
      | in_default-via-in-Some+else-not-cut w ↦
          sym (ap (λ b. added (λ _. b) c.args.ranges.now.items c.args.run) w.if-not-cut.false ∙ added-cut c.args.ranges.now.items c.args.run)
      | in_default-via-in_default w ↦
          sym (added-empty (λ _. c.args.cut) c.args.ranges.now.items c.args.run (grind (arith, w.in_default.ensures)))
    ]
