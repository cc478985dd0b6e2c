use Rattle.std.proofs.Common.{ℕ, ◌-◌, Some, ap, sym, ◌∙◌}
use Rattle.wz_plan.specs.declared.runs.Run.{Run}
use Rattle.wz_plan.proofs.AddLemmas.{last_gap-get}
use Rattle.wz_plan.proofs.ranges.gap_before.Goals as goal

pub returns : goal.returns
returns c =
    ap (λ (n : ℕ). let gap : Run = record { at = n; len = c.args.run.at - n } in Some gap) c.end-at.ensures
    ∙ sym (last_gap-get c.args.ranges.now c.args.run c.in_ok-last.field-0.now c.in_ok-last.ensures.value)
