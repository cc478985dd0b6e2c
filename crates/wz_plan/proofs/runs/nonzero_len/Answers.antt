use Rattle.std.proofs.Common.{◌≡◌}
use Rattle.std.proofs.lemmas.List.{take_rest}
use Rattle.wz_plan.proofs.LaneLemmas.{holds_in_both}
use Rattle.wz_plan.proofs.runs.nonzero_len.Goals as goal

pub returns-clause-before : goal.returns-clause-before
returns-clause-before c =
    holds_in_both (λ byte. byte ≡ 0 → ⊥) c.args.bytes.now _ c.nonzeros_by_lanes-at.result c.nonzero_len_by_byte.result
    (take_rest c.args.bytes.now c.nonzeros_by_lanes-at.result)
    c.nonzeros_by_lanes-at.ensures.nonzeros c.nonzero_len_by_byte.ensures.before
