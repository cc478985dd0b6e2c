use Rattle.std.proofs.Common.{◌≡◌, refl, rules}
use Rattle.std.proofs.lemmas.List.{take_rest}
use Rattle.wz_plan.proofs.LaneLemmas.{holds_in_both, zeros_in_both}
use Rattle.wz_plan.proofs.runs.first_nonzero.Goals as goal

pub returns-in_err-rest-clause-none : goal.returns-in_err-rest-clause-none
returns-in_err-rest-clause-none c = (
  λ none.
      zeros_in_both c.args.bytes.now _ c.zeros_by_lanes-at.result (take_rest c.args.bytes.now c.zeros_by_lanes-at.result)
      c.zeros_by_lanes-at.ensures.within c.zeros_by_lanes-at.ensures.zeros
      (c.in_err-rest.ensures.none.0 refl),
  λ all. search rules,
)

pub returns-clause-before : goal.returns-clause-before
returns-clause-before c =
    holds_in_both (λ byte. byte ≡ 0) c.args.bytes.now _ c.zeros_by_lanes-at.result c.in_ok-rest.rest
    (take_rest c.args.bytes.now c.zeros_by_lanes-at.result)
    c.zeros_by_lanes-at.ensures.zeros c.in_ok-rest.ensures.before
