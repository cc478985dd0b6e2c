use Rattle.std.proofs.Common.{◌≡◌, ◌+◌, ◌<◌, not, length, arith, ap, ◌∙◌, rules}
use Rattle.std.specs.Bool.{nat_lt}
use Rattle.std.specs.Ordering.{is_lt, ordering_then, nat_cmp}
use Rattle.std.specs.List.Sorted.{IsSortedBy}
use Rattle.std.proofs.lemmas.Grind.{common_steps}
use Rattle.std.proofs.lemmas.List.Sorted.{answers_always}
use Rattle.wz_plan.specs.Ranges.{gaps}
use Rattle.wz_plan.specs.Plan.{goes_before, rank}
use Rattle.wz_plan.proofs.ChoiceLemmas.{decides_up_to, compared, order_is_weak}
use Rattle.wz_plan.proofs.choice.cuts_of.Goals as goal

pub returns : goal.returns
returns c = λ gap.
    let count : c.in-Some.last + 1 ≡ c.args.count = grind (arith, c.in-Some.ensures) in
    let sorted : IsSortedBy goes_before c.sort_by.new.self.items =
    c.in_ok-sort_by.ensures.sorted goes_before order_is_weak (answers_always _ _ _
    (λ f a r g h.
    let said : r ≡ ordering_then (nat_cmp a.1.0.now.len a.0.now.len) (nat_cmp a.0.now.at a.1.0.now.at) = search rules in
    ap is_lt said ∙ compared a.0.now a.1.0.now)) in
    let within : c.in-Some.last < length c.sort_by.new.self.items = grind (arith, common_steps, c.in_ok-sort_by.ensures.len) in
    ap (λ x. not (goes_before x gap)) c.index.ensures
    ∙ decides_up_to c.in_ok-order.order.items c.sort_by.new.self.items c.in-Some.last c.index.result.now gap c.in_ok-sort_by.ensures.permutation sorted within
    ∙ ap (λ l. nat_lt (rank l gap) (c.in-Some.last + 1)) c.in_ok-order.ensures
    ∙ ap (λ n. nat_lt (rank (gaps c.args.runs.now) gap) n) count
