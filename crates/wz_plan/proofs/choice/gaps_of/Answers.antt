use Rattle.std.proofs.Common.{◌≡◌, ◌≤◌, ◌+◌, ◌-◌, ◌++◌, drop, get_or, arith, ap, subst, sym, ◌∙◌, append-nil}
use Rattle.std.proofs.lemmas.List.{length-drop}
use Rattle.wz_plan.specs.declared.runs.Run.{Run}
use Rattle.wz_plan.specs.Ranges.{end_of}
use Rattle.wz_plan.proofs.ChoiceLemmas.{gaps_none, rises_at}
use Rattle.wz_plan.proofs.choice.gaps_of.Goals as goal

pub overflow_sub-runs : goal.overflow_sub-runs
overflow_sub-runs c =
    let d : Run = record { at = 0; len = 0 } in
    let next : c.loop-i.i - 1 + 1 ≡ c.loop-i.i = omega arith in
    let above = subst (λ n. end_of (get_or c.args.runs.now (c.loop-i.i - 1) d) + 9 ≤ (get_or c.args.runs.now n d).at) next
    (rises_at 9 0 c.args.runs.now (c.loop-i.i - 1) d c.requires.apart (omega arith)) in
    omega arith

pub returns : goal.returns
returns c =
    sym (append-nil c.loop-i.found.items)
    ∙ ap (λ l. c.loop-i.found.items ++ l) (sym (gaps_none (drop (c.loop-i.i - 1) c.args.runs.now) (omega (arith, length-drop (c.loop-i.i - 1) c.args.runs.now))))
    ∙ c.loop-i.invariant
