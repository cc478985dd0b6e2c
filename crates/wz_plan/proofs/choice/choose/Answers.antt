use Rattle.std.proofs.Common.{length, ◌+◌, ◌++◌, [], ◌∷◌, take, get_or, arith, ap, subst, sym, ◌∙◌}
use Rattle.std.proofs.lemmas.List.{take_more, take_all}
use Rattle.wz_plan.specs.declared.runs.Run.{Run}
use Rattle.wz_plan.specs.Ranges.{RisesFrom, EndsBy, with_gaps_merged}
use Rattle.wz_plan.specs.Plan.{chosen}
use Rattle.wz_plan.specs.Least.{IsLeast}
use Rattle.wz_plan.specs.Collected.{cuts_gap, added}
use Rattle.wz_plan.proofs.JoinLemmas.{joined-push}
use Rattle.wz_plan.proofs.PlanLemmas.{choice_is_plan}
use Rattle.wz_plan.proofs.ScanLemmas.{rises_weaker, added-if_read}
use Rattle.wz_plan.proofs.FewLemmas.{chosen_is_few}
use Rattle.wz_plan.proofs.LeastLemmas.{plan_is_least}
use Rattle.wz_plan.proofs.ChoiceLemmas.{joined_ends, rises_take, chosen_is}
use Rattle.wz_plan.proofs.choice.choose.Goals as goal

pub is_cut_before-cut-requires : goal.is_cut_before-cut-requires
is_cut_before-cut-requires c =
    let d : Run = record { at = 0; len = 0 } in
    subst (EndsBy (get_or c.args.runs.now c.loop-run.run-index d).at) (sym (c.deref.ensures.value ∙ c.loop-run.invariant))
    (joined_ends (cuts_gap c.in_ok-cuts.cuts) c.args.runs.now c.loop-run.run-index d
    (rises_weaker 9 0 0 c.args.runs.now (omega arith) c.requires.apart) c.loop-run-test.true)

pub add-requires-clause-behind : goal.add-requires-clause-behind
add-requires-clause-behind c =
    let d : Run = record { at = 0; len = 0 } in
    subst (EndsBy (get_or c.args.runs.now c.loop-run.run-index d).at) (sym c.loop-run.invariant)
    (joined_ends (cuts_gap c.in_ok-cuts.cuts) c.args.runs.now c.loop-run.run-index d
    (rises_weaker 9 0 0 c.args.runs.now (omega arith) c.requires.apart) c.loop-run-test.true)

pub loop-run-preserved : goal.loop-run-preserved
loop-run-preserved c =
    let d : Run = record { at = 0; len = 0 } in
    let run : Run = get_or c.args.runs.now c.loop-run.run-index d in
    let more = take_more c.args.runs.now c.loop-run.run-index d c.loop-run-test.true in
    let rises : RisesFrom 0 0 (take c.loop-run.run-index c.args.runs.now ++ run ∷ []) =
    subst (RisesFrom 0 0) more
    (rises_take 0 0 (c.loop-run.run-index + 1) c.args.runs.now (rises_weaker 9 0 0 c.args.runs.now (omega arith) c.requires.apart)) in
    c.in_ok-add.ensures.added
    ∙ added-if_read (cuts_gap c.in_ok-cuts.cuts) c.is_cut_before-cut.result c.loop-run.ranges.items c.deref.result.now run c.deref.ensures.value c.is_cut_before-cut.ensures
    ∙ ap (λ l. added (cuts_gap c.in_ok-cuts.cuts) l run) c.loop-run.invariant
    ∙ sym (joined-push (cuts_gap c.in_ok-cuts.cuts) 0 (take c.loop-run.run-index c.args.runs.now) run rises)
    ∙ ap (with_gaps_merged (cuts_gap c.in_ok-cuts.cuts)) (sym more)

pub returns-clause-chosen : goal.returns-clause-chosen
returns-clause-chosen c =
    c.loop-run.invariant
    ∙ ap (with_gaps_merged (cuts_gap c.in_ok-cuts.cuts)) (take_all c.loop-run.run-index c.args.runs.now (omega arith))
    ∙ chosen_is (cuts_gap c.in_ok-cuts.cuts) c.args.runs.now c.args.limit c.requires.apart c.in_ok-cuts.ensures

pub returns-clause-few : goal.returns-clause-few
returns-clause-few c =
    let is = c.loop-run.invariant
    ∙ ap (with_gaps_merged (cuts_gap c.in_ok-cuts.cuts)) (take_all c.loop-run.run-index c.args.runs.now (omega arith))
    ∙ chosen_is (cuts_gap c.in_ok-cuts.cuts) c.args.runs.now c.args.limit c.requires.apart c.in_ok-cuts.ensures in
    omega (
      arith,
      ap length is,
      chosen_is_few c.args.runs.now c.args.limit c.requires.some (rises_weaker 9 1 0 c.args.runs.now (omega arith) c.requires.apart),
    )

pub returns-clause-plan : goal.returns-clause-plan
returns-clause-plan c = λ bytes is.
    c.loop-run.invariant
    ∙ ap (with_gaps_merged (cuts_gap c.in_ok-cuts.cuts)) (take_all c.loop-run.run-index c.args.runs.now (omega arith))
    ∙ chosen_is (cuts_gap c.in_ok-cuts.cuts) c.args.runs.now c.args.limit c.requires.apart c.in_ok-cuts.ensures
    ∙ ap (λ l. chosen l c.args.limit) is
    ∙ choice_is_plan bytes c.args.limit

pub returns-clause-least : goal.returns-clause-least
returns-clause-least c = λ bytes is.
    subst (IsLeast bytes c.args.limit)
    (sym (c.loop-run.invariant
    ∙ ap (with_gaps_merged (cuts_gap c.in_ok-cuts.cuts)) (take_all c.loop-run.run-index c.args.runs.now (omega arith))
    ∙ chosen_is (cuts_gap c.in_ok-cuts.cuts) c.args.runs.now c.args.limit c.requires.apart c.in_ok-cuts.ensures
    ∙ ap (λ l. chosen l c.args.limit) is
    ∙ choice_is_plan bytes c.args.limit))
    (plan_is_least bytes c.args.limit c.requires.some)
