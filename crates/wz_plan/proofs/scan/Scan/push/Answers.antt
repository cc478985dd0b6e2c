use Rattle.std.proofs.Common.{◌≡◌, ◌+◌, List, length, arith, ap, subst, sym, ◌∙◌}
use Rattle.wz_plan.specs.declared.runs.Run.{Run}
use Rattle.wz_plan.specs.Ranges.{RisesFrom}
use Rattle.wz_plan.specs.Scanned.{Found, found_in, found_after}
use Rattle.wz_plan.proofs.ScanLemmas.{scan_rises, ends_higher}
use Rattle.wz_plan.proofs.PlanLemmas.{finds_more}
use Rattle.wz_plan.proofs.scan.Scan.push.Goals as goal

pub invariant_of-self-2 : goal.invariant_of-self-2
invariant_of-self-2 c =
    let same : c.self.inside.end ≡ c.args.self.now.end = ap (λ (found : Found). found.end) c.self.view_is in
    record {
      apart = subst (RisesFrom 9 0) (sym c.in_ok-push_runs.ensures.merged)
          (scan_rises c.self.inside.runs.items c.args.at c.args.bytes.now c.self.invariant.apart
          (ends_higher c.self.inside.end c.args.at c.self.inside.runs.items (omega arith) c.self.invariant.ends));
      ends = c.in_ok-push_runs.ensures.ends;
      small = c.requires.small;
    }

pub returns-clause-found : goal.returns-clause-found
unfolding found_after
returns-clause-found c = rw (← c.self.view_is)
    (ap (λ (ranges : List Run). let found : Found = record { runs = ranges; end = c.args.at + length c.args.bytes.now } in found)
    c.in_ok-push_runs.ensures.merged)

pub returns-clause-together : goal.returns-clause-together
unfolding found_after found_in
returns-clause-together c = λ before is.
    let size : c.args.self.now.end ≡ length before = ap (λ (found : Found). found.end) is in
    (rw (← c.self.view_is)
    (ap (λ (ranges : List Run). let found : Found = record { runs = ranges; end = c.args.at + length c.args.bytes.now } in found)
    c.in_ok-push_runs.ensures.merged))
    ∙ ap (λ (found : Found). found_after found c.args.at c.args.bytes.now) is
    ∙ finds_more before c.args.at c.args.bytes.now (omega arith)
