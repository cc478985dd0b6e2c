use Rattle.std.proofs.Common.{◌≡◌, ◌-◌, ◌+◌, ◌∙◌, ℕ, ap, subst, sym, arith}
use Rattle.wz_init.specs.Run.{RunEnd, run_from}
use Rattle.wz_init.specs.Turns.{top_term, StopsBy}
use Rattle.wz_init.proofs.RunLemmas.{run_spent}
use Rattle.wz_init.proofs.run.run_term.Goals as goal

pub returns-in-Err-clause-stopped : goal.returns-in-Err-clause-stopped
returns-in-Err-clause-stopped g c =
    λ ticks.
    subst (λ (e : RunEnd). StopsBy c.args.phase e c.in-Err.fault) (sym (c.loop-left.invariant.same ticks)) (c.in-Err.ensures.stopped (ticks + (c.args.fuel - c.loop-left.left)))

pub returns-clause-stopped : goal.returns-clause-stopped
returns-clause-stopped g c =
    let s = g.S.Steps.state c.loop-left.machine in
    let term = top_term (g.S.Steps.stack c.loop-left.machine) in
    let none : c.loop-left.left ≡ 0 = omega arith in
    λ ticks.
    c.loop-left.invariant.same ticks ∙ ap (λ (n : ℕ). run_from n (ticks + (c.args.fuel - c.loop-left.left)) s term) none
    ∙ run_spent (ticks + (c.args.fuel - c.loop-left.left)) s term
