use Rattle.std.proofs.Common.{◌≡◌, ◌-◌, ◌+◌, ◌≤◌, ◌∷◌, ◌++◌, [], ℕ, List, subst, sym, ap, ◌∙◌, arith}
use Rattle.wz_init.specs.declared.order.Phase.{Phase}
use Rattle.wz_init.specs.declared.order.Phase.TheVariants as phase
use Rattle.wz_init.specs.Ready.{Ready, Reached, phase_of, IsFaultOf}
use Rattle.wz_init.proofs.PhaseLemmas.{no_phase}
use Rattle.wz_init.proofs.phases.run_phases.Goals as goal

pub returns-in-Err-clause-refused : goal.returns-in-Err-clause-refused
returns-in-Err-clause-refused g c =
    let last : List (Phase × ℕ) = (phase.Init, c.args.order.now.function) ∷ [] in
    c.in-Err.ensures.stopped 0 (phase_of phase.Reactor c.args.order.now.reactor ++ last)

pub returns-in-Err-run_phase-clause-refused : goal.returns-in-Err-run_phase-clause-refused
returns-in-Err-run_phase-clause-refused g c =
    let last : List (Phase × ℕ) = (phase.Init, c.args.order.now.function) ∷ [] in
    let fuel = c.args.order.now.fuel in
    subst (λ (e : Ready). IsFaultOf e c.in-Err-run_phase.fault)
    (sym (c.in-Ok.ensures.returned 0 (phase_of phase.Reactor c.args.order.now.reactor ++ last)))
    (c.in-Err-run_phase.ensures.stopped (0 + (fuel - c.in-Ok.left)) last)

pub returns-in-Ok-run_phase-2-clause-reached : goal.returns-in-Ok-run_phase-2-clause-reached
returns-in-Ok-run_phase-2-clause-reached g c =
    let last : List (Phase × ℕ) = (phase.Init, c.args.order.now.function) ∷ [] in
    let fuel = c.args.order.now.fuel in
    let first = c.in-Ok.left in
    let second = c.in-Ok-run_phase.left in
    let left = c.in-Ok-run_phase-2.left in
    let made = 0 + (fuel - first) + (first - second) in
    let one : first ≤ fuel = c.in-Ok.ensures.left in
    let two : second ≤ first = c.in-Ok-run_phase.ensures.left in
    let three : left ≤ second = c.in-Ok-run_phase-2.ensures.left in
    let all : made + (second - left) ≡ fuel - left = omega (arith, one, two, three) in
    let now = g.S.Steps.state c.run_phase-3.new.machine in
    c.in-Ok.ensures.returned 0 (phase_of phase.Reactor c.args.order.now.reactor ++ last) ∙ c.in-Ok-run_phase.ensures.returned (0 + (fuel - first)) last
    ∙ c.in-Ok-run_phase-2.ensures.returned made [] ∙ no_phase now left (made + (second - left)) ∙ ap (λ (n : ℕ). Reached now n) all

pub returns-in-Err-run_phase-2-clause-refused : goal.returns-in-Err-run_phase-2-clause-refused
returns-in-Err-run_phase-2-clause-refused g c =
    let last : List (Phase × ℕ) = (phase.Init, c.args.order.now.function) ∷ [] in
    let fuel = c.args.order.now.fuel in
    let first = c.in-Ok.left in
    let second = c.in-Ok-run_phase.left in
    let made = 0 + (fuel - first) + (first - second) in
    subst (λ (e : Ready). IsFaultOf e c.in-Err-run_phase-2.fault)
    (sym (c.in-Ok.ensures.returned 0 (phase_of phase.Reactor c.args.order.now.reactor ++ last) ∙ c.in-Ok-run_phase.ensures.returned (0 + (fuel - first)) last))
    (c.in-Err-run_phase-2.ensures.stopped made [])
