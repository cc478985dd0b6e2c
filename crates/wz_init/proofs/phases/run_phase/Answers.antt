use Rattle.std.proofs.Common.{◌≡◌, ◌-◌, ◌+◌, ◌∷◌, ◌++◌, ℕ, Option, IfOk, IfErr, subst, sym}
use Rattle.wz_init.specs.Reached.{IsSound}
use Rattle.wz_init.specs.Run.{Returned, run}
use Rattle.wz_init.specs.Ready.{phase_of, phases_run, IsFaultOf}
use Rattle.wz_init.specs.Turns.{FunctionsAreSmall, KeepsTakingNothing, StopsBy}
use Rattle.wz_init.proofs.PhaseLemmas.{ok_on, err_on, sound_on, small_on, taken_on, phase_returns, phase_stops}
use Rattle.wz_init.proofs.phases.run_phase.Goals as goal

pub returns-in-Some-clause-sound : goal.returns-in-Some-clause-sound
returns-in-Some-clause-sound g c =
    let s = g.S.Steps.state c.args.machine.now in
    let last = g.S.Steps.state c.run_function.new.machine in
    let fuel = c.args.fuel in
    ok_on c.run_function.result (λ left. run s c.in-Some.function fuel 0 ≡ Returned last left (0 + (fuel - left))) (λ left. IsSound last)
    (λ left ran. sound_on s c.in-Some.function fuel 0 last left (0 + (fuel - left)) c.requires.sound ran) (c.run_function.ensures.returned 0)

pub returns-in-Some-clause-small : goal.returns-in-Some-clause-small
returns-in-Some-clause-small g c =
    let s = g.S.Steps.state c.args.machine.now in
    let last = g.S.Steps.state c.run_function.new.machine in
    let fuel = c.args.fuel in
    ok_on c.run_function.result (λ left. run s c.in-Some.function fuel 0 ≡ Returned last left (0 + (fuel - left))) (λ left. FunctionsAreSmall last)
    (λ left ran. small_on s c.in-Some.function fuel 0 last left (0 + (fuel - left)) c.requires.sound c.requires.small ran) (c.run_function.ensures.returned 0)

pub returns-in-Some-clause-returned : goal.returns-in-Some-clause-returned
returns-in-Some-clause-returned g c =
    let s = g.S.Steps.state c.args.machine.now in
    let last = g.S.Steps.state c.run_function.new.machine in
    let fuel = c.args.fuel in
    λ ticks later.
    subst (λ (o : Option ℕ). IfOk c.run_function.result (λ left. phases_run (phase_of c.args.phase o ++ later) s fuel ticks ≡ phases_run later last left (ticks + (fuel - left))))
    (sym c.in-Some.is)
    (ok_on c.run_function.result (λ left. run s c.in-Some.function fuel ticks ≡ Returned last left (ticks + (fuel - left)))
    (λ left. phases_run ((c.args.phase, c.in-Some.function) ∷ later) s fuel ticks ≡ phases_run later last left (ticks + (fuel - left)))
    (λ left ran. phase_returns c.args.phase c.in-Some.function later s fuel ticks last left (ticks + (fuel - left)) ran) (c.run_function.ensures.returned ticks))

pub returns-in-Some-clause-stopped : goal.returns-in-Some-clause-stopped
returns-in-Some-clause-stopped g c =
    let s = g.S.Steps.state c.args.machine.now in
    let fuel = c.args.fuel in
    λ ticks later.
    subst (λ (o : Option ℕ). IfErr c.run_function.result (λ fault. IsFaultOf (phases_run (phase_of c.args.phase o ++ later) s fuel ticks) fault)) (sym c.in-Some.is)
    (err_on c.run_function.result (λ fault. StopsBy c.args.phase (run s c.in-Some.function fuel ticks) fault)
    (λ fault. IsFaultOf (phases_run ((c.args.phase, c.in-Some.function) ∷ later) s fuel ticks) fault)
    (λ fault h. phase_stops c.args.phase c.in-Some.function later s fuel ticks fault h) (c.run_function.ensures.stopped ticks))

pub returns-in-Some-clause-taken : goal.returns-in-Some-clause-taken
returns-in-Some-clause-taken g c =
    let s = g.S.Steps.state c.args.machine.now in
    let last = g.S.Steps.state c.run_function.new.machine in
    let fuel = c.args.fuel in
    ok_on c.run_function.result (λ left. run s c.in-Some.function fuel 0 ≡ Returned last left (0 + (fuel - left))) (λ left. KeepsTakingNothing s last)
    (λ left ran. taken_on s c.in-Some.function fuel 0 last left (0 + (fuel - left)) c.requires.sound ran) (c.run_function.ensures.returned 0)
