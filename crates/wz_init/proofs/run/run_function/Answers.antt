use Rattle.std.proofs.Common.{◌≡◌, ◌-◌, ◌+◌, ◌∙◌, IfOk, IfErr, ap, subst, sym}
use Rattle.wz_machine.specs.State.{State, callable_at}
use Rattle.wz_machine.specs.Terms.{Runs}
use Rattle.wz_init.specs.declared.turn.Entered.{Entered}
use Rattle.wz_init.specs.declared.turn.Entered.TheVariants as entry
use Rattle.wz_init.specs.Run.{RunEnd, Returned, run_from}
use Rattle.wz_init.specs.Reached.{HoldsOwn}
use Rattle.wz_init.specs.Turns.{top_term, IsEntered, StopsBy}
use Rattle.wz_init.proofs.LeftLemmas.{entered_own}
use Rattle.wz_init.proofs.RunLemmas.{run_own, run_import}
use Rattle.wz_init.proofs.run.run_function.Goals as goal

pub run_term-requires : goal.run_term-requires
run_term-requires g c =
    let s = g.S.Steps.state c.args.machine.now in
    let after = g.S.Steps.state c.enter.new.self in
    let stack = g.S.Steps.stack c.enter.new.self in
    let entry_is : IsEntered s c.args.function entry.Own after stack =
    subst (λ (e : Entered). IsEntered s c.args.function e after stack) c.in-Own.is c.in_ok-enter.ensures.entered in
    record {
      typed = c.in_ok-enter.ensures.typed;
      alone = entry_is.2;
      within = c.requires.small c.args.function (top_term stack) entry_is.0;
      own = subst (λ (x : State). HoldsOwn x) (sym entry_is.1) c.requires.ended.own;
      holds = entered_own s (callable_at s.types s.functions c.args.function) (Runs (top_term stack)) entry_is.0;
    }

pub returns-in-Own-clause-returned : goal.returns-in-Own-clause-returned
returns-in-Own-clause-returned g c =
    let s = g.S.Steps.state c.args.machine.now in
    let after = g.S.Steps.state c.enter.new.self in
    let stack = g.S.Steps.stack c.enter.new.self in
    let fuel = c.args.fuel in
    let entry_is : IsEntered s c.args.function entry.Own after stack =
    subst (λ (e : Entered). IsEntered s c.args.function e after stack) c.in-Own.is c.in_ok-enter.ensures.entered in
    λ ticks.
    subst (λ (e : RunEnd). IfOk c.run_term.result (λ left. e ≡ Returned (g.S.Steps.state c.run_term.new.machine) left (ticks + (fuel - left))))
    (sym (run_own s c.args.function fuel ticks (top_term stack) entry_is.0 ∙ ap (λ (x : State). run_from fuel ticks x (top_term stack)) (sym entry_is.1)))
    (c.run_term.ensures.returned ticks)

pub returns-in-Own-clause-stopped : goal.returns-in-Own-clause-stopped
returns-in-Own-clause-stopped g c =
    let s = g.S.Steps.state c.args.machine.now in
    let after = g.S.Steps.state c.enter.new.self in
    let stack = g.S.Steps.stack c.enter.new.self in
    let fuel = c.args.fuel in
    let entry_is : IsEntered s c.args.function entry.Own after stack =
    subst (λ (e : Entered). IsEntered s c.args.function e after stack) c.in-Own.is c.in_ok-enter.ensures.entered in
    λ ticks.
    subst (λ (e : RunEnd). IfErr c.run_term.result (λ fault. StopsBy c.args.phase e fault))
    (sym (run_own s c.args.function fuel ticks (top_term stack) entry_is.0 ∙ ap (λ (x : State). run_from fuel ticks x (top_term stack)) (sym entry_is.1)))
    (c.run_term.ensures.stopped ticks)

pub returns-in-Import-clause-stopped : goal.returns-in-Import-clause-stopped
returns-in-Import-clause-stopped g c =
    let s = g.S.Steps.state c.args.machine.now in
    let after = g.S.Steps.state c.enter.new.self in
    let stack = g.S.Steps.stack c.enter.new.self in
    let entry_is : IsEntered s c.args.function (entry.Import c.in-Import.import) after stack =
    subst (λ (e : Entered). IsEntered s c.args.function e after stack) c.in-Import.is c.in_ok-enter.ensures.entered in
    λ ticks. run_import s c.args.function c.args.fuel ticks c.in-Import.import entry_is.0 entry_is.1 entry_is.2
