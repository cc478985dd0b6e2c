use Rattle.std.proofs.Common.{◌≡◌, ◌-◌, ◌+◌, ◌<◌, ◌≤◌, ◌∙◌, ap, subst, suc, ℕ, refl, sym, Bool, arith}
use Rattle.std.specs.Bool.{OnTrue, OnFalse}
use Rattle.wz_machine.specs.Advance.{Reaches, ReachesEntry}
use Rattle.wz_init.specs.Run.{RunEnd, Returned, run_from}
use Rattle.wz_init.specs.Turns.{top_term, IsTurned, IsRunning, HasEnded, HasTicked, StopsBy}
use Rattle.wz_init.proofs.TurnLemmas.{reached_run, reached_running, entry_some, entered_run, entered_beyond, entered_running, round_spent, round_then}
use Rattle.wz_init.proofs.run.round.Goals as goal

pub returns-in-Ok-clause-went : goal.returns-in-Ok-clause-went
returns-in-Ok-clause-went g c =
    let s = g.S.Steps.state c.args.machine.now in
    let term = top_term (g.S.Steps.stack c.args.machine.now) in
    let mid = g.S.Steps.state c.advance.new.self in
    let stack = g.S.Steps.stack c.advance.new.self in
    let made = c.in_ok-done.done.made in
    let fuel = c.args.fuel in
    let few : made ≤ fuel = c.in_ok-done.ensures.limit in
    let whole : fuel ≡ made + (fuel - made) = omega (arith, few) in
    let ticked : ReachesEntry made s term mid (top_term stack) =
    subst (λ (b : Bool). HasTicked b made s term mid (top_term stack)) c.if-done.true c.in_ok-done.ensures.made.ticks in
    let some : 0 < made = entry_some made s mid term (top_term stack) ticked in
    let all : made ≡ fuel - (fuel - made) = omega (arith, few) in (
      omega (arith, some, few),
      entered_running made s mid term stack ticked c.requires.running.within c.in_ok-done.ensures.typed c.in_ok-done.ensures.made.alone c.in-Ok.ensures.within c.requires.running.own c.requires.running.holds,
      λ ticks.
          entered_run made s mid term stack ticked c.requires.running.within fuel (fuel - made) whole c.in-Ok.ensures.within ticks
          ∙ ap (λ (n : ℕ). run_from (fuel - made) (ticks + n) mid (top_term stack)) all,
    )

pub returns-in-Err-clause-stopped : goal.returns-in-Err-clause-stopped
returns-in-Err-clause-stopped g c =
    let s = g.S.Steps.state c.args.machine.now in
    let term = top_term (g.S.Steps.stack c.args.machine.now) in
    let mid = g.S.Steps.state c.advance.new.self in
    let stack = g.S.Steps.stack c.advance.new.self in
    let made = c.in_ok-done.done.made in
    let fuel = c.args.fuel in
    let few : made ≤ fuel = c.in_ok-done.ensures.limit in
    let whole : fuel ≡ made + (fuel - made) = omega (arith, few) in
    let ticked : ReachesEntry made s term mid (top_term stack) =
    subst (λ (b : Bool). HasTicked b made s term mid (top_term stack)) c.if-done.true c.in_ok-done.ensures.made.ticks in
    λ ticks.
    entered_beyond made s mid term stack ticked c.requires.running.within fuel (fuel - made) whole c.args.phase c.in-Err.fault c.in-Err.ensures.beyond ticks

pub returns-then-left-eq0-clause-went : goal.returns-then-left-eq0-clause-went
returns-then-left-eq0-clause-went g c =
    let s = g.S.Steps.state c.args.machine.now in
    let term = top_term (g.S.Steps.stack c.args.machine.now) in
    let mid = g.S.Steps.state c.advance.new.self in
    let stack = g.S.Steps.stack c.advance.new.self in
    let made = c.in_ok-done.done.made in
    let fuel = c.args.fuel in
    let few : made ≤ fuel = c.in_ok-done.ensures.limit in
    let whole : fuel ≡ made + (fuel - made) = omega (arith, few) in
    let ticked : Reaches made s term mid (top_term stack) =
    subst (λ (b : Bool). HasTicked b made s term mid (top_term stack)) c.if-done.false c.in_ok-done.ensures.made.ticks in (
      c.requires.some,
      reached_running made s mid term stack ticked c.requires.running.within c.in_ok-done.ensures.typed c.in_ok-done.ensures.made.alone c.requires.running.own c.requires.running.holds,
      λ ticks. round_spent fuel made ticks s mid term (top_term stack) c.if-left-eq0.true few (reached_run made s mid term stack ticked c.requires.running.within fuel (fuel - made) whole ticks),
    )

pub turn-requires : goal.turn-requires
turn-requires g c =
    let s = g.S.Steps.state c.args.machine.now in
    let term = top_term (g.S.Steps.stack c.args.machine.now) in
    let mid = g.S.Steps.state c.advance.new.self in
    let stack = g.S.Steps.stack c.advance.new.self in
    let made = c.in_ok-done.done.made in
    let fuel = c.args.fuel in
    let few : made ≤ fuel = c.in_ok-done.ensures.limit in
    let whole : fuel ≡ made + (fuel - made) = omega (arith, few) in
    let ticked : Reaches made s term mid (top_term stack) =
    subst (λ (b : Bool). HasTicked b made s term mid (top_term stack)) c.if-done.false c.in_ok-done.ensures.made.ticks in
    reached_running made s mid term stack ticked c.requires.running.within c.in_ok-done.ensures.typed c.in_ok-done.ensures.made.alone c.requires.running.own c.requires.running.holds

pub returns-in-Ok-true-clause-went : goal.returns-in-Ok-true-clause-went
returns-in-Ok-true-clause-went g c =
    let s = g.S.Steps.state c.args.machine.now in
    let term = top_term (g.S.Steps.stack c.args.machine.now) in
    let mid = g.S.Steps.state c.advance.new.self in
    let stack = g.S.Steps.stack c.advance.new.self in
    let made = c.in_ok-done.done.made in
    let fuel = c.args.fuel in
    let few : made ≤ fuel = c.in_ok-done.ensures.limit in
    let whole : fuel ≡ made + (fuel - made) = omega (arith, few) in
    let ticked : Reaches made s term mid (top_term stack) =
    subst (λ (b : Bool). HasTicked b made s term mid (top_term stack)) c.if-done.false c.in_ok-done.ensures.made.ticks in
    let last = g.S.Steps.state c.turn.new.machine in
    let now = g.S.Steps.stack c.turn.new.machine in
    let rest = fuel - made - 1 in
    let less : made < fuel = omega (arith, few, c.if-left-eq0.false) in
    let turned = λ (n ticks : ℕ). subst (λ (b : Bool). IsTurned b mid (top_term stack) last now n ticks) c.in-Ok-true.field-0-test (c.in-Ok-true.ensures.turned n ticks) in (
      omega (arith, less),
      subst (λ (b : Bool). OnTrue b (IsRunning last now)) c.in-Ok-true.field-0-test c.in-Ok-true.ensures.running,
      λ ticks.
          let all : ticks + made + 1 ≡ ticks + (fuel - rest) = omega (arith, less) in
          round_then fuel made rest ticks s mid term (top_term stack) (run_from rest (ticks + made + 1) last (top_term now)) refl less (reached_run made s mid term stack ticked c.requires.running.within fuel (fuel - made) whole ticks) (turned rest (ticks + made))
          ∙ ap (λ (n : ℕ). run_from rest n last (top_term now)) all,
    )

pub returns-in-Ok-false-clause-went : goal.returns-in-Ok-false-clause-went
returns-in-Ok-false-clause-went g c =
    let s = g.S.Steps.state c.args.machine.now in
    let term = top_term (g.S.Steps.stack c.args.machine.now) in
    let mid = g.S.Steps.state c.advance.new.self in
    let stack = g.S.Steps.stack c.advance.new.self in
    let made = c.in_ok-done.done.made in
    let fuel = c.args.fuel in
    let few : made ≤ fuel = c.in_ok-done.ensures.limit in
    let whole : fuel ≡ made + (fuel - made) = omega (arith, few) in
    let ticked : Reaches made s term mid (top_term stack) =
    subst (λ (b : Bool). HasTicked b made s term mid (top_term stack)) c.if-done.false c.in_ok-done.ensures.made.ticks in
    let last = g.S.Steps.state c.turn.new.machine in
    let now = g.S.Steps.stack c.turn.new.machine in
    let rest = fuel - made - 1 in
    let less : made < fuel = omega (arith, few, c.if-left-eq0.false) in
    let turned = λ (n ticks : ℕ). subst (λ (b : Bool). IsTurned b mid (top_term stack) last now n ticks) c.in-Ok-false.field-0-test (c.in-Ok-false.ensures.turned n ticks) in (
      omega (arith, less),
      subst (λ (b : Bool). OnFalse b (HasEnded last now)) c.in-Ok-false.field-0-test c.in-Ok-false.ensures.ended,
      λ ticks.
          let all : ticks + made + 1 ≡ ticks + (fuel - rest) = omega (arith, less) in
          round_then fuel made rest ticks s mid term (top_term stack) (Returned last rest (ticks + made + 1)) refl less (reached_run made s mid term stack ticked c.requires.running.within fuel (fuel - made) whole ticks) (turned rest (ticks + made))
          ∙ ap (λ (n : ℕ). Returned last rest n) all,
    )

pub returns-in-Err-turn-clause-stopped : goal.returns-in-Err-turn-clause-stopped
returns-in-Err-turn-clause-stopped g c =
    let s = g.S.Steps.state c.args.machine.now in
    let term = top_term (g.S.Steps.stack c.args.machine.now) in
    let mid = g.S.Steps.state c.advance.new.self in
    let stack = g.S.Steps.stack c.advance.new.self in
    let made = c.in_ok-done.done.made in
    let fuel = c.args.fuel in
    let few : made ≤ fuel = c.in_ok-done.ensures.limit in
    let whole : fuel ≡ made + (fuel - made) = omega (arith, few) in
    let ticked : Reaches made s term mid (top_term stack) =
    subst (λ (b : Bool). HasTicked b made s term mid (top_term stack)) c.if-done.false c.in_ok-done.ensures.made.ticks in
    let last = g.S.Steps.state c.turn.new.machine in
    let now = g.S.Steps.stack c.turn.new.machine in
    let rest = fuel - made - 1 in
    let less : made < fuel = omega (arith, few, c.if-left-eq0.false) in
    λ ticks.
    subst (λ (e : RunEnd). StopsBy c.args.phase e c.in-Err-turn.fault)
    (sym (round_then fuel made rest ticks s mid term (top_term stack) (run_from (suc rest) (ticks + made) mid (top_term stack)) refl less (reached_run made s mid term stack ticked c.requires.running.within fuel (fuel - made) whole ticks) refl))
    (c.in-Err-turn.ensures.stopped rest (ticks + made))
