use Rattle.std.proofs.Common.{◌≡◌, ◌≤◌, ◌+◌, ◌-◌, ℕ}
use Rattle.wz_init.specs.Run.{run_from}
use Rattle.wz_init.specs.Turns.{top_term, IsRunning}
use Rattle.wz_init.proofs.run.run_term.Given as goal

abbrev pub invariant-loop-left : goal.invariant-loop-left
invariant-loop-left g l = record {
  running : IsRunning (g.S.Steps.state l.machine) (g.S.Steps.stack l.machine);
  bodies : g.S.Steps.bodies l.machine ≡ g.S.Steps.bodies l.initial.machine;
  few : l.left ≤ l.fuel;
  same : (ticks : ℕ) → run_from l.fuel ticks (g.S.Steps.state l.initial.machine) (top_term (g.S.Steps.stack l.initial.machine))
      ≡ run_from l.left (ticks + (l.fuel - l.left)) (g.S.Steps.state l.machine) (top_term (g.S.Steps.stack l.machine));
}

abbrev pub decreases-loop-left : goal.decreases-loop-left
decreases-loop-left g l = l.left
