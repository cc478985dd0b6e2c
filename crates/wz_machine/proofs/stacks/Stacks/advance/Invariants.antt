use Rattle.std.proofs.Common.{◌≤◌, ◌-◌}
use Rattle.wz_machine.specs.State.{state_of}
use Rattle.wz_machine.specs.Stacks.{stacks_term}
use Rattle.wz_machine.specs.Advance.{Reaches}
use Rattle.wz_machine.proofs.stacks.Stacks.advance.Given as goal

abbrev pub invariant-loop-left : goal.invariant-loop-left
invariant-loop-left g l = record {
  few : l.left ≤ l.limit;
  ran : Reaches (l.limit - l.left) (state_of l.bodies l.initial.store) (stacks_term l.initial.self) (state_of l.bodies l.store) (stacks_term l.self);
}

abbrev pub decreases-loop-left : goal.decreases-loop-left
decreases-loop-left g l = l.left
