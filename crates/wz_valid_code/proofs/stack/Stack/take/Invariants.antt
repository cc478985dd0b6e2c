use Rattle.std.proofs.Common.{◌≡◌, ◌≤◌, take, reverse, length}
use Rattle.wz_valid_code.specs.Checking.{after_taking}
use Rattle.wz_valid_code.proofs.stack.Stack.take.Given as goal

abbrev pub invariant-loop-left : goal.invariant-loop-left
invariant-loop-left l = record {
  within : l.left ≤ length l.types;
  same : l.self.dead ≡ l.initial.self.dead;
  rest : after_taking (reverse l.types) l.initial.self.items l.initial.self.dead ≡ after_taking (reverse (take l.left l.types)) l.self.items l.self.dead;
}

abbrev pub decreases-loop-left : goal.decreases-loop-left
decreases-loop-left l = l.left
