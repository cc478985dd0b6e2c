use Rattle.std.proofs.Common.{◌≡◌, ◌≤◌, take, reverse, length}
use Rattle.std.specs.Prelude.{is_some}
use Rattle.wz_valid_code.specs.Checking.{after_taking}
use Rattle.wz_valid_code.proofs.stack.Stack.offers.Given as goal

abbrev pub invariant-loop-left : goal.invariant-loop-left
invariant-loop-left l = record {
  within : l.left ≤ length l.types;
  under : l.below ≤ length l.self-inside.items.items;
  rest : is_some (after_taking (reverse l.types) (reverse l.self-inside.items.items) l.self-inside.dead)
      ≡ is_some (after_taking (reverse (take l.left l.types)) (reverse (take l.below l.self-inside.items.items)) l.self-inside.dead);
}

abbrev pub decreases-loop-left : goal.decreases-loop-left
decreases-loop-left l = l.left
