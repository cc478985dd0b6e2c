use Rattle.std.proofs.Common.{◌≡◌}
use Rattle.std.specs.FinMap.{get}
use Rattle.std.specs.VecDeque.Iter.{deque_iter_rest}
use Rattle.wz_io.specs.Memory.{contents}
use Rattle.wz_io.proofs.memory.find.Given as goal

abbrev pub invariant-loop-entry : goal.invariant-loop-entry
invariant-loop-entry l = get (contents l.entries.items) l.path ≡ get (contents (deque_iter_rest l.entry-iterator)) l.path
