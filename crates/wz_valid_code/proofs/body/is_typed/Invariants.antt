use Rattle.std.proofs.Common.{map}
use Rattle.wz_code.specs.Trees.{tree_of}
use Rattle.wz_valid_code.specs.Waiting.{inner_at}
use Rattle.wz_valid_code.proofs.BlockLemmas.{total}
use Rattle.wz_valid_code.proofs.WaitingLemmas.{Waiting}
use Rattle.wz_valid_code.proofs.body.is_typed.Given as goal

abbrev pub invariant-loop-next : goal.invariant-loop-next
invariant-loop-next l = Waiting l.scope l.body l.scope.results l.labels.items l.waiting.items

abbrev pub decreases-loop-next : goal.decreases-loop-next
decreases-loop-next l = total (λ k. tree_of l.body k) (map (inner_at l.labels.items) l.waiting.items)
