use Rattle.std.proofs.Common.{◌≡◌, map, take}
use Rattle.wz_snapshot.proofs.parts.global_values.Given as goal

abbrev pub invariant-loop-at : goal.invariant-loop-at
invariant-loop-at g l = l.values.items ≡ map (λ global. global.content) (take l.at l.store.globals)
