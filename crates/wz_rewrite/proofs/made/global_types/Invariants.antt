use Rattle.std.proofs.Common.{◌≡◌, map, take}
use Rattle.wz_rewrite.proofs.made.global_types.Given as goal

abbrev pub invariant-loop-global : goal.invariant-loop-global
invariant-loop-global l = l.types.items ≡ map (λ global. global.kind) (take l.global-index l.globals)
