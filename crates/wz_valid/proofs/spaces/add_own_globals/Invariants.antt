use Rattle.std.proofs.Common.{◌≡◌, ◌++◌, map, take}
use Rattle.wz_valid.proofs.spaces.add_own_globals.Given as goal

abbrev pub invariant-loop-global : goal.invariant-loop-global
invariant-loop-global l = l.globals.items ≡ l.initial.globals.items ++ map (λ g. g.kind) (take l.global-index l.own)
