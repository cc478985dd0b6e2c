use Rattle.std.proofs.Common.{◌≡◌, map, take}
use Rattle.wz_valid.proofs.spaces.element_kinds.Given as goal

abbrev pub invariant-loop-element : goal.invariant-loop-element
invariant-loop-element l = l.kinds.items ≡ map (λ e. e.kind) (take l.element-index l.elements)
