use Rattle.std.proofs.Common.{◌≡◌, take}
use Rattle.wz_code.specs.Walking.{gathered, in_order}
use Rattle.wz_code.proofs.walk.walk_body.Given as goal

abbrev pub invariant-loop-number : goal.invariant-loop-number
invariant-loop-number g l = g.V.Walk.meaning l.visitor ≡ gathered (g.V.Walk.after l.body) (in_order (take l.number l.body.blocks)) (g.V.Walk.meaning l.initial.visitor)
