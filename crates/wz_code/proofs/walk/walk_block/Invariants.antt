use Rattle.std.proofs.Common.{◌≡◌, take}
use Rattle.wz_code.specs.Walking.{gathered}
use Rattle.wz_code.proofs.walk.walk_block.Given as goal

abbrev pub invariant-loop-instr : goal.invariant-loop-instr
invariant-loop-instr g l = g.V.Walk.meaning l.visitor ≡ gathered (g.V.Walk.after l.body) (take l.instr-index l.block) (g.V.Walk.meaning l.initial.visitor)
