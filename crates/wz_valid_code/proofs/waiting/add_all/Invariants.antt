use Rattle.std.proofs.Common.{take, reverse}
use Rattle.wz_valid_code.specs.Blocks.{inner_in}
use Rattle.wz_valid_code.specs.Waiting.{Grown}
use Rattle.wz_valid_code.proofs.waiting.add_all.Given as goal

abbrev pub invariant-loop-instr : goal.invariant-loop-instr
invariant-loop-instr l = Grown l.labels l.initial.waiting.items l.waiting.items (inner_in l.scope (reverse l.labels) (take l.instr-index l.code))
