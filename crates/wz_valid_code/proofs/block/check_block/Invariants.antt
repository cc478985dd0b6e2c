use Rattle.std.proofs.Common.{[], drop, reverse}
use Rattle.wz_code.specs.Trees.{leaf_in}
use Rattle.wz_valid_code.specs.Operands.{pushed}
use Rattle.wz_valid_code.specs.Blocks.{outer_rules}
use Rattle.wz_valid_code.proofs.WalkLemmas.{Walked}
use Rattle.wz_valid_code.proofs.block.check_block.Given as goal

abbrev pub invariant-loop-instr : goal.invariant-loop-instr
invariant-loop-instr l =
    Walked (outer_rules l.scope (reverse l.labels) (λ i. leaf_in l.body i) l.code) (outer_rules l.scope (reverse l.labels) (λ i. leaf_in l.body i) (drop l.instr-index l.code))
    (pushed l.before []) l.results l.stack
