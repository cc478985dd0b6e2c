use Rattle.std.proofs.Common.{[], ◌∷◌, drop}
use Rattle.wz_valid_code.specs.Blocks.{constant_rules}
use Rattle.wz_valid_code.proofs.WalkLemmas.{Walked}
use Rattle.wz_valid_code.proofs.constant.leads_to.Given as goal

abbrev pub invariant-loop-instr : goal.invariant-loop-instr
invariant-loop-instr l = Walked (constant_rules l.context l.code) (constant_rules l.context (drop l.instr-index l.code)) [] (l.kind ∷ []) l.stack
