use Rattle.std.proofs.Common.{◌∙◌, List, ap}
use Rattle.wz_code.specs.declared.instr.Instr.{Instr}
use Rattle.wz_code.specs.Trees.{code_in}
use Rattle.wz_machine.proofs.StackLemmas.{block-code}
use Rattle.wz_machine.proofs.ControlLemmas.{second-chosen, first-chosen}
use Rattle.wz_machine.proofs.stacks.Stacks.chosen.Goals as goal

pub returns-then-number-eq0 : goal.returns-then-number-eq0
returns-then-number-eq0 c = c.arm_code.ensures ∙ second-chosen c.args.number _ _ c.if-number-eq0.true

pub returns : goal.returns
returns c =
    ap (λ (code : List Instr). code_in c.args.self.now.top.body code) c.block_code.ensures.code
    ∙ block-code c.args.self.now.top.body c.args.first c.block_code.ensures.kept
    ∙ first-chosen c.args.number _ _ c.if-number-eq0.false
