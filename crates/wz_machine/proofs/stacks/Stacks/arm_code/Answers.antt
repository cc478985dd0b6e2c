use Rattle.std.proofs.Common.{◌∙◌, List, ap, sym}
use Rattle.wz_code.specs.declared.instr.Instr.{Instr}
use Rattle.wz_code.specs.Trees.{code_in, tree_of, arm_of}
use Rattle.wz_machine.proofs.StackLemmas.{block-code}
use Rattle.wz_machine.proofs.stacks.Stacks.arm_code.Goals as goal

pub returns-in-Some : goal.returns-in-Some
returns-in-Some c =
    ap (λ (code : List Instr). code_in c.args.self.now.top.body code) c.block_code.ensures.code
    ∙ block-code c.args.self.now.top.body c.in-Some.number c.block_code.ensures.kept
    ∙ ap (λ n. arm_of (λ k. tree_of c.args.self.now.top.body k) n) (sym c.in-Some.is)
