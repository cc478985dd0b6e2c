use Rattle.wz_machine.proofs.ControlLemmas.{loop-reduct}
use Rattle.wz_machine.proofs.stacks.Stacks.begin_loop.Goals as goal

pub returns-clause-turned : goal.returns-clause-turned
returns-clause-turned c = λ st is. c.in_ok-turn.ensures.turned st
    (loop-reduct st c.args.self.now c.args.types.now c.args.shape c.args.body c.block_code-code.result.now c.args.rest.now c.used-have.result c.requires is
    c.block_code-code.ensures.kept c.block_code-code.ensures.code c.used-have.ensures.count)
