use Rattle.wz_machine.proofs.ControlLemmas.{br-reduct}
use Rattle.wz_machine.proofs.stacks.Stacks.br.Goals as goal

pub returns : goal.returns
returns c = λ st. c.jump.ensures st (br-reduct st c.args.self.now c.args.label c.args.rest.now c.used-have.result c.requires c.used-have.ensures.count)
