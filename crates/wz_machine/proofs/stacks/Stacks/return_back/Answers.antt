use Rattle.wz_machine.proofs.ControlLemmas.{return-reduct}
use Rattle.wz_machine.proofs.stacks.Stacks.return_back.Goals as goal

pub returns : goal.returns
returns c = λ st. c.go_back.ensures st (return-reduct st c.args.self.now c.args.rest.now c.used-have.result c.requires c.used-have.ensures.count)
