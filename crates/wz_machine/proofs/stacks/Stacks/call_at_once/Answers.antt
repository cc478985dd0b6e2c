use Rattle.wz_machine.proofs.stacks.Stacks.call_at_once.Goals as goal

pub returns : goal.returns
returns g c = c.called.ensures _ c.args.self.now c.call.new.self c.args.rest.now c.call.ensures.turned c.call.ensures.refused
