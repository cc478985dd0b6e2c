use Rattle.std.proofs.Common.{refl}
use Rattle.wz_machine.proofs.ControlLemmas.{if-chosen, if-stuck}
use Rattle.wz_machine.proofs.stacks.Stacks.choose.Goals as goal

pub returns-in_default-clause-turned : goal.returns-in_default-clause-turned
returns-in_default-clause-turned c = λ st is.
    (if-stuck st c.args.self.now c.args.shape c.args.first c.args.second c.args.rest.now c.requires c.in_default.ensures, refl)

pub returns-clause-turned : goal.returns-clause-turned
returns-clause-turned c = λ st is. c.in_ok-turn.ensures.turned st
    (if-chosen st c.args.self.now c.args.types.now c.args.shape c.args.first c.args.second c.in-Some.number c.chosen-code.result.now c.args.rest.now c.used-have.result
    c.requires is c.used-have.ensures.count c.in-Some.ensures c.chosen-code.ensures)
