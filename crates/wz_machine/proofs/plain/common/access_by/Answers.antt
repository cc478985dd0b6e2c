use Rattle.wz_code.specs.declared.instr.Instr.TheVariants.{Access}
use Rattle.wz_machine.specs.PlainSteps.{site}
use Rattle.wz_machine.proofs.TriedLemmas.{plain_tried}
use Rattle.wz_machine.proofs.plain.common.access_by.Goals as goal

pub returns-in-Ok : goal.returns-in-Ok
returns-in-Ok g c align locals =
    plain_tried c.has_gone.result c.in-Ok.reply (Access c.args.op align c.args.offset c.args.memory) c.args.have.now c.has_gone.new.have (site locals c.args.own.now c.args.store.now)
    (site locals c.load_or_store.new.own c.load_or_store.new.store) c.has_gone.ensures (λ body. c.in-Ok.ensures.reply body align locals)
