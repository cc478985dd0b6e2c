use Rattle.wz_machine.proofs.stacks.Stacks.stride.Goals as goal

pub returns-in-Went-clause-strode : goal.returns-in-Went-clause-strode
returns-in-Went-clause-strode g c =
    let turned = rw c.in-Went.is at c.in_ok-plain_turn.ensures.turned in
    let went = turned c.args.bodies.now in
    record { change = went.change; goes = went.goes; store = went.changed }
