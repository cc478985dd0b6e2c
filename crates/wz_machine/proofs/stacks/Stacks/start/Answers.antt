use Rattle.wz_machine.proofs.StackLemmas.{started-term}
use Rattle.wz_machine.proofs.stacks.Stacks.start.Goals as goal

pub returns-clause-term : goal.returns-clause-term
returns-clause-term c =
    let term = started-term c.args.body.now c.args.results c.args.arguments.now c.code_of-code.ensures.kept in
    rw c.in_ok-stacks.ensures term
