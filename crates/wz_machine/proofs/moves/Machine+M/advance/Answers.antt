use Rattle.wz_machine.proofs.TypedMoves.{advanced_typed}
use Rattle.wz_machine.proofs.moves.Machine+M.advance.Goals as goal

pub returns-clause-typed : goal.returns-clause-typed
returns-clause-typed g c =
    advanced_typed c.operands_are_served.ensures c.args.limit c.args.self.now c.make_steps.new.self c.make_steps.result c.make_steps.ensures.advanced
    c.make_steps.ensures.refused c.requires.typed
