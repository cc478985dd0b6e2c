use Rattle.wz_machine.specs.Moves.{FloatAnswer}
use Rattle.wz_machine.proofs.TypedMoves.{move_typed}
use Rattle.wz_machine.proofs.moves.Machine+M.answer_float.Goals as goal

pub returns-clause-typed : goal.returns-clause-typed
returns-clause-typed g c =
    move_typed c.operands_are_served.ensures (FloatAnswer c.args.reply) c.args.self.now c.put_float.new.self
    c.put_float.result c.put_float.ensures.reply c.put_float.ensures.refused c.requires.typed
