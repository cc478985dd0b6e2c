use Rattle.wz_machine.specs.Moves.{GrowAnswer}
use Rattle.wz_machine.proofs.TypedMoves.{move_typed}
use Rattle.wz_machine.proofs.moves.Machine+M.answer_grow.Goals as goal

pub returns-clause-typed : goal.returns-clause-typed
returns-clause-typed g c =
    move_typed c.operands_are_served.ensures (GrowAnswer c.args.granted) c.args.self.now c.put_size.new.self
    c.put_size.result c.put_size.ensures.reply c.put_size.ensures.refused c.requires.typed
