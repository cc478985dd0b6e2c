use Rattle.wz_machine.specs.Moves.{AbortMove}
use Rattle.wz_machine.proofs.TypedMoves.{move_typed}
use Rattle.wz_machine.proofs.moves.Machine+M.abort.Goals as goal

pub returns-clause-typed : goal.returns-clause-typed
returns-clause-typed g c typed =
    move_typed c.operands_are_served.ensures AbortMove c.args.self.now c.drop_waiting.new.self
    c.drop_waiting.result c.drop_waiting.ensures.reply c.drop_waiting.ensures.refused typed
