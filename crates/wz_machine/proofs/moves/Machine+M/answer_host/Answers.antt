use Rattle.wz_machine.specs.Moves.{ReturnMove}
use Rattle.wz_machine.proofs.TypedMoves.{move_typed}
use Rattle.wz_machine.proofs.moves.Machine+M.answer_host.Goals as goal

pub returns-clause-typed : goal.returns-clause-typed
returns-clause-typed g c =
    move_typed c.operands_are_served.ensures (ReturnMove c.args.values.now) c.args.self.now c.put_results.new.self
    c.put_results.result c.put_results.ensures.reply c.put_results.ensures.refused c.requires.typed
