use Rattle.wz_machine.proofs.TypedMoves.{call_typed}
use Rattle.wz_machine.proofs.moves.Machine+M.enter.Goals as goal

pub returns-clause-typed : goal.returns-clause-typed
returns-clause-typed g c typed =
    call_typed c.operands_are_served.ensures c.args.function c.args.args.now c.args.self.now c.put_call.new.self
    c.put_call.result c.put_call.ensures.reply
    c.put_call.ensures.refused typed
