use Rattle.wz_machine.specs.Moves.{TickMove}
use Rattle.wz_machine.specs.Machines.{machine_state, machine_stack}
use Rattle.wz_machine.proofs.StuckSessions.{typed_is_not_stuck}
use Rattle.wz_machine.proofs.TypedMoves.{move_typed}
use Rattle.wz_machine.proofs.moves.Machine+M.tick.Goals as goal

pub returns-clause-typed : goal.returns-clause-typed
returns-clause-typed g c =
    move_typed c.operands_are_served.ensures TickMove c.args.self.now c.make_tick.new.self
    c.make_tick.result c.make_tick.ensures.reply c.make_tick.ensures.refused c.requires.typed

pub make_tick-requires : goal.make_tick-requires
make_tick-requires g c = record {
  rule = typed_is_not_stuck c.operands_are_served.ensures (machine_state c.args.self.now) (machine_stack c.args.self.now) c.requires.typed;
}
