use Rattle.std.proofs.Common.{[], length, ap, arith}
use Rattle.wz_machine.specs.declared.plain.Plain.TheVariants.{Trapped, NoRule, Special}
use Rattle.wz_machine.proofs.TurnLemmas.{IsTurn, same_after, turned_after, went_after, went_used, on_err}
use Rattle.wz_machine.proofs.stacks.Stacks.plain_turn.Goals as goal

pub returns-in_err-reply-clause-refused : goal.returns-in_err-reply-clause-refused
returns-in_err-reply-clause-refused g c =
    let t : IsTurn c.self.inside c.args.self.now c.deref_mut.result.now c.plain_in.new.values c.make_room.new.values.items c.make_room.new.values.len = record {
      view = c.self.view_is;
      used = c.self.invariant.used;
      stacked = c.self.invariant.stacked;
      whole = c.deref_mut.ensures.value;
      kept = c.make_room.ensures.kept;
      longer = c.make_room.ensures.longer;
      size = c.plain_in.auto.values;
      full = c.deref_mut.ensures.len;
      apart = c.plain_in.ensures.apart;
    } in
    on_err c.from_residual-in_err-reply.result (same_after c.self.inside c.args.self.now c.deref_mut.result.now c.plain_in.new.values c.make_room.new.values.items c.make_room.new.values.len c.args.store.now c.plain_in.new.store t c.in_err-reply.ensures.refused)

pub invariant_of-self-in-Went : goal.invariant_of-self-in-Went
invariant_of-self-in-Went g c =
    let t : IsTurn c.self.inside c.args.self.now c.deref_mut.result.now c.plain_in.new.values c.make_room.new.values.items c.make_room.new.values.len = record {
      view = c.self.view_is;
      used = c.self.invariant.used;
      stacked = c.self.invariant.stacked;
      whole = c.deref_mut.ensures.value;
      kept = c.make_room.ensures.kept;
      longer = c.make_room.ensures.longer;
      size = c.plain_in.auto.values;
      full = c.deref_mut.ensures.len;
      apart = c.plain_in.ensures.apart;
    } in
    let went = rw c.in-Went.is at c.in_ok-reply.ensures.reply in
    record {
      used = went_used c.self.inside c.args.self.now c.deref_mut.result.now c.plain_in.new.values c.make_room.new.values.items c.make_room.new.values.len c.in-Went.now t (omega (arith, c.in_ok-make_room.ensures.room, ap length c.deref_mut.ensures.value)) went.1;
      stacked = (went_after [] c.self.inside c.args.self.now c.deref_mut.result.now c.plain_in.new.values c.make_room.new.values.items c.make_room.new.values.len c.in-Went.now c.args.store.now c.plain_in.new.store c.args.instr.now c.args.rest.now t c.requires went).stacked;
    }

pub returns-in-Went-clause-turned : goal.returns-in-Went-clause-turned
returns-in-Went-clause-turned g c bodies =
    let t : IsTurn c.self.inside c.args.self.now c.deref_mut.result.now c.plain_in.new.values c.make_room.new.values.items c.make_room.new.values.len = record {
      view = c.self.view_is;
      used = c.self.invariant.used;
      stacked = c.self.invariant.stacked;
      whole = c.deref_mut.ensures.value;
      kept = c.make_room.ensures.kept;
      longer = c.make_room.ensures.longer;
      size = c.plain_in.auto.values;
      full = c.deref_mut.ensures.len;
      apart = c.plain_in.ensures.apart;
    } in
    let went = rw c.in-Went.is at c.in_ok-reply.ensures.reply in
    let r = went_after bodies c.self.inside c.args.self.now c.deref_mut.result.now c.plain_in.new.values c.make_room.new.values.items c.make_room.new.values.len c.in-Went.now c.args.store.now c.plain_in.new.store c.args.instr.now c.args.rest.now t c.requires went in
    record { change = r.change; goes = r.goes; changed = r.changed }

pub returns-in-Trapped-clause-turned : goal.returns-in-Trapped-clause-turned
returns-in-Trapped-clause-turned g c =
    let t : IsTurn c.self.inside c.args.self.now c.deref_mut.result.now c.plain_in.new.values c.make_room.new.values.items c.make_room.new.values.len = record {
      view = c.self.view_is;
      used = c.self.invariant.used;
      stacked = c.self.invariant.stacked;
      whole = c.deref_mut.ensures.value;
      kept = c.make_room.ensures.kept;
      longer = c.make_room.ensures.longer;
      size = c.plain_in.auto.values;
      full = c.deref_mut.ensures.len;
      apart = c.plain_in.ensures.apart;
    } in
    let reply = rw c.in-Trapped.is at c.in_ok-reply.ensures.reply in
    turned_after (Trapped c.in-Trapped.kind) c.self.inside c.args.self.now c.deref_mut.result.now c.plain_in.new.values c.make_room.new.values.items c.make_room.new.values.len c.args.store.now c.plain_in.new.store c.args.instr.now c.args.rest.now t c.requires tt reply

pub returns-in-NoRule-clause-turned : goal.returns-in-NoRule-clause-turned
returns-in-NoRule-clause-turned g c =
    let t : IsTurn c.self.inside c.args.self.now c.deref_mut.result.now c.plain_in.new.values c.make_room.new.values.items c.make_room.new.values.len = record {
      view = c.self.view_is;
      used = c.self.invariant.used;
      stacked = c.self.invariant.stacked;
      whole = c.deref_mut.ensures.value;
      kept = c.make_room.ensures.kept;
      longer = c.make_room.ensures.longer;
      size = c.plain_in.auto.values;
      full = c.deref_mut.ensures.len;
      apart = c.plain_in.ensures.apart;
    } in
    let reply = rw c.in-NoRule.is at c.in_ok-reply.ensures.reply in
    turned_after NoRule c.self.inside c.args.self.now c.deref_mut.result.now c.plain_in.new.values c.make_room.new.values.items c.make_room.new.values.len c.args.store.now c.plain_in.new.store c.args.instr.now c.args.rest.now t c.requires tt reply

pub returns-in-Special-clause-turned : goal.returns-in-Special-clause-turned
returns-in-Special-clause-turned g c =
    let t : IsTurn c.self.inside c.args.self.now c.deref_mut.result.now c.plain_in.new.values c.make_room.new.values.items c.make_room.new.values.len = record {
      view = c.self.view_is;
      used = c.self.invariant.used;
      stacked = c.self.invariant.stacked;
      whole = c.deref_mut.ensures.value;
      kept = c.make_room.ensures.kept;
      longer = c.make_room.ensures.longer;
      size = c.plain_in.auto.values;
      full = c.deref_mut.ensures.len;
      apart = c.plain_in.ensures.apart;
    } in
    let reply = rw c.in-Special.is at c.in_ok-reply.ensures.reply in
    turned_after Special c.self.inside c.args.self.now c.deref_mut.result.now c.plain_in.new.values c.make_room.new.values.items c.make_room.new.values.len c.args.store.now c.plain_in.new.store c.args.instr.now c.args.rest.now t c.requires tt reply
