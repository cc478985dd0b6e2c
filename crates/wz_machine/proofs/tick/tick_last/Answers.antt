use Rattle.std.proofs.Common.{refl}
use Rattle.wz_machine.proofs.TickLemmas.{top-ticked}
use Rattle.wz_machine.proofs.tick.tick_last.Goals as goal

pub returns-in_ok-tick-in-Some-clause-ticked : goal.returns-in_ok-tick-in-Some-clause-ticked
returns-in_ok-tick-in-Some-clause-ticked g c =
    let vec = c.args.standings.now in
    top-ticked c.args.bodies.now c.args.store.now c.tick.new.store vec.items _ c.in-Some.top.now c.tick.new.self c.in-Some.top.now c.in_ok-tick-in-Some.tick vec.len
    vec.ok.0 (c.in-Some.ensures.variant.0 refl) c.in-Some.ensures.value refl c.in_ok-tick-in-Some.ensures.ticked
