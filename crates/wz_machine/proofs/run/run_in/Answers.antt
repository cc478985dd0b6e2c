use Rattle.std.proofs.Common.{◌≡◌, ◌-◌, length, arith, rules}
use Rattle.wz_machine.proofs.SiteLemmas.{apart_same}
use Rattle.wz_machine.proofs.run.run_in.Goals as goal

pub returns-clause-apart : goal.returns-clause-apart
returns-clause-apart g c =
    let size : length c.laps.new.locals ≡ c.args.places.locals_end - c.args.places.locals_at = search (rules, arith) in
    rw c.split_at_mut-lower.ensures.front
    (apart_same c.args.places c.args.values.now c.laps.new.locals c.laps.new.own c.args.have c.requires.order (omega arith) size)
