use Rattle.std.proofs.Common.{◌-◌, length, arith}
use Rattle.wz_machine.specs.Kept.{entry_of}
use Rattle.wz_machine.specs.PlainSteps.{site}
use Rattle.wz_machine.specs.Straight.{point}
use Rattle.wz_machine.specs.Laps.{LapsTo}
use Rattle.wz_machine.proofs.LapLemmas.{lap_begins, lap_ran, lap_again}
use Rattle.wz_machine.proofs.laps.laps.Goals as goal

pub loop-first-init : goal.loop-first-init
loop-first-init g c =
    lap_begins (entry_of c.args.top.now) c.args.limit c.args.have (length c.args.own.now) (site c.args.locals.now c.args.own.now c.args.store.now) c.requires

pub straight-pause-requires : goal.straight-pause-requires
straight-pause-requires g c = c.loop-first.invariant.fits

pub returns-in_default-clause-ran : goal.returns-in_default-clause-ran
returns-in_default-clause-ran g c =
    lap_ran (entry_of c.args.top.now) c.args.limit c.loop-first.left c.straight-pause.result.made c.loop-first.code.now c.split_at.result.1.now c.args.have c.loop-first.now
    c.straight-pause.result.have (length c.loop-first.own) (site c.args.locals.now c.args.own.now c.args.store.now)
    (site c.loop-first.locals c.loop-first.own c.loop-first.store) (site c.straight-pause.new.locals c.straight-pause.new.own c.straight-pause.new.store)
    c.loop-first.invariant c.straight-pause.ensures.limited c.split_at.ensures.back c.straight-pause.ensures.ran

pub returns-in_default-clause-limited : goal.returns-in_default-clause-limited
returns-in_default-clause-limited g c = omega (arith, c.loop-first.invariant.few)

pub loop-first-smaller : goal.loop-first-smaller
loop-first-smaller g c = omega (arith, c.in-Some.ensures.left)

pub loop-first-preserved : goal.loop-first-preserved
loop-first-preserved g c =
    let left = c.loop-first.left - c.straight-pause.result.made in
    let old = site c.args.locals.now c.args.own.now c.args.store.now in
    let new = site c.straight-pause.new.locals c.straight-pause.new.own c.straight-pause.new.store in
    let ran : LapsTo (entry_of c.args.top.now) (c.args.limit - left) (point c.args.top.now.rest.now c.args.have old)
    (point c.split_at.result.1.now c.straight-pause.result.have new) =
    lap_ran (entry_of c.args.top.now) c.args.limit c.loop-first.left c.straight-pause.result.made c.loop-first.code.now c.split_at.result.1.now c.args.have c.loop-first.now
    c.straight-pause.result.have (length c.loop-first.own) (site c.args.locals.now c.args.own.now c.args.store.now)
    (site c.loop-first.locals c.loop-first.own c.loop-first.store) (site c.straight-pause.new.locals c.straight-pause.new.own c.straight-pause.new.store)
    c.loop-first.invariant c.straight-pause.ensures.limited c.split_at.ensures.back c.straight-pause.ensures.ran in
    lap_again (entry_of c.args.top.now) c.args.limit left c.split_at.result.1.now c.in-Some.first.now c.args.have c.straight-pause.result.have old new
    (omega (arith, c.loop-first.invariant.few)) c.in-Some.ensures.left ran c.in-Some.ensures.repeats
    (omega (arith, c.straight-pause.ensures.room, c.straight-pause.ensures.within))
