use Rattle.std.proofs.Common.{refl}
use Rattle.wz_machine.specs.State.{state_of}
use Rattle.wz_machine.proofs.AdvanceLemmas.{stack_advanced, stack_part, on_err}
use Rattle.wz_machine.proofs.advance.advance_top.Goals as goal

pub returns-in_ok-entered-in-Some-clause-advanced : goal.returns-in_ok-entered-in-Some-clause-advanced
returns-in_ok-entered-in-Some-clause-advanced g c =
    let vec = c.args.standings.now in
    let entered = c.in_ok-entered-in-Some.entered in
    stack_advanced entered c.args.limit c.advance.new.count (state_of c.args.bodies.now c.args.store.now) (state_of c.args.bodies.now c.advance.new.store) vec.items _
    c.in-Some.top.now c.advance.new.self c.in-Some.top.now vec.len vec.ok.0 (c.in-Some.ensures.variant.0 refl) c.in-Some.ensures.value refl
    c.in_ok-entered-in-Some.ensures.advanced

pub returns-in_err-entered-in-Some-clause-refused : goal.returns-in_err-entered-in-Some-clause-refused
returns-in_err-entered-in-Some-clause-refused g c =
    let vec = c.args.standings.now in
    on_err c.from_residual.result
    (stack_part c.args.limit (state_of c.args.bodies.now c.args.store.now) (state_of c.args.bodies.now c.advance.new.store) vec.items _ c.in-Some.top.now
    c.advance.new.self c.in-Some.top.now vec.len vec.ok.0 (c.in-Some.ensures.variant.0 refl) c.in-Some.ensures.value refl c.in_err-entered-in-Some.ensures.refused)
