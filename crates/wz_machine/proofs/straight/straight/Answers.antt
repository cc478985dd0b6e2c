use Rattle.std.proofs.Common.{◌≡◌, ◌∷◌, Bool, true, false, IsFalse, length, subst}
use Rattle.wz_machine.specs.PlainSteps.{site}
use Rattle.wz_machine.specs.Straight.{changes_table}
use Rattle.wz_machine.specs.Tried.{PlainTried}
use Rattle.wz_machine.proofs.StraightLemmas.{IsRunning, goes_on}
use Rattle.wz_machine.proofs.TriedLemmas.{still_running}
use Rattle.wz_machine.proofs.straight.straight.Goals as goal

pub loop-instr-preserved-then-tries : goal.loop-instr-preserved-then-tries
loop-instr-preserved-then-tries g c =
    let is : c.loop-instr.rest.now ≡ c.in-Some.instr.now ∷ c.in-Some.tail.now = c.in-Some.ensures.cases.0 in
    let before = site c.loop-instr.locals c.loop-instr.own c.loop-instr.store in
    let after = site c.tries.new.locals c.tries.new.own c.tries.new.store in
    let tried : PlainTried true c.in-Some.instr.now c.loop-instr.now c.tries.new.have before after =
    subst (λ (b : Bool). PlainTried b c.in-Some.instr.now c.loop-instr.now c.tries.new.have before after) c.if-tries.true c.tries.ensures.tried in
    let spares : IsFalse (changes_table c.in-Some.instr.now) = c.tries.ensures.spares c.if-tries.true in
    let went = tried c.args.body.now in
    goes_on c.args.body.now c.args.code.now c.loop-instr.rest.now c.in-Some.tail.now c.in-Some.instr.now c.args.limit c.if-limit-code.started c.args.have
    c.loop-instr.now c.tries.new.have (length c.args.own.now) (site c.args.locals.now c.args.own.now c.args.store.now) before after
    c.loop-instr.invariant is spares went.1 went

pub loop-instr-preserved : goal.loop-instr-preserved
loop-instr-preserved g c =
    let is : c.loop-instr.rest.now ≡ c.in-Some.instr.now ∷ c.in-Some.tail.now = c.in-Some.ensures.cases.0 in
    let before = site c.loop-instr.locals c.loop-instr.own c.loop-instr.store in
    let after = site c.tries.new.locals c.tries.new.own c.tries.new.store in
    let kept : PlainTried false c.in-Some.instr.now c.loop-instr.now c.tries.new.have before after =
    subst (λ (b : Bool). PlainTried b c.in-Some.instr.now c.loop-instr.now c.tries.new.have before after) c.if-tries.false c.tries.ensures.tried in
    let running : IsRunning c.args.body.now c.args.code.now c.loop-instr.rest.now c.args.limit c.if-limit-code.started c.args.have c.tries.new.have (length c.args.own.now)
    (site c.args.locals.now c.args.own.now c.args.store.now) after =
    still_running c.args.body.now c.args.code.now c.loop-instr.rest.now c.args.limit c.if-limit-code.started c.args.have c.loop-instr.now c.tries.new.have
    (length c.args.own.now) (site c.args.locals.now c.args.own.now c.args.store.now) before after c.loop-instr.invariant kept.0 kept.1 in
    let spares : IsFalse (changes_table c.in-Some.instr.now) = cc (c.is_table_change.ensures, c.if-is_table_change.false) in
    let went = rw c.in-Ok-Went.field-0-is at c.in-Ok-Went.ensures.reply in
    goes_on c.args.body.now c.args.code.now c.loop-instr.rest.now c.in-Some.tail.now c.in-Some.instr.now c.args.limit c.if-limit-code.started c.args.have
    c.tries.new.have c.in-Ok-Went.next (length c.args.own.now) (site c.args.locals.now c.args.own.now c.args.store.now) after
    (site c.run_plain.new.locals c.run_plain.new.own c.run_plain.new.store) running is spares went.1 went
