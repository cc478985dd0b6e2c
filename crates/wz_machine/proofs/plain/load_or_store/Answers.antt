use Rattle.std.proofs.Common.{◌≡◌, true, false, if◌then◌else◌, slice_get, refl, ap}
use Rattle.wz_code.specs.declared.instr.Instr.TheVariants.{Access}
use Rattle.wz_code.specs.Accesses.{shape_of}
use Rattle.wz_machine.specs.Outcomes.{Does}
use Rattle.wz_machine.specs.MemorySteps.{load_step, store_step}
use Rattle.wz_machine.specs.PlainSteps.{used}
use Rattle.wz_machine.proofs.ReplyLemmas.{of_values, of_store_if}
use Rattle.wz_machine.proofs.plain.load_or_store.Goals as goal

pub returns-then-access-clause-reply : goal.returns-then-access-clause-reply
returns-then-access-clause-reply g c body align locals =
    let stores : (shape_of c.args.op).store ≡ true = cc (c.access.ensures, c.if-access.true) in
    let stored = store_step (shape_of c.args.op) c.args.offset c.args.memory (slice_get c.args.store.now.memories c.args.memory) (used c.args.have c.args.own.now) in
    let loaded = load_step (shape_of c.args.op) c.args.offset (slice_get c.args.store.now.memories c.args.memory) (used c.args.have c.args.own.now) in
    of_store_if c.store_value.result body (Access c.args.op align c.args.offset c.args.memory) (Access c.args.op align c.args.offset c.args.memory) stored c.args.have locals
    c.args.own.now c.args.store.now c.store_value.new.store refl (λ rest. refl) (λ bodies. ap (λ b. Does (if b then stored else loaded)) stores) c.store_value.ensures.reply

pub returns-else-access-clause-reply : goal.returns-else-access-clause-reply
returns-else-access-clause-reply g c body align locals =
    let loads : (shape_of c.args.op).store ≡ false = cc (c.access.ensures, c.if-access.false) in
    let stored = store_step (shape_of c.args.op) c.args.offset c.args.memory (slice_get c.args.store.now.memories c.args.memory) (used c.args.have c.args.own.now) in
    let loaded = load_step (shape_of c.args.op) c.args.offset (slice_get c.args.store.now.memories c.args.memory) (used c.args.have c.args.own.now) in
    of_values c.load.result body (Access c.args.op align c.args.offset c.args.memory) (Access c.args.op align c.args.offset c.args.memory) (λ bodies. loaded) c.args.have locals
    c.args.own.now c.load.new.own c.args.store.now refl (λ rest. refl) (λ bodies. ap (λ b. Does (if b then stored else loaded)) loads) (λ bodies. c.load.ensures)
