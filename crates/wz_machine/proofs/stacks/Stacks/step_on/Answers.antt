use Rattle.std.proofs.Common.{◌∙◌, inl, refl, sym}
use Rattle.wz_machine.proofs.AdvanceLemmas.{gone_on, halts_here}
use Rattle.wz_machine.proofs.stacks.Stacks.step_on.Goals as goal

pub returns-then-meets_table-clause-stepped : goal.returns-then-meets_table-clause-stepped
returns-then-meets_table-clause-stepped g c = (refl, refl, inl (sym c.meets_table.ensures ∙ c.if-meets_table.true))

pub returns-in-Ends-clause-stepped : goal.returns-in-Ends-clause-stepped
returns-in-Ends-clause-stepped g c =
    let strode = rw c.in-Ends.is at c.in_ok-stride.ensures.strode in
    halts_here c.args.bodies.now c.args.store.now c.stride.new.store c.args.self.now c.stride.new.self _ strode.0.same strode.1 strode.0.done tt

pub returns-in-Trapped-clause-stepped : goal.returns-in-Trapped-clause-stepped
returns-in-Trapped-clause-stepped g c =
    let strode = rw c.in-Trapped.is at c.in_ok-stride.ensures.strode in
    halts_here c.args.bodies.now c.args.store.now c.stride.new.store c.args.self.now c.stride.new.self _ strode.1 strode.2 strode.0 tt

pub returns-in-NoRule-clause-stepped : goal.returns-in-NoRule-clause-stepped
returns-in-NoRule-clause-stepped g c =
    let strode = rw c.in-NoRule.is at c.in_ok-stride.ensures.strode in
    halts_here c.args.bodies.now c.args.store.now c.stride.new.store c.args.self.now c.stride.new.self _ strode.1 strode.2 strode.0 tt

pub returns-in-Asks-clause-stepped : goal.returns-in-Asks-clause-stepped
returns-in-Asks-clause-stepped g c =
    let strode = rw c.in-Asks.is at c.in_ok-stride.ensures.strode in
    halts_here c.args.bodies.now c.args.store.now c.stride.new.store c.args.self.now c.stride.new.self _ strode.1 strode.2 strode.0.asked.asks tt

pub returns-in-Went-clause-stepped : goal.returns-in-Went-clause-stepped
returns-in-Went-clause-stepped g c =
    let gone = rw c.in-Went.is at c.in_ok-stride.ensures.strode in
    gone_on c.args.bodies.now c.args.store.now c.args.self.now c.stride.new.self c.stride.new.store gone (sym c.meets_table.ensures ∙ c.if-meets_table.false)
