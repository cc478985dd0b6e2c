use Rattle.std.proofs.Common.{◌≡◌, ◌∙◌, ◌≤◌, ◌-◌, length, take, ap, arith}
use Rattle.std.proofs.lemmas.List.{length-take-le}
use Rattle.wz_store.specs.Changes.{range_of}
use Rattle.wz_machine.specs.Stacks.{StackParts}
use Rattle.wz_machine.specs.Opening.{stepped}
use Rattle.wz_machine.proofs.TickLemmas.{ticked-asked, operands-last}
use Rattle.wz_machine.proofs.stacks.Stacks.tick.Goals as goal

pub returns-in-Asks-clause-ticked : goal.returns-in-Asks-clause-ticked
returns-in-Asks-clause-ticked g c =
    let will = rw c.in-Asks.is at c.in_ok-stride.ensures.strode in
    let len : length (take c.in-Asks.have c.args.self.now.values) ≡ c.in-Asks.have = length-take-le c.in-Asks.have c.args.self.now.values will.0.values in
    let le : c.in-Asks.count ≤ c.in-Asks.have = omega (arith, len, will.0.asked.operands) in
    ticked-asked c.args.bodies.now c.args.store.now c.stride.new.store c.args.self.now c.step_over.new.self _ c.in-Asks.count c.in-Asks.rest.now c.in-Asks.have
    c.in_ok-ask-in-Asks.ask c.range-in-Asks.result.now will.0
    (c.step_over.ensures ∙ ap (λ (s : StackParts). stepped s c.in-Asks.rest.now c.in-Asks.have) will.1) will.2 c.in_ok-ask-in-Asks.ensures
    (c.range-in-Asks.ensures ∙ ap (λ (s : StackParts). range_of s.values (c.in-Asks.have - c.in-Asks.count) c.in-Asks.count) will.1
    ∙ operands-last c.args.self.now.values c.in-Asks.have c.in-Asks.count will.0.values le)
