use Rattle.std.proofs.Common.{◌∙◌, ◌+◌, ◌-◌, List, take, drop, ap}
use Rattle.wz_types.specs.declared.value.Value.{Value}
use Rattle.wz_machine.proofs.KeptLemmas.{range-kept}
use Rattle.wz_machine.proofs.stacks.Stacks.range.Goals as goal

pub returns : goal.returns
returns c =
    ap (λ (vs : List Value). take (c.args.at + c.args.count - c.args.at) (drop c.args.at vs)) c.deref.ensures.value
    ∙ range-kept c.self.inside c.args.self.now c.args.at c.args.count c.self.view_is c.self.invariant.used c.requires
