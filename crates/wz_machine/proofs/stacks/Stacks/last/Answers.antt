use Rattle.std.proofs.Common.{◌≡◌, ◌-◌, List, length, take, drop, ap, sym, ◌∙◌, arith}
use Rattle.std.proofs.lemmas.List.{length-take-le}
use Rattle.wz_types.specs.declared.value.Value.{Value}
use Rattle.wz_machine.specs.Stacks.{StackParts, last_values}
use Rattle.wz_machine.proofs.PutLemmas.{last_is}
use Rattle.wz_machine.proofs.stacks.Stacks.last.Goals as goal

pub returns : goal.returns
returns c =
    let have = c.self.inside.have in
    let items = c.self.inside.values.items in
    let count = c.args.count in
    let len : length c.args.self.now.values ≡ have =
    ap (λ (s : StackParts). length s.values) (sym c.self.view_is) ∙ length-take-le have items c.self.invariant.used in
    ap (λ (xs : List Value). take (have - (have - count)) (drop (have - count) xs)) c.deref.ensures.value
    ∙ last_is items have count c.self.invariant.used (omega (arith, len, c.requires))
    ∙ ap (λ (s : StackParts). last_values count s.values) c.self.view_is
