use Rattle.std.proofs.Common.{◌≡◌, ◌≤◌, ◌+◌, ◌-◌, ℕ, List, length, take, drop, ap, sym, ◌∙◌, arith}
use Rattle.std.proofs.lemmas.List.{drop-take, length-take-le}
use Rattle.wz_types.specs.declared.value.Value.{Value}
use Rattle.wz_machine.specs.Stacks.{StackParts}
use Rattle.wz_machine.proofs.stacks.Stacks.own.Goals as goal

pub returns : goal.returns
returns c =
    let i = c.self.inside in
    let items = i.values.items in
    let len : length (take i.have items) ≡ i.have = length-take-le i.have items c.self.invariant.used in
    let within : i.top.height ≤ length (take i.have items) = c.self.invariant.stacked.within in
    let whole : i.top.height + (i.have - i.top.height) ≡ i.have = omega (arith, len, within) in
    ap (λ (xs : List Value). take (i.have - i.top.height) (drop i.top.height xs)) c.deref.ensures.value
    ∙ sym (drop-take i.top.height (i.have - i.top.height) items)
    ∙ ap (λ (n : ℕ). drop i.top.height (take n items)) whole
    ∙ ap (λ (s : StackParts). drop s.top.height s.values) c.self.view_is
