use Rattle.std.proofs.Common.{◌≡◌, ◌≤◌, ◌<◌, ◌+◌, ◌-◌, length, refl, ap, subst, arith}
use Rattle.wz_machine.specs.Stacks.{StackParts, IsStacked}
use Rattle.wz_machine.proofs.IndirectLemmas.{outcome_stuck, host_few, host_asked}
use Rattle.wz_machine.proofs.stacks.Stacks.call_host.Goals as goal

pub returns-then-have-self : goal.returns-then-have-self
returns-then-have-self c =
    let stacked : IsStacked c.args.self.now = subst (λ (t : StackParts). IsStacked t) c.self.view_is c.self.invariant.stacked in
    let s = c.args.self.now in
    let height : c.self.inside.top.height ≡ s.top.height = ap (λ (t : StackParts). t.top.height) c.self.view_is in
    let params : length c.params-params.result.now ≡ length c.args.kind.now.params = ap length c.params-params.ensures in
    let few : c.args.have - s.top.height < length c.args.kind.now.params = omega (arith, height, params, c.if-have-self.true) in
    λ st comes. (outcome_stuck s c.args.rest.now _ stacked (host_few s c.args.kind.now c.args.id c.args.have c.requires.values few) st comes, refl)

pub returns : goal.returns
returns c =
    let stacked : IsStacked c.args.self.now = subst (λ (t : StackParts). IsStacked t) c.self.view_is c.self.invariant.stacked in
    let s = c.args.self.now in
    let height : c.self.inside.top.height ≡ s.top.height = ap (λ (t : StackParts). t.top.height) c.self.view_is in
    let params : length c.params-params.result.now ≡ length c.args.kind.now.params = ap length c.params-params.ensures in
    let own : s.top.height + length c.args.kind.now.params ≤ c.args.have = omega (arith, height, params, c.if-have-self.false, c.requires.own) in
    λ st comes. record {
      asked = rw params (host_asked s c.args.rest.now c.args.kind.now c.args.id c.args.have stacked c.requires.values own st comes);
      own = c.requires.own;
      values = c.requires.values;
      same = refl;
    }
