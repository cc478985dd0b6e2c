use Rattle.std.proofs.Common.{◌≡◌, length, refl, subst, arith}
use Rattle.wz_machine.specs.Stacks.{StackParts, IsStacked}
use Rattle.wz_machine.proofs.KeptLemmas.{used-kept}
use Rattle.wz_machine.proofs.GrowAskLemmas.{float_asks}
use Rattle.wz_machine.proofs.stacks.Stacks.ask_float.Goals as goal

pub returns : goal.returns
returns c =
    let s = c.args.self.now in
    let have = c.self.inside.have in
    let stacked : IsStacked s = subst (λ (t : StackParts). IsStacked t) c.self.view_is c.self.invariant.stacked in
    let len : length s.values ≡ have = used-kept c.self.inside s c.self.view_is c.self.invariant.used in
    λ st. record {
      asked = float_asks st s c.args.rest.now c.args.op c.args.count have stacked len c.requires.code c.requires.asks;
      own = omega (arith, len, stacked.within);
      values = omega (arith, len);
      same = refl;
    }
