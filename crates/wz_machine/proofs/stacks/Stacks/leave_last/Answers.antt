use Rattle.std.proofs.Common.{◌≡◌, subst, ap, refl, arith, rules}
use Rattle.wz_machine.specs.Stacks.{StackParts, IsStacked}
use Rattle.wz_machine.proofs.KeptLemmas.{left-stacked, last-parts, moved-values}
use Rattle.wz_machine.proofs.stacks.Stacks.leave_last.Goals as goal

pub returns : goal.returns
returns c =
    let base : c.self.inside.top.base ≡ c.args.self.now.top.base = ap (λ (t : StackParts). t.top.base) c.self.view_is in
    last-parts c.self.inside _ c.args.have c.args.count _ _ _ c.self.view_is c.take_last-parent.ensures.items
    (moved-values c.self.inside _ _ _ _ _ c.self.view_is c.self.invariant.used c.requires.values (omega (arith, base, c.requires.carried)) c.move_down.ensures.moved)

pub invariant_of-self : goal.invariant_of-self
invariant_of-self c =
    let base : c.self.inside.top.base ≡ c.args.self.now.top.base = ap (λ (t : StackParts). t.top.base) c.self.view_is in
    let stacked : IsStacked c.args.self.now = subst (λ (t : StackParts). IsStacked t) c.self.view_is c.self.invariant.stacked in
    record {
      used = search rules;
      stacked = left-stacked c.args.self.now _ 0 c.args.have c.args.count _ stacked refl c.requires.values c.requires.carried
          (last-parts c.self.inside _ c.args.have c.args.count _ _ _ c.self.view_is c.take_last-parent.ensures.items
          (moved-values c.self.inside _ _ _ _ _ c.self.view_is c.self.invariant.used c.requires.values (omega (arith, base, c.requires.carried)) c.move_down.ensures.moved));
    }
