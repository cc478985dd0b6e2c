use Rattle.std.proofs.Common.{◌≡◌, ◌∙◌, ◌<◌, length, subst, arith, rules}
use Rattle.wz_machine.specs.Stacks.{StackParts, IsStacked}
use Rattle.wz_machine.proofs.KeptLemmas.{left-stacked, left-parts, moved-values, outer-kept}
use Rattle.wz_machine.proofs.stacks.Stacks.leave.Goals as goal

pub returns : goal.returns
returns c =
    let len : length c.self.inside.outer.items ≡ length c.args.self.now.outer = outer-kept c.self.inside _ c.self.view_is in
    let lt : c.args.label < length c.self.inside.outer.items = omega (arith, len, c.requires.parent) in
    left-parts c.self.inside _ c.len.result c.args.label c.args.target.base c.args.have c.args.count c.index-parent.result.now c.truncate.new.self.items c.move_down.new.values.items
    c.self.view_is (c.len.ensures ∙ c.self.inside.outer.ok.0) lt c.truncate.ensures.items c.index-parent.ensures
    (moved-values c.self.inside _ _ _ _ _ c.self.view_is c.self.invariant.used c.requires.values c.requires.carried c.move_down.ensures.moved)

pub invariant_of-self : goal.invariant_of-self
invariant_of-self c =
    let len : length c.self.inside.outer.items ≡ length c.args.self.now.outer = outer-kept c.self.inside _ c.self.view_is in
    let lt : c.args.label < length c.self.inside.outer.items = omega (arith, len, c.requires.parent) in
    let left =
    left-parts c.self.inside _ c.len.result c.args.label c.args.target.base c.args.have c.args.count c.index-parent.result.now c.truncate.new.self.items c.move_down.new.values.items
    c.self.view_is (c.len.ensures ∙ c.self.inside.outer.ok.0) lt c.truncate.ensures.items c.index-parent.ensures
    (moved-values c.self.inside _ _ _ _ _ c.self.view_is c.self.invariant.used c.requires.values c.requires.carried c.move_down.ensures.moved) in
    let stacked : IsStacked c.args.self.now = subst (λ (s : StackParts). IsStacked s) c.self.view_is c.self.invariant.stacked in
    record {
      used = search rules;
      stacked = left-stacked _ _ c.args.label c.args.have c.args.count _ stacked c.requires.target c.requires.values c.requires.carried left;
    }
