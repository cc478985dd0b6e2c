use Rattle.std.proofs.Common.{◌≡◌, ◌∙◌, ◌<◌, length, subst, refl, arith, rules}
use Rattle.wz_machine.specs.Stacks.{StackParts, IsStacked}
use Rattle.wz_machine.proofs.KeptLemmas.{again-stacked, again-parts, moved-values, outer-kept}
use Rattle.wz_machine.proofs.stacks.Stacks.begin_again.Goals as goal

pub returns : goal.returns
returns c =
    let len : length c.self.inside.outer.items ≡ length c.args.self.now.outer = outer-kept c.self.inside _ c.self.view_is in
    let lt : c.args.label < length c.self.inside.outer.items = omega (arith, len, c.requires.label) in
    again-parts c.self.inside _ c.len.result c.args.label c.args.have c.args.count c.args.target (record c.args.target { rest = c.args.again }) c.args.again.now
    c.truncate.new.self.items c.move_down.new.values.items
    c.self.view_is (c.len.ensures ∙ c.self.inside.outer.ok.0) lt c.truncate.ensures.items refl
    (moved-values c.self.inside _ _ _ _ _ c.self.view_is c.self.invariant.used c.requires.values c.requires.carried c.move_down.ensures.moved)

pub invariant_of-self : goal.invariant_of-self
invariant_of-self c =
    let len : length c.self.inside.outer.items ≡ length c.args.self.now.outer = outer-kept c.self.inside _ c.self.view_is in
    let lt : c.args.label < length c.self.inside.outer.items = omega (arith, len, c.requires.label) in
    let begun =
    again-parts c.self.inside _ c.len.result c.args.label c.args.have c.args.count c.args.target (record c.args.target { rest = c.args.again }) c.args.again.now
    c.truncate.new.self.items c.move_down.new.values.items
    c.self.view_is (c.len.ensures ∙ c.self.inside.outer.ok.0) lt c.truncate.ensures.items refl
    (moved-values c.self.inside _ _ _ _ _ c.self.view_is c.self.invariant.used c.requires.values c.requires.carried c.move_down.ensures.moved) in
    let stacked : IsStacked c.args.self.now = subst (λ (s : StackParts). IsStacked s) c.self.view_is c.self.invariant.stacked in
    record {
      used = search rules;
      stacked = again-stacked _ _ c.args.label c.args.have c.args.count _ _ stacked c.requires.target c.requires.label c.requires.again c.requires.values c.requires.carried begun;
    }
