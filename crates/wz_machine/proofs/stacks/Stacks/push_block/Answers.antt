use Rattle.std.proofs.Common.{◌≡◌, ◌∙◌, List, [], ◌∷◌, ◌++◌, reverse, map, ap, rules, subst}
use Rattle.wz_machine.specs.declared.stacks.Opened.{Opened}
use Rattle.wz_machine.specs.Stacks.{StackParts, IsStacked}
use Rattle.wz_machine.specs.Kept.{entry_of, entry_kind}
use Rattle.wz_machine.specs.Opening.{with_block_opened}
use Rattle.wz_machine.proofs.KeptLemmas.{kept-as, values-kept, within-kept, outer-push, with_block-stacked}
use Rattle.wz_machine.proofs.stacks.Stacks.push_block.Goals as goal

pub invariant_of-self-2 : goal.invariant_of-self-2
invariant_of-self-2 c =
    let stacked : IsStacked c.args.self.now = subst (λ (s : StackParts). IsStacked s) c.self.view_is c.self.invariant.stacked in
    let pushed : c.push_reserved.new.self.items ≡ c.self.inside.outer.items ++ (record c.self.inside.top { rest = c.args.rest }) ∷ [] =
    cc (c.push_reserved.ensures.items, c.in_ok-reserve.ensures.items) in
    kept-as (with_block_opened c.args.self.now c.args.rest.now (entry_kind c.args.kind) c.args.code.now c.args.have c.args.params c.args.arity) _ _ _ _
    (with_block-stacked _ _ _ _ _ _ _ c.requires.block c.requires.values c.requires.own stacked)
    (search rules)
    (ap (λ (os : List Opened). reverse (map entry_of os)) pushed ∙ outer-push c.self.inside.outer.items _ ∙ ap (λ (s : StackParts). record s.top { rest = c.args.rest.now } ∷ s.outer) c.self.view_is)
    (values-kept c.self.inside _ _ c.self.view_is c.self.invariant.used c.requires.values)
    (within-kept c.self.inside _ _ c.self.view_is c.self.invariant.used c.requires.values)
