use Rattle.std.proofs.Common.{◌≡◌, ◌≤◌, List, ◌∷◌, Some, slice_get, length, subst, ap, arith, rules}
use Rattle.wz_machine.specs.declared.stacks.Opened.{Opened}
use Rattle.wz_machine.specs.Kept.{entry_of}
use Rattle.wz_machine.specs.Stacks.{StackParts, IsStacked}
use Rattle.wz_machine.proofs.KeptLemmas.{outer-kept, base-falls}
use Rattle.wz_machine.proofs.BranchLemmas.{depth-within}
use Rattle.wz_machine.proofs.stacks.Stacks.target.Goals as goal

pub entry_at-requires : goal.entry_at-requires
entry_at-requires c =
    let stacked : IsStacked c.args.self.now = subst (λ (s : StackParts). IsStacked s) c.self.view_is c.self.invariant.stacked in
    let deep : c.args.self.now.top.depth ≤ length c.args.self.now.outer = depth-within _ _ stacked.stacked in
    let len : length c.self.inside.outer.items ≡ length c.args.self.now.outer = outer-kept c.self.inside _ c.self.view_is in
    let same : length c.deref.result.now ≡ length c.self.inside.outer.items = ap (λ (os : List Opened). length os) c.deref.ensures.value in
    omega (arith, deep, len, same, c.requires)

pub returns-clause-within : goal.returns-clause-within
returns-clause-within c =
    let stacked : IsStacked c.args.self.now = subst (λ (s : StackParts). IsStacked s) c.self.view_is c.self.invariant.stacked in
    let deep : c.args.self.now.top.depth ≤ length c.args.self.now.outer = depth-within _ _ stacked.stacked in
    omega (arith, deep, c.requires)

pub returns-clause-falls : goal.returns-clause-falls
returns-clause-falls c =
    let stacked : IsStacked c.args.self.now = subst (λ (s : StackParts). IsStacked s) c.self.view_is c.self.invariant.stacked in
    let here : slice_get (c.args.self.now.top ∷ c.args.self.now.outer) c.args.label ≡ Some (entry_of c.entry_at.result) = search rules in
    base-falls c.args.label _ _ _ stacked.room stacked.stacked here
