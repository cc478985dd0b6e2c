use Rattle.std.proofs.Common.{◌≡◌, ◌≤◌, ◌<◌, ◌-◌, ◌+◌, ℕ, length, refl, ap, sym, ◌∙◌, subst, arith}
use Rattle.wz_store.specs.Changes.{Nothing}
use Rattle.wz_machine.specs.Outcomes.{Next}
use Rattle.wz_machine.specs.Stacks.{StackParts, stacks_term, IsStacked}
use Rattle.wz_machine.specs.Callees.{body_in, callable_in}
use Rattle.wz_machine.specs.Calling.{with_call}
use Rattle.wz_machine.proofs.AskLemmas.{few_called, own_called, import_called}
use Rattle.wz_machine.proofs.stacks.Stacks.call_callee.Goals as goal

pub returns-then-have-self-clause-turned : goal.returns-then-have-self-clause-turned
returns-then-have-self-clause-turned c =
    let stacked : IsStacked c.args.self.now = subst (λ (s : StackParts). IsStacked s) c.self.view_is c.self.invariant.stacked in
    let height : c.self.inside.top.height ≡ c.args.self.now.top.height = ap (λ (s : StackParts). s.top.height) c.self.view_is in
    let params : length c.params-params.result.now ≡ length c.args.callee.kind.now.params = ap length c.params-params.ensures in
    let few : c.args.have - c.args.self.now.top.height < length c.args.callee.kind.now.params = omega (arith, height, params, c.if-have-self.true) in
    λ st comes. (few_called c.args.self.now c.args.rest.now (callable_in c.args.callee) c.args.have stacked c.requires.values few st comes, refl)

pub returns-in_ok-push_call-in-Own-clause-turned : goal.returns-in_ok-push_call-in-Own-clause-turned
returns-in_ok-push_call-in-Own-clause-turned c =
    let s = c.args.self.now in
    let rest = c.args.rest.now in
    let kind = c.args.callee.kind.now in
    let body = c.in-Own.body.now in
    let have = c.args.have in
    let stacked : IsStacked s = subst (λ (t : StackParts). IsStacked t) c.self.view_is c.self.invariant.stacked in
    let height : c.self.inside.top.height ≡ s.top.height = ap (λ (t : StackParts). t.top.height) c.self.view_is in
    let params : length c.params-params.result.now ≡ length kind.params = ap length c.params-params.ensures in
    let results : length c.results-results.result.now ≡ length kind.results = ap length c.results-results.ensures in
    let own : s.top.height + length kind.params ≤ have = omega (arith, height, params, c.if-have-self.false, c.requires.own) in
    let now : c.push_call.new.self ≡ with_call s rest body have (length kind.params) (length kind.results) =
    c.in_ok-push_call-in-Own.ensures.entered
    ∙ ap (λ (n : ℕ). with_call s rest body have n (length c.results-results.result.now)) params
    ∙ ap (λ (n : ℕ). with_call s rest body have (length kind.params) n) results in
    λ st comes. own_called s rest kind (body_in c.args.callee.code) body have stacked c.push_call.ensures.body c.requires.values own (ap body_in c.in-Own.is) st comes
    ∙ ap (λ (t : StackParts). Next Nothing (stacks_term t)) (sym now)

pub returns-in-Import-clause-turned : goal.returns-in-Import-clause-turned
returns-in-Import-clause-turned c =
    let s = c.args.self.now in
    let kind = c.args.callee.kind.now in
    let have = c.args.have in
    let stacked : IsStacked s = subst (λ (t : StackParts). IsStacked t) c.self.view_is c.self.invariant.stacked in
    let height : c.self.inside.top.height ≡ s.top.height = ap (λ (t : StackParts). t.top.height) c.self.view_is in
    let params : length c.params-params.result.now ≡ length kind.params = ap length c.params-params.ensures in
    let own : s.top.height + length kind.params ≤ have = omega (arith, height, params, c.if-have-self.false, c.requires.own) in
    λ st comes. record {
      asked = rw params
          (import_called s c.args.rest.now kind (body_in c.args.callee.code) c.in-Import.number have stacked c.requires.values own (ap body_in c.in-Import.is) st comes);
      own = c.requires.own;
      values = c.requires.values;
      same = refl;
    }
