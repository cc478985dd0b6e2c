use Rattle.std.proofs.Common.{◌≡◌, ◌≤◌, ◌<◌, ◌+◌, ◌-◌, ◌^◌, ℕ, List, ◌++◌, ◌∷◌, length, take, reverse, map, ap, ◌∙◌, subst, [], arith}
use Rattle.wz_types.specs.declared.value.Value.{Value}
use Rattle.wz_types.specs.declared.types.ValType.{ValType}
use Rattle.wz_types.specs.Zeros.{zeros_of}
use Rattle.wz_valid_code.specs.Context.{locals_of_runs}
use Rattle.wz_machine.specs.declared.stacks.Opened.{Opened}
use Rattle.wz_machine.specs.Stacks.{StackParts, IsStacked}
use Rattle.wz_machine.specs.Kept.{entry_of}
use Rattle.wz_machine.specs.Calling.{zeroed_locals, call_in, with_call}
use Rattle.wz_machine.proofs.KeptLemmas.{kept-as, values-kept, outer-push}
use Rattle.wz_machine.proofs.CallLemmas.{call_entry, with_call-stacked}
use Rattle.wz_machine.proofs.stacks.Stacks.push_call.Goals as goal

pub invariant_of-self-2 : goal.invariant_of-self-2
invariant_of-self-2 c =
    let s = c.args.self.now in
    let have = c.args.have in
    let params = c.args.params in
    let body = c.args.body.now in
    let stacked : IsStacked s = subst (λ (t : StackParts). IsStacked t) c.self.view_is c.self.invariant.stacked in
    let frames : c.self.inside.top.frames ≡ s.top.frames = ap (λ (t : StackParts). t.top.frames) c.self.view_is in
    let locals : c.self.inside.top.frame_locals ≡ s.top.frame_locals = ap (λ (t : StackParts). t.top.frame_locals) c.self.view_is in
    let count : c.in_ok-zeros.zeros ≡ length (zeroed_locals body) = c.in_ok-zeros.ensures.count ∙ ap (λ (runs : List (ℕ × ValType)). length (zeros_of (locals_of_runs runs))) c.locals.ensures in
    let few : s.top.frames < 2 ^ 32 = omega (arith, frames) in
    let small : params + length (zeroed_locals body) + s.top.frame_locals ≤ 2 ^ 32 = omega (arith, locals, count, c.in_ok-zeros.ensures.few) in
    let pushed : c.push_within.new.outer.items ≡ c.self.inside.outer.items ++ (record c.self.inside.top { rest = c.args.rest }) ∷ [] =
    cc (c.push_within.ensures, c.in_ok-reserve.ensures.items) in
    kept-as (with_call s c.args.rest.now body have params c.args.results) _ _ _ _
    (with_call-stacked _ _ _ _ _ _ c.requires.values c.requires.own few small stacked)
    (call_entry (entry_of c.self.inside.top) body _ c.args.results have params c.in_ok-zeros.zeros c.code_of-code.ensures.code count (omega arith)
    ∙ ap (λ (t : StackParts). call_in t.top body c.args.results (have - params) (have + length (zeroed_locals body))) c.self.view_is)
    (ap (λ (os : List Opened). reverse (map entry_of os)) pushed ∙ outer-push c.self.inside.outer.items _
    ∙ ap (λ (t : StackParts). record t.top { rest = c.args.rest.now } ∷ t.outer) c.self.view_is)
    (c.in_ok-zeros.ensures.put
    ∙ ap (λ (xs : List Value). xs ++ zeros_of (locals_of_runs c.locals.result.now))
    (values-kept c.self.inside s have c.self.view_is c.self.invariant.used c.requires.values)
    ∙ ap (λ (runs : List (ℕ × ValType)). take have s.values ++ zeros_of (locals_of_runs runs)) c.locals.ensures)
    c.in_ok-zeros.ensures.used
