-- From what the code of a group of plain instructions answers to what is said of any plain instruction.
use Rattle.std.proofs.Common.{◌≡◌, ℕ, List, [], Result, Ok, Err, IfOk, refl, ap, ◌∙◌, arith}
use Rattle.wz_types.specs.declared.value.Value.{Value}
use Rattle.wz_code.specs.declared.numeric.NumOp.{NumOp}
use Rattle.wz_code.specs.declared.instr.Instr.{Instr}
use Rattle.wz_code.specs.declared.instr.Instr.TheVariants.{Num}
use Rattle.wz_code.specs.BodyParts.{BodyParts}
use Rattle.wz_store.specs.declared.function.Function.{Function}
use Rattle.wz_store.specs.State.{StateOf}
use Rattle.wz_store.specs.Changes.{Nothing}
use Rattle.wz_machine.specs.declared.plain.Plain.{Plain}
use Rattle.wz_machine.specs.declared.plain.Plain.TheVariants.{Went, Trapped, NoRule, Special}
use Rattle.wz_machine.specs.Outcomes.{Effect, Does}
use Rattle.wz_machine.specs.PlainSteps.{ValueReply, NumberReply, StoreReply, site, step_at, HoldsNone, Yielded, PlainReply}

-- a rule on values, which may look at the functions
pub of_values : (reply : Plain) (body : BodyParts) (instr other : Instr) (effect : List BodyParts → Effect) (have : ℕ) (locals own new : List Value) (store : StateOf Function)
    → instr ≡ other → HoldsNone body other → ((bodies : List BodyParts) → step_at body other have (site locals own store) bodies ≡ Does (effect bodies))
    → ((bodies : List BodyParts) → ValueReply reply (effect bodies) have own new) → PlainReply reply body instr have (site locals own store) (site locals new store)
of_values (Went n) body instr other effect have locals own new store is alone steps r =
    rw is (alone, (r []).0, λ bodies. Yielded Nothing (steps bodies ∙ ap (λ e. Does e) (r bodies).1) refl refl)
of_values (Trapped kind) body instr other effect have locals own new store is alone steps r =
    rw is (alone, (λ bodies. steps bodies ∙ ap (λ e. Does e) (r bodies).0), ap (λ (vs : List Value). site locals vs store) (r []).1)
of_values NoRule body instr other effect have locals own new store is alone steps r =
    rw is (alone, (λ bodies. steps bodies ∙ ap (λ e. Does e) (r bodies).0), ap (λ (vs : List Value). site locals vs store) (r []).1)
of_values Special body instr other effect have locals own new store is alone steps r = absurd (r [])

-- a rule that changes the store
pub of_store : (reply : Plain) (body : BodyParts) (instr other : Instr) (effect : Effect) (have : ℕ) (locals own : List Value) (store after : StateOf Function)
    → instr ≡ other → HoldsNone body other → ((bodies : List BodyParts) → step_at body other have (site locals own store) bodies ≡ Does effect)
    → StoreReply reply effect have own store after → PlainReply reply body instr have (site locals own store) (site locals own after)
of_store (Went n) body instr other effect have locals own store after is alone steps r =
    rw is (alone, omega (arith, r.0), λ bodies. Yielded r.1.change (steps bodies ∙ ap (λ e. Does e) r.1.yields) r.1.leaves refl)
of_store (Trapped kind) body instr other effect have locals own store after is alone steps r =
    rw is (alone, (λ bodies. steps bodies ∙ ap (λ e. Does e) r.0), ap (λ (s : StateOf Function). site locals own s) r.1)
of_store NoRule body instr other effect have locals own store after is alone steps r =
    rw is (alone, (λ bodies. steps bodies ∙ ap (λ e. Does e) r.0), ap (λ (s : StateOf Function). site locals own s) r.1)
of_store Special body instr other effect have locals own store after is alone steps r = absurd r

-- the same of one that memory may be refused for
pub of_store_if : {E : Type 0} (result : Result Plain E) (body : BodyParts) (instr other : Instr) (effect : Effect) (have : ℕ) (locals own : List Value) (store after : StateOf Function)
    → instr ≡ other → HoldsNone body other → ((bodies : List BodyParts) → step_at body other have (site locals own store) bodies ≡ Does effect)
    → IfOk result (λ reply. StoreReply reply effect have own store after)
    → IfOk result (λ reply. PlainReply reply body instr have (site locals own store) (site locals own after))
of_store_if (Ok reply) body instr other effect have locals own store after is alone steps r =
    of_store reply body instr other effect have locals own store after is alone steps r
of_store_if (Err e) body instr other effect have locals own store after is alone steps r = tt

-- a numeric operation
pub of_number : (reply : Plain) (body : BodyParts) (instr : Instr) (op : NumOp) (have : ℕ) (locals own new : List Value) (store : StateOf Function)
    → instr ≡ Num op → NumberReply reply op have own new → PlainReply reply body instr have (site locals own store) (site locals new store)
of_number (Went n) body instr op have locals own new store is r =
    rw is ((λ rest. refl), r.0, λ bodies. Yielded Nothing (ap (λ e. Does e) r.1) refl refl)
of_number (Trapped kind) body instr op have locals own new store is r =
    rw is ((λ rest. refl), (λ bodies. ap (λ e. Does e) r.0), ap (λ (vs : List Value). site locals vs store) r.1)
of_number NoRule body instr op have locals own new store is r =
    rw is ((λ rest. refl), (λ bodies. ap (λ e. Does e) r.0), ap (λ (vs : List Value). site locals vs store) r.1)
of_number Special body instr op have locals own new store is r = rw is (r.0, ap (λ (vs : List Value). site locals vs store) r.1)
