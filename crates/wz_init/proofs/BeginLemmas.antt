-- The run of all phases begins with the module's fresh instance.
use Rattle.std.proofs.Common.{◌≡◌, ℕ, List, [], ◌∷◌, Option, Some, None, true, IsTrue, map, refl, sym, ap, subst, ◌∙◌}
use Rattle.wz_types.specs.declared.types.ValType.{ValType}
use Rattle.wz_types.specs.FunctionType.{FunctionType}
use Rattle.wz_code.specs.BodyParts.{BodyParts}
use Rattle.wz_module.specs.Functions.{body_tree_of}
use Rattle.wz_module.specs.Module.{Module}
use Rattle.wz_valid.specs.Validity.{IsValid}
use Rattle.wz_valid.specs.Profile.{IsInProfile}
use Rattle.wz_valid.specs.Laws.{StartTakesNothing}
use Rattle.wz_store.specs.Made.{StoreState}
use Rattle.wz_machine.specs.State.{State, LastingParts, Callable, callable_at, state_of}
use Rattle.wz_machine.specs.Terms.{Standing}
use Rattle.wz_machine.specs.Replies.{all_fit_in, takes_values}
use Rattle.wz_machine.specs.TypedState.{state_context}
use Rattle.wz_machine.specs.TypedTerms.{IsStackTyped}
use Rattle.wz_machine.specs.Machines.{MachineParts, machine_state}
use Rattle.wz_init.specs.declared.order.RunOrder.{RunOrder}
use Rattle.wz_init.specs.States.{state_in}
use Rattle.wz_init.specs.Instances.{Fresh, Instance}
use Rattle.wz_init.specs.Instantiation.{fresh}
use Rattle.wz_init.specs.Ready.{phases, phases_run, ready_from, ready}
use Rattle.wz_init.specs.Reached.{IsSound, IsReachedOf}
use Rattle.wz_init.specs.Laws.{FreshIsReached, StateByBodies}
use Rattle.wz_init.specs.Orders.{IsPlainFunction, IsPlainWhereGiven, IsRunnable}
use Rattle.wz_init.specs.Turns.{HasEnded, FunctionsAreSmall, TakesNothing, PhaseTakesNothing, PhasesTakeNothing}
use Rattle.wz_init.specs.Typed.{DatasHoldBytes, FreshIsTyped}
use Rattle.wz_init.proofs.SmallLemmas.{functions_small}
use Rattle.wz_init.proofs.TypedFresh.{IsSelfTyped}
use Rattle.wz_init.proofs.TypedRuns.{plain_takes}

-- the state of a machine that has the module's bodies
pub machine_is : StateByBodies → (m : Module) (machine : MachineParts) (bodies : List BodyParts) (store : StoreState) → machine.bodies ≡ bodies
    → map body_tree_of bodies ≡ m.bodies → machine.store ≡ store → state_in m store ≡ machine_state machine
machine_is law m machine bodies store same trees kept =
    law m bodies store trees ∙ ap (λ (bs : List BodyParts). state_of bs store) (sym same) ∙ ap (λ (s : StoreState). state_of machine.bodies s) (sym kept)

pub record IsBegun (m : Module) (s : State) : Type 0 where
  pub first : fresh m ≡ Instance s
  pub reached : IsReachedOf m s

pub begun : StateByBodies → FreshIsReached → (m : Module) (machine : MachineParts) (bodies : List BodyParts) (store : StoreState) → IsValid m → IsInProfile m
    → machine.bodies ≡ bodies → map body_tree_of bodies ≡ m.bodies → machine.store ≡ store → fresh m ≡ Instance (state_in m store) → IsBegun m (machine_state machine)
begun law made m machine bodies store valid profile same trees kept is =
    let first : fresh m ≡ Instance (machine_state machine) =
    is ∙ ap (λ (s : State). Instance s) (machine_is law m machine bodies store same trees kept) in
    record { first = first; reached = made m (machine_state machine) valid profile first }

pub begun_sound : (m : Module) (s : State) → IsBegun m s → IsSound s
begun_sound m s b = record { pages = b.reached.left.pages; sizes = b.reached.left.sizes; fitting = b.reached.left.fitting; own = b.reached.left.own }

pub begun_typed : FreshIsTyped → (m : Module) (s : State) → IsValid m → IsInProfile m → DatasHoldBytes m → IsBegun m s → IsSelfTyped s
begun_typed law m s valid profile datas b = law m s valid profile datas b.first

pub begun_ended : (m : Module) (s : State) (stack : List Standing) → IsSelfTyped s → IsBegun m s → stack ≡ [] → HasEnded s stack
begun_ended m s stack typed b empty = record {
  typed = record { state = typed; terms = subst (λ (x : List Standing). IsStackTyped (state_context s) x) (sym empty) tt };
  own = b.reached.left.own;
  empty = empty;
}

pub begun_small : (m : Module) (s : State) → IsInProfile m → IsBegun m s → FunctionsAreSmall s
begun_small m s profile b = functions_small m s profile (ap (λ (p : LastingParts). p.functions) b.reached.module_parts)

no_parameters : (s : State) (type : FunctionType) → all_fit_in s [] type.params ≡ true → type.params ≡ []
no_parameters s type fit = by type.params fit
  where
    by : (params : List ValType) → all_fit_in s [] params ≡ true → params ≡ []
    by [] e = refl
    by (param ∷ params) e = absurd (cc e)

taken : (s : State) (function : ℕ) (o : Option Callable) → callable_at s.types s.functions function ≡ o → IsTrue (takes_values s o []) → TakesNothing s function
taken s function None here h = absurd (cc h)
taken s function (Some callable) here h = record { callable = callable; there = here; takes = no_parameters s callable.type h }

takes_there : (m : Module) (s : State) (function : ℕ) → IsSelfTyped s → IsBegun m s → IsPlainFunction m function → TakesNothing s function
takes_there m s function typed b plain =
    taken s function (callable_at s.types s.functions function) refl (plain_takes m s function typed b.reached.module_parts plain)

reactor_takes : (m : Module) (s : State) (function : Option ℕ) → IsSelfTyped s → IsBegun m s → IsPlainWhereGiven m function → PhaseTakesNothing s function
reactor_takes m s None typed b plain = tt
reactor_takes m s (Some function) typed b plain = takes_there m s function typed b plain

start_takes : StartTakesNothing → (m : Module) (s : State) (start : Option ℕ) → IsValid m → IsSelfTyped s → IsBegun m s → m.start ≡ start
    → PhaseTakesNothing s start
start_takes law m s None valid typed b is = tt
start_takes law m s (Some function) valid typed b is = takes_there m s function typed b (law m function valid is)

pub begun_takes : StartTakesNothing → (m : Module) (s : State) (start : Option ℕ) (order : RunOrder) → IsValid m → IsRunnable m order → IsSelfTyped s
    → IsBegun m s → start ≡ m.start → PhasesTakeNothing s start order
begun_takes law m s start order valid runnable typed b is = record {
  start_phase = start_takes law m s start valid typed b (sym is);
  reactor_phase = reactor_takes m s order.reactor typed b runnable.reactor_function;
  init_phase = takes_there m s order.function typed b runnable.init_function;
}

pub begun_ready : (m : Module) (s : State) (start : Option ℕ) (order : RunOrder) → IsBegun m s → start ≡ m.start
    → ready m order ≡ phases_run (phases start order) s order.fuel 0
unfolding ready
begun_ready m s start order b is =
    ap (λ (made : Fresh). ready_from m order made) b.first ∙ ap (λ (o : Option ℕ). phases_run (phases o order) s order.fuel 0) (sym is)
