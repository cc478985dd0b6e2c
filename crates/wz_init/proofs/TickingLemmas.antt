-- What a machine's tick leaves is what a run asks of it.
use Rattle.std.proofs.Common.{◌≡◌, ◌<◌, Bool, true, false, ℕ, zero, suc, length, ◌+◌, List, [], ◌∷◌, Option, Some, None, IfSome, IsSome, take, slice_get, option_map, refl, sym, ap, subst, ◌∙◌, arith}
use Rattle.std.proofs.lemmas.Option.{none-some, slice_get_within, get_or_from_slice_get}
use Rattle.std.proofs.lemmas.List.Sums.{sum_by_more}
use Rattle.wz_types.specs.declared.types.MemType.{MemType}
use Rattle.wz_code.specs.BodyParts.{BodyParts}
use Rattle.wz_store.specs.State.{Memory, pages_of, memory_type_of, pages_together}
use Rattle.wz_store.specs.Made.{StoreState}
use Rattle.wz_store.specs.Changes.{applied}
use Rattle.wz_machine.specs.declared.answers.Tick.{Tick}
use Rattle.wz_machine.specs.declared.questions.HostTarget.TheVariants as target
use Rattle.wz_machine.specs.State.{State, state_of}
use Rattle.wz_machine.specs.Terms.{Term, AskFloat, AskMemory, AskTable, AskHost, Standing, Runs}
use Rattle.wz_machine.specs.Outcomes.{Answer, Next, Done, Trap, Ask, Stuck}
use Rattle.wz_machine.specs.Step.{step}
use Rattle.wz_machine.specs.Moves.{Event}
use Rattle.wz_machine.specs.Replies.{Reply, answer_reply, tick_reply}
use Rattle.wz_machine.specs.Ticks.{event_of, tick_event}
use Rattle.wz_machine.specs.Machines.{MachineParts, machine_state, machine_stack, IsReplied}
use Rattle.wz_machine.specs.Laws.{ChangeReachesState}
use Rattle.wz_machine.specs.TypedTerms.{IsMachineTyped}
use Rattle.wz_machine.specs.TypedSteps.{IsNotStuck}
use Rattle.wz_machine.specs.TypedLaws.{TypedIsNotStuck}
use Rattle.wz_machine.specs.declared.advance.Advance.{Advance}
use Rattle.wz_machine.specs.Advance.{IsAdvance, StackAdvanced}
use Rattle.wz_init.specs.Turns.{top_term, IsAlone, IsTicked, HasTicked, HasAdvanced}
use Rattle.wz_init.specs.Events.{turned_by}
use Rattle.wz_init.specs.declared.turn.Turned.{Turned}

-- ---- replies

-- the state after a reply
pub replied : ChangeReachesState → (old new : MachineParts) (reply : Reply) → IsReplied old new reply → machine_state new ≡ applied reply.change (machine_state old)
replied law old new reply h =
    ap (λ (bodies : List BodyParts). state_of bodies new.store) h.bodies ∙ ap (λ (store : StoreState). state_of old.bodies store) h.store ∙ law old.bodies old.store reply.change

-- ---- a tick

ticked_by : (s after : State) (term : Term) (stack : List Standing) (answer : Answer) → step s term ≡ answer
    → after ≡ applied (answer_reply term [] answer).change s → stack ≡ (answer_reply term [] answer).stack
    → IfSome (turned_by (answer_reply term [] answer).event) (λ turned. IsTicked s term turned after stack)
ticked_by s after term stack (Next change new) e a b =
    (change, e ∙ ap (λ (t : Term). Next change t) (sym (ap top_term b)), a, b ∙ ap (λ (t : Term). Runs t ∷ []) (sym (ap top_term b)))
ticked_by s after term stack (Done values) e a b = (values, e, a, b)
ticked_by s after term stack (Trap kind) e a b = e
ticked_by s after term stack (Ask (AskFloat op operands) rest) e a b = (operands, rest, e)
ticked_by s after term stack (Ask (AskMemory index by) rest) e a b = (rest, e, a, b)
ticked_by s after term stack (Ask (AskTable index by value) rest) e a b = (index, by, value, rest, e)
ticked_by s after term stack (Ask (AskHost (target.Import number) arguments type) rest) e a b = (arguments, type, rest, e)
ticked_by s after term stack (Ask (AskHost (target.Foreign id) arguments type) rest) e a b = (arguments, type, rest, e)
ticked_by s after term stack Stuck e a b = tt

pub ticked : ChangeReachesState → (old new : MachineParts) (tick : Tick) (turned : Turned) → IsAlone (machine_stack old)
    → event_of tick ≡ tick_event (machine_state old) (machine_stack old)
    → IsReplied old new (tick_reply (machine_state old) (machine_stack old)) → turned_by (event_of tick) ≡ Some turned
    → IsTicked (machine_state old) (top_term (machine_stack old)) turned (machine_state new) (machine_stack new)
ticked law old new tick turned alone event reply is =
    let s = machine_state old in
    let term = top_term (machine_stack old) in
    let state = replied law old new (tick_reply s (machine_stack old)) reply in
    let shown = ap (λ (e : Event). turned_by e) (sym (event ∙ ap (λ (stack : List Standing). tick_event s stack) alone)) ∙ is in
    subst (λ (o : Option Turned). IfSome o (λ turned. IsTicked s term turned (machine_state new) (machine_stack new))) shown
    (ticked_by s (machine_state new) term (machine_stack new) (step s term) refl
    (state ∙ ap (λ (stack : List Standing). applied (tick_reply s stack).change s) alone)
    (reply.stack ∙ ap (λ (stack : List Standing). (tick_reply s stack).stack) alone))

-- what is seen of a tick that isn't stuck
seen_by : (term : Term) (answer : Answer) → (answer ≡ Stuck → ⊥) → IsSome (turned_by (answer_reply term [] answer).event)
seen_by term (Next change new) goes = refl
seen_by term (Done values) goes = refl
seen_by term (Trap kind) goes = refl
seen_by term (Ask (AskFloat op operands) rest) goes = refl
seen_by term (Ask (AskMemory index by) rest) goes = refl
seen_by term (Ask (AskTable index by value) rest) goes = refl
seen_by term (Ask (AskHost (target.Import number) arguments type) rest) goes = refl
seen_by term (Ask (AskHost (target.Foreign id) arguments type) rest) goes = refl
seen_by term Stuck goes = absurd (goes refl)

pub seen : TypedIsNotStuck → (s : State) (stack : List Standing) (tick : Tick) → IsMachineTyped s stack → IsAlone stack → event_of tick ≡ tick_event s stack
    → IsSome (turned_by (event_of tick))
seen law s stack tick typed alone event =
    let term = top_term stack in
    let goes : step s term ≡ Stuck → ⊥ = subst (λ (x : List Standing). IsNotStuck s x) alone (law s stack typed) in
    subst (λ (e : Event). IsSome (turned_by e)) (sym (event ∙ ap (λ (x : List Standing). tick_event s x) alone)) (seen_by term (step s term) goes)

-- ---- many ticks

gone_by : (entered : Bool) (limit made : ℕ) (s after : State) (term new : Term) → IsAdvance entered limit made s term after new
    → HasTicked entered made s term after new
gone_by true limit made s after term new steps = steps
gone_by false limit made s after term new steps = steps.0

-- a machine in which one term stands makes that term's steps
pub advanced : (done : Advance) (limit : ℕ) (s after : State) (before stack : List Standing) → IsAlone before
    → StackAdvanced done.entered limit done.made s before after stack → HasAdvanced done s (top_term before) after stack
advanced done limit s after before stack alone h =
    let term = top_term before in
    let steps = subst (λ (x : List Standing). StackAdvanced done.entered limit done.made s x after stack) alone h in
    let new : Term = steps.2.0 in
    let stands : stack ≡ Runs new ∷ [] = steps.1 ∙ ap (λ (x : Standing). x ∷ []) steps.2.1 in
    let top : new ≡ top_term stack = sym (ap (λ (x : List Standing). top_term x) stands) in
    record {
      alone = stands ∙ ap (λ (t : Term). Runs t ∷ []) top;
      ticks = subst (λ (t : Term). HasTicked done.entered done.made s term after t) top (gone_by done.entered limit done.made s after term new steps.2.2);
    }

-- ---- the pages of memories, added up one by one

abbrev min_in : Option MemType → ℕ
min_in None = 0
min_in (Some kind) = kind.limits.min

pub pages_more : (ms : List Memory) (i : ℕ) (kind : MemType) → option_map memory_type_of (slice_get ms i) ≡ Some kind
    → pages_together (take (i + 1) ms) ≡ pages_together (take i ms) + kind.limits.min
pages_more ms i kind is = there (slice_get ms i) refl is
  where
    there : (o : Option Memory) → slice_get ms i ≡ o → option_map memory_type_of o ≡ Some kind
        → pages_together (take (i + 1) ms) ≡ pages_together (take i ms) + kind.limits.min
    there None e h = absurd (none-some kind h)
    there (Some memory) e h =
        sum_by_more pages_of ms i memory (slice_get_within ms i memory e)
        ∙ ap (λ (m : Memory). pages_together (take i ms) + pages_of m) (get_or_from_slice_get ms i memory memory e)
        ∙ ap (λ (n : ℕ). pages_together (take i ms) + n) (ap min_in h)

pub memory_there : (ms : List Memory) (i : ℕ) → option_map memory_type_of (slice_get ms i) ≡ None → i < length ms → ⊥
memory_there [] i h less = absurd (omega (arith, less))
memory_there (memory ∷ ms) zero h less = none-some (memory_type_of memory) (sym h)
memory_there (memory ∷ ms) (suc i) h less = memory_there ms i h (omega (arith, less))
