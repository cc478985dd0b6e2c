-- A step of the machine's stacks behind an instruction: it goes on, asks, traps, is stuck, or enters a call.
use Rattle.std.proofs.Common.{◌≡◌, ◌≤◌, ◌<◌, ℕ, ◌+◌, ◌-◌, List, [], ◌∷◌, ◌++◌, length, map, take, drop, reverse, refl, ap, sym, ◌∙◌, arith, true, false, Option, Some, None, nat_le, if◌then◌else◌}
use Rattle.std.proofs.lemmas.List.{length-append, length-take-le, length-drop, length-reverse, reverse-reverse, take-take, take-append-le, drop-append-le, take_all, drop_all}
use Rattle.std.proofs.lemmas.Bool.Decides.{nat_tests}
use Rattle.wz_types.specs.declared.value.Value.{Value}
use Rattle.wz_types.specs.declared.trap.TrapKind.{TrapKind}
use Rattle.wz_types.specs.FunctionType.{FunctionType}
use Rattle.wz_code.specs.declared.instr.Instr.{Instr}
use Rattle.wz_code.specs.BodyParts.{BodyParts}
use Rattle.wz_code.specs.BlockRule.{IsBody}
use Rattle.wz_code.specs.Trees.{Code, Then, leaf_in, headed_in, code_in, tree_of}
use Rattle.wz_store.specs.Changes.{Nothing}
use Rattle.wz_code.specs.declared.instr.Instr.TheVariants.{Call}
use Rattle.wz_valid_code.specs.Context.{locals_of_runs}
use Rattle.wz_machine.specs.declared.questions.HostTarget.{HostTarget}
use Rattle.wz_machine.specs.declared.questions.HostTarget.TheVariants as target
use Rattle.wz_machine.specs.State.{State, FunctionBody, OwnBody, ImportedBody, Callable, callable_at}
use Rattle.wz_machine.specs.Terms.{Term, Question, AskHost}
use Rattle.wz_machine.specs.Outcomes.{Yields, Poses, Fails, HasNoRule, Outcome, Does, Calls, Next, Trap, Ask, Stuck}
use Rattle.wz_machine.specs.InstrSteps.{leaf_step}
use Rattle.wz_machine.specs.CallSteps.{with_arguments, invocation, call_step}
use Rattle.wz_machine.specs.Step.{code_reduct, outcome_reduct, step}
use Rattle.wz_machine.specs.Contexts.{FrameContent, term_in, code_content}
use Rattle.wz_machine.specs.Flat.{Opened, locals_in, own_values, layers_of, results_of, content_of, layers_in}
use Rattle.wz_machine.specs.Stacks.{StackParts, opened_of, flat_of, stacks_term, IsStacked, last_values, first_values}
use Rattle.wz_machine.specs.Asks.{ComesTo, HasAsked}
use Rattle.wz_machine.specs.Opening.{stepped}
use Rattle.wz_machine.specs.Standings.{AskingHost}
use Rattle.wz_machine.specs.Turns.{own_of}
use Rattle.wz_machine.specs.Calling.{zeroed_locals, call_in, with_call}
use Rattle.wz_machine.proofs.ContextLemmas.{step_within}
use Rattle.wz_machine.proofs.FlatLemmas.{take-front, locals-front, moved-term, opening_step}
use Rattle.wz_machine.proofs.StackLemmas.{block-code}
use Rattle.wz_machine.proofs.ListLemmas.{take-own, drop-own}

-- ---- the term behind an instruction

-- with other values of the innermost block
abbrev pub beyond : StackParts → List Instr → List Value → StackParts
beyond s rest values = record { top = record s.top { rest = rest }; outer = s.outer; values = values }

-- the content of the innermost block then
abbrev pub beyond_content : StackParts → List Instr → List Value → FrameContent
beyond_content s rest values = code_content (locals_in (opened_of s.top) s.values) (reverse (drop s.top.height values)) (code_in s.top.body rest)

beyond_term : (s : StackParts) (rest : List Instr) (values : List Value) → IsStacked s → take s.top.height values ≡ take s.top.height s.values
    → term_in (results_of (flat_of s).top (flat_of s).outer) (layers_in (flat_of s)) (beyond_content s rest values) ≡ stacks_term (beyond s rest values)
beyond_term s rest values is front =
    let top : Opened = opened_of s.top in
    let outer : List Opened = map opened_of s.outer in
    let own : List Value = reverse (drop s.top.height values) in
    let code : Code = code_in s.top.body rest in
    let base : take s.top.base values ≡ take s.top.base s.values = take-front s.top.base s.top.height values s.values is.room.base front in
    let locals : locals_in top values ≡ locals_in top s.values = locals-front top s.top.height values s.values is.room.locals is.room.height front in
    ap (λ (below : List Value). term_in (results_of top outer) (layers_of top outer below) (beyond_content s rest values)) (sym base)
    ∙ ap (λ (ls : List Value). term_in (results_of top outer) (layers_of top outer (take s.top.base values)) (code_content ls own code)) (sym locals)
    ∙ moved-term top code outer (take s.top.base values) (code_content (locals_in top values) own code)

-- ---- what the instruction in front comes to

pub instr_comes : (st : State) (s : StackParts) (instr : Instr) (rest : List Instr) → s.top.rest ≡ instr ∷ rest
    → ((code : Code) → headed_in s.top.body instr code ≡ Then (leaf_in s.top.body instr) code)
    → ComesTo st s rest (leaf_step st (locals_in (opened_of s.top) s.values) (leaf_in s.top.body instr) (reverse (drop s.top.height s.values)))
instr_comes st s instr rest at plain =
    let locals : List Value = locals_in (opened_of s.top) s.values in
    let own : List Value = reverse (drop s.top.height s.values) in
    ap (λ (code : List Instr). code_reduct st locals own (code_in s.top.body code)) at
    ∙ ap (λ (code : Code). code_reduct st locals own code) (plain (code_in s.top.body rest))

-- ---- the step then

module _ (st : State) (s : StackParts) (rest : List Instr) (is : IsStacked s) where
  pub went_step : (values : List Value) → take s.top.height values ≡ take s.top.height s.values
      → ComesTo st s rest (Does (Yields Nothing (reverse (drop s.top.height values)))) → step st (stacks_term s) ≡ Next Nothing (stacks_term (beyond s rest values))
  went_step values front comes =
      (step_within st (results_of (flat_of s).top (flat_of s).outer) (layers_in (flat_of s)) (content_of (flat_of s))).goes Nothing (beyond_content s rest values) comes
      ∙ ap (λ (term : Term). Next Nothing term) (beyond_term s rest values is front)

  pub asked_step : (question : Question) (values : List Value) → take s.top.height values ≡ take s.top.height s.values
      → ComesTo st s rest (Does (Poses question (reverse (drop s.top.height values)))) → step st (stacks_term s) ≡ Ask question (stacks_term (beyond s rest values))
  asked_step question values front comes =
      (step_within st (results_of (flat_of s).top (flat_of s).outer) (layers_in (flat_of s)) (content_of (flat_of s))).pauses question (beyond_content s rest values).inside comes
      ∙ ap (λ (term : Term). Ask question term) (beyond_term s rest values is front)

  pub trapped_step : (kind : TrapKind) → ComesTo st s rest (Does (Fails kind)) → step st (stacks_term s) ≡ Trap kind
  trapped_step kind comes = (step_within st (results_of (flat_of s).top (flat_of s).outer) (layers_in (flat_of s)) (content_of (flat_of s))).traps kind comes

  pub stuck_step : ComesTo st s rest (Does HasNoRule) → step st (stacks_term s) ≡ Stuck
  stuck_step comes = (step_within st (results_of (flat_of s).top (flat_of s).outer) (layers_in (flat_of s)) (content_of (flat_of s))).sticks comes

-- ---- arguments

pub args_taken : (type : FunctionType) (outcome : List Value → List Value → Outcome) (height : ℕ) (values : List Value) → height + length type.params ≤ length values
    → with_arguments type outcome (reverse (drop height values))
    ≡ outcome (last_values (length type.params) values) (reverse (drop height (first_values (length type.params) values)))
args_taken type outcome height values le =
    let p : ℕ = length type.params in
    let own : List Value = reverse (drop height values) in
    let len : length own ≡ length values - height = length-reverse (drop height values) ∙ length-drop height values in
    let enough : nat_le p (length own) ≡ true = grind (arith, nat_tests) in
    let args : reverse (take p own) ≡ last_values p values = ap (λ (xs : List Value). reverse xs) (take-own p height values le) ∙ reverse-reverse (last_values p values) in
    ap (λ b. if b then outcome (reverse (take p own)) (drop p own) else Does HasNoRule) enough
    ∙ ap (λ (xs : List Value). outcome xs (drop p own)) args
    ∙ ap (λ (xs : List Value). outcome (last_values p values) xs) (drop-own p height values le)

pub args_few : (type : FunctionType) (outcome : List Value → List Value → Outcome) (height : ℕ) (values : List Value) → length values - height < length type.params
    → with_arguments type outcome (reverse (drop height values)) ≡ Does HasNoRule
args_few type outcome height values lt =
    let p : ℕ = length type.params in
    let own : List Value = reverse (drop height values) in
    let len : length own ≡ length values - height = length-reverse (drop height values) ∙ length-drop height values in
    let short : nat_le p (length own) ≡ false = grind (arith, nat_tests) in
    ap (λ b. if b then outcome (reverse (take p own)) (drop p own) else Does HasNoRule) short

-- ---- a call is entered

pub called_step : (st : State) (s : StackParts) (rest : List Instr) (body : BodyParts) (have p results : ℕ) → IsStacked s → IsBody body → have ≤ length s.values
    → s.top.height + p ≤ have
    → ComesTo st s rest (Calls results (last_values p (take have s.values) ++ zeroed_locals body) (tree_of body 0) (reverse (drop s.top.height (first_values p (take have s.values)))))
    → step st (stacks_term s) ≡ Next Nothing (stacks_term (with_call s rest body have p results))
called_step st s rest body have p results is is_body within own comes =
    let v : List Value = take have s.values in
    let zeros : List Value = zeroed_locals body in
    let all : List Value = v ++ zeros in
    let new : Opened = opened_of (call_in s.top body results (have - p) (have + length zeros)) in
    let len : length v ≡ have = length-take-le have s.values within in
    let below : take (have - p) all ≡ first_values p v = take-append-le (have - p) v zeros (omega (arith, len)) ∙ ap (λ (n : ℕ). take (n - p) v) (sym len) in
    let args : drop (have - p) all ≡ last_values p v ++ zeros =
    drop-append-le (have - p) v zeros (omega (arith, len)) ∙ ap (λ (n : ℕ). drop (n - p) v ++ zeros) (sym len) in
    let size : length (last_values p v ++ zeros) ≡ length (last_values p v) + length zeros = length-append (last_values p v) zeros in
    let last : length (last_values p v) ≡ p = length-drop (length v - p) v ∙ omega (arith, len, own) in
    let locals : locals_in new all ≡ last_values p v ++ zeros =
    ap (λ (xs : List Value). take (have + length zeros - (have - p)) xs) args ∙ take_all (have + length zeros - (have - p)) (last_values p v ++ zeros) (omega (arith, size, last, own)) in
    let whole : length all ≡ length v + length zeros = length-append v zeros in
    let none : own_values new all ≡ [] = ap (λ (xs : List Value). reverse xs) (drop_all (have + length zeros) all (omega (arith, whole, len))) in
    let code : new.rest ≡ tree_of body 0 = block-code body 0 is_body in
    let first : take s.top.height (first_values p v) ≡ take s.top.height s.values =
    take-take s.top.height (length v - p) v (omega (arith, len, own)) ∙ take-take s.top.height have s.values (omega (arith, own)) in
    let front : take s.top.height (take (have - p) all) ≡ take s.top.height s.values = ap (λ (xs : List Value). take s.top.height xs) below ∙ first in
    let around : locals_in (opened_of s.top) (take (have - p) all) ≡ locals_in (opened_of s.top) s.values =
    locals-front (opened_of s.top) s.top.height (take (have - p) all) s.values is.room.locals is.room.height front in
    let under : own_values (opened_of s.top) (take (have - p) all) ≡ reverse (drop s.top.height (first_values p v)) =
    ap (λ (xs : List Value). reverse (drop s.top.height xs)) below in
    opening_step st (flat_of s) (code_in s.top.body rest) new all (comes ∙ cc (locals, none, code, around, under))
    (take-front s.top.base s.top.height (take (have - p) all) s.values is.room.base front)

-- ---- calls, by what the function does

-- too few arguments
pub few_called : (s : StackParts) (rest : List Instr) (callable : Callable) (have : ℕ) → IsStacked s → have ≤ length s.values
    → have - s.top.height < length callable.type.params
    → (st : State) → ComesTo st s rest (call_step (Some callable) (own_of s have)) → step st (stacks_term s) ≡ Stuck
few_called s rest callable have is within lt st comes =
    let len : length (take have s.values) ≡ have = length-take-le have s.values within in
    stuck_step st s rest is
    (comes ∙ ap (λ (o : Outcome). outcome_reduct (locals_in (opened_of s.top) s.values) (code_in s.top.body rest) o)
    (args_few callable.type (λ arguments below. invocation callable.type callable.body arguments below) s.top.height (take have s.values) (omega (arith, len, lt))))

-- the arguments are there
pub comes_taken : (s : StackParts) (rest : List Instr) (type : FunctionType) (outcome : List Value → List Value → Outcome) (have : ℕ) → have ≤ length s.values
    → s.top.height + length type.params ≤ have → (st : State) → ComesTo st s rest (with_arguments type outcome (own_of s have))
    → ComesTo st s rest (outcome (last_values (length type.params) (take have s.values)) (reverse (drop s.top.height (first_values (length type.params) (take have s.values)))))
comes_taken s rest type outcome have within own st comes =
    let len : length (take have s.values) ≡ have = length-take-le have s.values within in
    comes ∙ ap (λ (o : Outcome). outcome_reduct (locals_in (opened_of s.top) s.values) (code_in s.top.body rest) o)
    (args_taken type outcome s.top.height (take have s.values) (omega (arith, len, own)))

-- a function of the instance's own
pub own_called : (s : StackParts) (rest : List Instr) (type : FunctionType) (what : FunctionBody) (body : BodyParts) (have : ℕ) → IsStacked s → IsBody body
    → have ≤ length s.values → s.top.height + length type.params ≤ have → what ≡ OwnBody (locals_of_runs body.locals) (tree_of body 0)
    → (st : State) → ComesTo st s rest (call_step (Some (record { type = type; body = what })) (own_of s have))
    → step st (stacks_term s) ≡ Next Nothing (stacks_term (with_call s rest body have (length type.params) (length type.results)))
own_called s rest type what body have is is_body within own e st comes =
    let taken = comes_taken s rest type (λ arguments below. invocation type what arguments below) have within own st comes in
    let args : List Value = last_values (length type.params) (take have s.values) in
    let below : List Value = reverse (drop s.top.height (first_values (length type.params) (take have s.values))) in
    called_step st s rest body have (length type.params) (length type.results) is is_body within own
    (taken ∙ ap (λ (f : FunctionBody). outcome_reduct (locals_in (opened_of s.top) s.values) (code_in s.top.body rest) (invocation type f args below)) e)

-- a question for the host, with the last of so many values as arguments
pub asked_host : (s : StackParts) (rest : List Instr) (target : HostTarget) (type : FunctionType) (have : ℕ) → IsStacked s → have ≤ length s.values
    → s.top.height + length type.params ≤ have → (st : State)
    → ComesTo st s rest (Does (Poses (AskHost target (last_values (length type.params) (take have s.values)) type)
    (reverse (drop s.top.height (first_values (length type.params) (take have s.values))))))
    → HasAsked (step st (stacks_term s)) (AskingHost target type) (length type.params) (stepped s rest have)
asked_host s rest target type have is within own st comes =
    let p : ℕ = length type.params in
    let v : List Value = take have s.values in
    let len : length v ≡ have = length-take-le have s.values within in
    let front : take s.top.height (first_values p v) ≡ take s.top.height s.values =
    take-take s.top.height (length v - p) v (omega (arith, len, own)) ∙ take-take s.top.height have s.values (omega (arith, own)) in
    record {
      asks = asked_step st s rest is (AskHost target (last_values p v) type) (first_values p v) front comes;
      operands = omega (arith, len, own);
      answerable = tt;
    }

pub import_called : (s : StackParts) (rest : List Instr) (type : FunctionType) (what : FunctionBody) (number have : ℕ) → IsStacked s
    → have ≤ length s.values → s.top.height + length type.params ≤ have → what ≡ ImportedBody number
    → (st : State) → ComesTo st s rest (call_step (Some (record { type = type; body = what })) (own_of s have))
    → HasAsked (step st (stacks_term s)) (AskingHost (target.Import number) type) (length type.params) (stepped s rest have)
import_called s rest type what number have is within own e st comes =
    let taken = comes_taken s rest type (λ arguments below. invocation type what arguments below) have within own st comes in
    let args : List Value = last_values (length type.params) (take have s.values) in
    let below : List Value = reverse (drop s.top.height (first_values (length type.params) (take have s.values))) in
    asked_host s rest (target.Import number) type have is within own st
    (taken ∙ ap (λ (f : FunctionBody). outcome_reduct (locals_in (opened_of s.top) s.values) (code_in s.top.body rest) (invocation type f args below)) e)

-- ---- call x

pub call_comes : (st : State) (s : StackParts) (function : ℕ) (rest : List Instr) (have : ℕ) (found : Option Callable) → s.top.rest ≡ Call function ∷ rest
    → length s.values ≡ have → callable_at st.types st.functions function ≡ found → ComesTo st s rest (call_step found (own_of s have))
call_comes st s function rest have found at len is =
    let all : s.values ≡ take have s.values = sym (take_all have s.values (omega (arith, len))) in
    instr_comes st s (Call function) rest at (λ code. refl)
    ∙ ap (λ (o : Option Callable). outcome_reduct (locals_in (opened_of s.top) s.values) (code_in s.top.body rest) (call_step o (reverse (drop s.top.height s.values)))) is
    ∙ ap (λ (vs : List Value). outcome_reduct (locals_in (opened_of s.top) s.values) (code_in s.top.body rest) (call_step found (reverse (drop s.top.height vs)))) all

pub missing_called : (st : State) (s : StackParts) (function : ℕ) (rest : List Instr) → IsStacked s → s.top.rest ≡ Call function ∷ rest
    → callable_at st.types st.functions function ≡ None → step st (stacks_term s) ≡ Stuck
missing_called st s function rest is at none = stuck_step st s rest is (call_comes st s function rest (length s.values) None at refl none)
