-- What an instruction, and what a step of an inside, comes to where it is typed: the layers between the rule of an instruction and the step.
use Rattle.std.proofs.Common.{◌≡◌, ◌≤◌, ◌∷◌, [], ℕ, List, length, take, slice_get, Some}
use Rattle.wz_types.specs.declared.types.ValType.{ValType}
use Rattle.wz_types.specs.declared.value.Value.{Value}
use Rattle.wz_code.specs.Trees.{Code, Leaf}
use Rattle.wz_valid_code.specs.Context.{TypingContext, Scope, Labels}
use Rattle.wz_valid_code.specs.Operands.{pushed, Operands}
use Rattle.wz_valid_code.specs.Typing.{IsTyped}
use Rattle.wz_valid_code.specs.Rules.{Leads}
use Rattle.wz_valid_code.specs.Instructions.{rule_of}
use Rattle.wz_machine.specs.TypedState.{HasType, state_context}
use Rattle.wz_machine.specs.TypedTerms.{HaveTypes, answer_types, IsQuestionTyped, as_operands, scope_with, IsInsideTyped}
use Rattle.wz_machine.specs.State.{State}
use Rattle.wz_machine.specs.Outcomes.{Effect, Yields, Poses, Fails, HasNoRule, Outcome, Does, SetsLocals, Jumps, Quits, Calls, Reduct, Goes, Finishes, Branches, Returns, Pauses, Traps, Sticks}
use Rattle.wz_machine.specs.TypedSteps.{IsChangeTyped}
use Rattle.wz_machine.specs.Replies.{put_inside}
use Rattle.wz_machine.specs.InstrSteps.{leaf_step}

-- values of these types stand on top, the first type topmost
abbrev pub Offered : TypingContext → List ValType → List Value → Type 0
Offered context [] values = Unit {0}
Offered context (type ∷ types) [] = ⊥
Offered context (type ∷ types) (value ∷ values) = HasType context value type × Offered context types values

-- enough values for what a branch or a return takes along
pub record Offers (context : TypingContext) (values : List Value) (types : List ValType) : Type 0 where
  pub enough : length types ≤ length values
  pub carried : HaveTypes context (take (length types) values) (pushed types [])

-- values of these types, in the context of the state
abbrev pub Have : State → List Value → Operands → Type 0
Have s values operands = HaveTypes (state_context s) values operands

-- the effect leaves values of these types, once its question is answered
abbrev pub EffectServes : State → Operands → Effect → Type 0
EffectServes s next (Yields change values) = IsChangeTyped s change × Have s values next
EffectServes s next (Poses question values) =
    (below : Operands) × Have s values below × (next ≡ pushed (answer_types question) below) × IsQuestionTyped (state_context s) question
EffectServes s next (Fails kind) = Unit {0}
EffectServes s next HasNoRule = ⊥

-- a callee's frame is typed, and gives what is expected
pub record CallServes (context : TypingContext) (count : ℕ) (inner : List Value) (code : Code) (values : List Value) (next : Operands) : Type 0 where
  pub types : List ValType
  pub ends : List ValType
  pub long : count ≡ length ends
  pub locals : HaveTypes context inner (as_operands types)
  pub typed : IsTyped (scope_with context types ends) (ends ∷ []) code [] ends
  pub below : Operands
  pub stand : HaveTypes context values below
  pub leads : next ≡ pushed ends below

abbrev pub OutcomeServes : State → Scope → Labels → Operands → Outcome → Type 0
OutcomeServes s scope labels next (Does effect) = EffectServes s next effect
OutcomeServes s scope labels next (SetsLocals locals values) =
    Have s locals (as_operands scope.locals) × Have s values next
OutcomeServes s scope labels next (Jumps label values) =
    (types : List ValType) × (slice_get labels label ≡ Some types) × Offers (state_context s) values types
OutcomeServes s scope labels next (Quits values) = Offers (state_context s) values scope.results
OutcomeServes s scope labels next (Calls count inner code values) = CallServes (state_context s) count inner code values next

-- the same for what a step of an inside comes to that gives these results
abbrev pub ReductServes : State → Scope → Labels → List ValType → Reduct → Type 0
ReductServes s scope labels results (Goes change locals inside) =
    IsChangeTyped s change × Have s locals (as_operands scope.locals) × IsInsideTyped scope labels inside results
ReductServes s scope labels results (Finishes values) = Have s values (pushed results [])
ReductServes s scope labels results (Branches label values) =
    (types : List ValType) × (slice_get labels label ≡ Some types) × Offers (state_context s) values types
ReductServes s scope labels results (Returns values) = Offers (state_context s) values scope.results
ReductServes s scope labels results (Pauses question inside) =
    IsQuestionTyped (state_context s) question
    × ((values : List Value) → Have s values (pushed (answer_types question) []) → IsInsideTyped scope labels (put_inside values inside) results)
ReductServes s scope labels results (Traps kind) = Unit {0}
ReductServes s scope labels results Sticks = ⊥

abbrev pub scope_in : State → List ValType → List ValType → Scope
scope_in s types results = scope_with (state_context s) types results

-- each instruction that holds no others does what its rule says
pub record LeavesServe (s : State) : Type 0 where
  pub serves : (types results : List ValType) (labels : Labels) (leaf : Leaf) (locals values : List Value) (before next : Operands)
      → Leads (rule_of (scope_in s types results) labels leaf) before next → Have s values before → Have s locals (as_operands types)
      → OutcomeServes s (scope_in s types results) labels next (leaf_step s locals leaf values)
