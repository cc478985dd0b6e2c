-- Section 7.5 of the Core Specification (soundness, in the appendix): when values, frames, labels, terms and stacks of terms are typed. It
-- rests on the context alone, which no step and no access changes, so a term stays typed whatever is done while it waits.
use Rattle.std.specs.Prelude.{◌≡◌, List, [], ◌∷◌, Option, Some, None, slice_get, length}
use Rattle.wz_types.specs.declared.types.ValType.{ValType}
use Rattle.wz_types.specs.declared.types.ValType.TheVariants.{I32}
use Rattle.wz_types.specs.declared.types.RefKind.{RefKind}
use Rattle.wz_types.specs.declared.value.Value.{Value}
use Rattle.wz_types.specs.declared.value.Value.TheVariants.{Ref}
use Rattle.wz_types.specs.Fits.{type_of_kind}
use Rattle.wz_code.specs.Numeric.{types_of}
use Rattle.wz_code.specs.Trees.{Code}
use Rattle.wz_valid_code.specs.Operands.{Operands, pushed}
use Rattle.wz_valid_code.specs.Context.{TypingContext, Scope, Labels}
use Rattle.wz_valid_code.specs.Typing.{IsTyped}
use Rattle.wz_machine.specs.State.{State}
use Rattle.wz_machine.specs.Terms.{Inside, Innermost, InLabel, InFrame, Term, Frame, BareValues, Question, AskFloat, AskMemory, AskTable, AskHost, Standing, Runs, Waits}
use Rattle.wz_machine.specs.Replies.{put}
use Rattle.wz_machine.specs.TypedState.{state_context, HasType, IsStateTyped}

-- ---- values

-- values that fit these operand types, one by one, the last pushed first; no value is of the type `any`
abbrev pub HaveTypes : TypingContext → List Value → Operands → Type 0
HaveTypes context [] [] = Unit {0}
HaveTypes context (value ∷ values) (Some type ∷ operands) = HasType context value type × HaveTypes context values operands
HaveTypes context values operands = ⊥

-- value types as operand types, in the same order
abbrev pub as_operands : List ValType → Operands
as_operands [] = []
as_operands (type ∷ types) = Some type ∷ as_operands types

-- ---- labels and frames

-- the body of a function with locals and results of these types
abbrev pub scope_with : TypingContext → List ValType → List ValType → Scope
scope_with context locals results = record { context = context; locals = locals; results = results }

-- What a branch to a label goes on with, with values of the types `carried`: the end of a block that gives `ends`, or a loop's
-- instructions anew.
abbrev pub Continues : Scope → Labels → List ValType → List ValType → Option Code → Type 0
Continues scope labels carried ends None = carried ≡ ends
Continues scope labels carried ends (Some again) = IsTyped scope (carried ∷ labels) again (pushed carried []) ends

-- the instructions behind a label or a frame that gives values of the types `ends`, onto the values below it
pub record IsRestTyped (scope : Scope) (labels : Labels) (ends : List ValType) (below : List Value) (rest : Code) (results : List ValType) : Type 0 where
  pub operands : Operands
  pub values : HaveTypes scope.context below operands
  pub code : IsTyped scope labels rest (pushed ends operands) results

-- What stands in a frame gives values of the types `results`, within labels whose branches take values of the types `labels`. A frame has
-- locals and results of its own, and its function's label around its instructions.
abbrev pub IsInsideTyped : Scope → Labels → Inside → List ValType → Type 0
IsInsideTyped scope labels (Innermost values code) results =
    (before : Operands) × HaveTypes scope.context values before × IsTyped scope labels code before results
IsInsideTyped scope labels (InLabel below count again inside rest) results =
    (carried : List ValType) × (ends : List ValType) × (count ≡ length carried) × IsInsideTyped scope (carried ∷ labels) inside ends
    × Continues scope labels carried ends again × IsRestTyped scope labels ends below rest results
IsInsideTyped scope labels (InFrame below count own inside rest) results =
    (types : List ValType) × (ends : List ValType) × (count ≡ length ends) × HaveTypes scope.context own (as_operands types)
    × IsInsideTyped (scope_with scope.context types ends) (ends ∷ []) inside ends × IsRestTyped scope labels ends below rest results

-- ---- terms

-- the term gives values of these types
abbrev pub IsTermTyped : TypingContext → Term → List ValType → Type 0
IsTermTyped context (Frame count locals inside) results =
    (types : List ValType) × (count ≡ length results) × HaveTypes context locals (as_operands types)
    × IsInsideTyped (scope_with context types results) (results ∷ []) inside results
IsTermTyped context (BareValues values) results = HaveTypes context values (pushed results [])

-- the types of what answers a question
abbrev pub answer_types : Question → List ValType
answer_types (AskFloat op operands) = (types_of op).result ∷ []
answer_types (AskMemory index by) = I32 ∷ []
answer_types (AskTable index by reference) = I32 ∷ []
answer_types (AskHost target arguments type) = type.results

-- what a table is to be filled with fits it
abbrev pub IsQuestionTyped : TypingContext → Question → Type 0
IsQuestionTyped context (AskFloat op operands) = Unit {0}
IsQuestionTyped context (AskMemory index by) = Unit {0}
IsQuestionTyped context (AskTable index by reference) =
    (kind : RefKind) → slice_get context.tables index ≡ Some kind → HasType context (Ref reference) (type_of_kind kind)
IsQuestionTyped context (AskHost target arguments type) = Unit {0}

-- a term that waits: it gives these results with whatever answers its question
pub record IsWaitingTyped (context : TypingContext) (question : Question) (rest : Term) (results : List ValType) : Type 0 where
  pub asked : IsQuestionTyped context question
  pub answered : (values : List Value) → HaveTypes context values (pushed (answer_types question) []) → IsTermTyped context (put values rest) results

abbrev pub IsStandingTyped : TypingContext → Standing → Type 0
IsStandingTyped context (Runs term) = (results : List ValType) × IsTermTyped context term results
IsStandingTyped context (Waits question rest) = (results : List ValType) × IsWaitingTyped context question rest results

abbrev pub IsStackTyped : TypingContext → List Standing → Type 0
IsStackTyped context [] = Unit {0}
IsStackTyped context (standing ∷ below) = IsStandingTyped context standing × IsStackTyped context below

-- ---- an instance in which terms stand

pub record IsMachineTyped (s : State) (stack : List Standing) : Type 0 where
  pub state : IsStateTyped (state_context s) s
  pub terms : IsStackTyped (state_context s) stack
