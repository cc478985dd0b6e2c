-- Section 7.5 of the Core Specification (soundness, in the appendix): preservation and progress. A step and a move keep the typing, and nothing
-- that is typed is stuck.
use Rattle.std.specs.Prelude.{◌≡◌, ◌<◌, ◌^◌, ◌*◌, ℕ, List, length, IsTrue, IsSomeAnd}
use Rattle.std.specs.List.{All}
use Rattle.wz_types.specs.declared.types.ValType.{ValType}
use Rattle.wz_types.specs.declared.value.Value.{Value}
use Rattle.wz_store.specs.State.{page_size}
use Rattle.wz_store.specs.Changes.{Change, applied}
use Rattle.wz_store.specs.Lending.{with_contents_at}
use Rattle.wz_machine.specs.State.{State, callable_at}
use Rattle.wz_machine.specs.TypedState.{IsStateTyped, state_context}
use Rattle.wz_machine.specs.TypedSteps.{IsChangeTyped, IsAnswerTyped, IsReplyTyped, IsNotStuck, NoneStuck}
use Rattle.wz_machine.specs.Terms.{Term, Standing}
use Rattle.wz_machine.specs.TypedTerms.{IsTermTyped, IsStandingTyped, IsMachineTyped}
use Rattle.wz_machine.specs.Step.{step}
use Rattle.wz_machine.specs.Replies.{takes_values}
use Rattle.wz_machine.specs.Entered.{entered}
use Rattle.wz_machine.specs.Exports.{ExportInstance}
use Rattle.wz_machine.specs.Moves.{Move}
use Rattle.wz_machine.specs.Sessions.{move_reply}
use Rattle.wz_machine.specs.Contexts.{Layer, FrameContent, term_in, content_reduct}
use Rattle.wz_machine.specs.Outcomes.{Sticks}

-- ---- preservation

-- a change that fits keeps a state typed
abbrev pub ChangeKeepsTyping : Type 0
ChangeKeepsTyping = (s : State) (change : Change) → IsStateTyped (state_context s) s → IsChangeTyped s change
    → IsStateTyped (state_context (applied change s)) (applied change s)

-- A memory that was lent may come back with any bytes, on whole pages, without a term's typing being lost.
abbrev pub ContentsKeepTyping : Type 0
ContentsKeepTyping = (s : State) (stack : List Standing) (index pages : ℕ) (bytes : List ℕ) → IsMachineTyped s stack → All (λ byte. byte < 256) bytes
    → length bytes ≡ pages * page_size → pages < 2 ^ 32 → IsMachineTyped (with_contents_at s index bytes) stack

-- a step of a typed term in a typed state keeps the typing, and isn't stuck
abbrev pub StepKeepsTyping : Type 0
StepKeepsTyping = (s : State) (term : Term) (results : List ValType) → IsStateTyped (state_context s) s → IsTermTyped (state_context s) term results
    → IsAnswerTyped s results (step s term)

-- a call with values that fit the function's parameters gives a term, and a typed one
abbrev pub EntryIsTyped : Type 0
EntryIsTyped = (s : State) (function : ℕ) (values : List Value) → IsStateTyped (state_context s) s
    → IsTrue (takes_values s (callable_at s.types s.functions function) values)
    → IsSomeAnd (entered s function values) (λ standing. IsStandingTyped (state_context s) standing)

-- any move keeps the typing
abbrev pub MoveKeepsTyping : Type 0
MoveKeepsTyping = (exports : List ExportInstance) (s : State) (stack : List Standing) (move : Move) → IsMachineTyped s stack
    → IsReplyTyped s (move_reply exports s stack move)

-- ---- progress

-- whatever stands in the labels and frames of a typed term has a rule
abbrev pub ContentNeverSticks : Type 0
ContentNeverSticks = (s : State) (count : ℕ) (layers : List Layer) (content : FrameContent) (results : List ValType) → IsStateTyped (state_context s) s
    → IsTermTyped (state_context s) (term_in count layers content) results → content_reduct s content ≡ Sticks → ⊥

-- where typed terms stand, the topmost isn't stuck
abbrev pub TypedIsNotStuck : Type 0
TypedIsNotStuck = (s : State) (stack : List Standing) → IsMachineTyped s stack → IsNotStuck s stack

-- no list of moves from a typed state meets a step without a rule
abbrev pub NeverStuck : Type 0
NeverStuck = (s : State) (exports : List ExportInstance) (moves : List Move) → IsStateTyped (state_context s) s → NoneStuck s exports moves
