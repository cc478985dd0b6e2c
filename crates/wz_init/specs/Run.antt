-- The run of one function by steps of section 4.4 of the Core Specification, with fuel and limits, which are the tool's own. A tick is
-- one step. The fuel that is left and the ticks that were made go along, so that the next run goes on with them.
use Rattle.std.specs.Prelude.{ℕ, zero, suc, ◌+◌, nat_le, nat_lt, [], ◌∷◌, Option, Some, None, Bool, if◌then◌else◌, slice_get}
use Rattle.wz_types.specs.declared.trap.TrapKind.{TrapKind}
use Rattle.wz_types.specs.declared.value.Value.{Value}
use Rattle.wz_types.specs.declared.value.Value.TheVariants.{I32}
use Rattle.wz_code.specs.declared.numeric.NumOp.{NumOp}
use Rattle.wz_valid.specs.Profile.{pages_limit}
use Rattle.wz_store.specs.State.{Memory, pages_of, pages_together}
use Rattle.wz_store.specs.Changes.{Change, Nothing, GrowMemory, applied}
use Rattle.wz_machine.specs.declared.questions.HostTarget.TheVariants as target
use Rattle.wz_machine.specs.State.{State}
use Rattle.wz_machine.specs.Terms.{Term, Question, AskFloat, AskMemory, AskTable, AskHost, Standing, Runs, Waits}
use Rattle.wz_machine.specs.Outcomes.{Answer, Next, Done, Trap, Ask, Stuck}
use Rattle.wz_machine.specs.BulkSteps.{minus_one}
use Rattle.wz_machine.specs.Step.{step}
use Rattle.wz_machine.specs.Next.{next}
use Rattle.wz_machine.specs.Advance.{head_changes_table}
use Rattle.wz_machine.specs.Frames.{frame_count, local_count}
use Rattle.wz_machine.specs.Entered.{entered}
use Rattle.wz_machine.specs.Replies.{put}

-- why a run stops before its function has returned
pub data StopReason : Type 0 where
  FuelIsSpent : StopReason
  TableWouldChange : StopReason
  FramesAreTooMany : StopReason
  LocalsAreTooMany : StopReason
  StepTraps : TrapKind → StopReason
  NoRuleFits : StopReason
  FloatIsAsked : NumOp → StopReason
  ImportIsCalled : ℕ → StopReason

pub data RunEnd : Type 0 where
  -- the state, the fuel that is left, and the ticks that were made
  Returned : State → ℕ → ℕ → RunEnd
  Stopped : StopReason → RunEnd

-- ---- limits on what a step comes to: the frames that there are at one time, and the locals of all of them

abbrev pub frames_limit : ℕ
frames_limit = 20000

abbrev pub all_locals_limit : ℕ
all_locals_limit = 4000000

abbrev pub too_much : Term → Option StopReason
too_much term =
    if nat_lt frames_limit (frame_count term) then Some FramesAreTooMany
    else (if nat_lt all_locals_limit (local_count term) then Some LocalsAreTooMany else None)

-- the run goes on with this term, if it is within the limits
abbrev pub within_limits : (Term → RunEnd) → Term → Option StopReason → RunEnd
within_limits on term None = on term
within_limits on term (Some stop) = Stopped stop

-- ---- growth of a memory, which is asked for within the memory's own limits alone

-- it is granted where all memories together stay within the limit
abbrev pub is_granted : State → ℕ → Bool
is_granted s by = nat_le (pages_together s.memories + by) pages_limit

abbrev pub granted_growth : State → ℕ → ℕ → Change
granted_growth s index by = if is_granted s by then GrowMemory index by else Nothing

abbrev pub pages_at : Option Memory → ℕ
pages_at None = 0
pages_at (Some memory) = pages_of memory

-- the size that it finds, or -1
abbrev pub growth_value : State → ℕ → ℕ → Value
growth_value s index by = if is_granted s by then I32 (pages_at (slice_get s.memories index)) else minus_one

-- ---- the run

-- a question that a step asks; no table grows, for that instruction was refused
abbrev pub run_question : (State → Term → RunEnd) → State → Term → Question → RunEnd
run_question on s rest (AskFloat op operands) = Stopped (FloatIsAsked op)
run_question on s rest (AskMemory index by) = on (applied (granted_growth s index by) s) (put (growth_value s index by ∷ []) rest)
run_question on s rest (AskTable index by reference) = Stopped TableWouldChange
run_question on s rest (AskHost (target.Import number) arguments type) = Stopped (ImportIsCalled number)
run_question on s rest (AskHost (target.Foreign id) arguments type) = Stopped NoRuleFits

-- what a step came to, the fuel being what is left behind it and the ticks those with it
abbrev pub run_on : (State → Term → RunEnd) → ℕ → ℕ → State → Answer → RunEnd
run_on on fuel ticks s (Next change term) = within_limits (λ new. on (applied change s) new) term (too_much term)
run_on on fuel ticks s (Done values) = Returned s fuel ticks
run_on on fuel ticks s (Trap kind) = Stopped (StepTraps kind)
run_on on fuel ticks s (Ask question rest) = run_question on s rest question
run_on on fuel ticks s Stuck = Stopped NoRuleFits

-- The run of a term with so much fuel left, behind so many ticks. What is looked at first: the fuel, the instruction that comes next,
-- and then what its step comes to.
unfoldable pub run_from : ℕ → ℕ → State → Term → RunEnd
run_from zero ticks s term = Stopped FuelIsSpent
run_from (suc fuel) ticks s term =
    if head_changes_table (next term) then Stopped TableWouldChange
    else run_on (λ now new. run_from fuel (ticks + 1) now new) fuel (ticks + 1) s (step s term)

-- ---- the run of a function that takes nothing; section 4.5.5

-- a function of the host is refused at once, also where no fuel is left
abbrev pub run_standing : ℕ → ℕ → State → Option Standing → RunEnd
run_standing fuel ticks s None = Stopped NoRuleFits
run_standing fuel ticks s (Some (Runs term)) = run_from fuel ticks s term
run_standing fuel ticks s (Some (Waits question rest)) = run_question (λ now new. run_from fuel ticks now new) s rest question

unfoldable pub run : State → ℕ → ℕ → ℕ → RunEnd
run s function fuel ticks = run_standing fuel ticks s (entered s function [])
