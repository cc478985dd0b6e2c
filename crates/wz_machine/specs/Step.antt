-- The head of section 4.4 of the Core Specification, with section 4.4.11 (expressions): one step of a term, from its innermost code
-- outwards. A step gives the change of the state, and not the new state: `applied change s` is that.
use Rattle.std.specs.Prelude.{ℕ, zero, suc, nat_le, ◌==◌, List, [], Some, None, if◌then◌else◌, length, take, reverse}
use Rattle.wz_types.specs.declared.value.Value.{Value}
use Rattle.wz_code.specs.Trees.{Code, End, Then, InBlock, InLoop, InIf}
use Rattle.wz_store.specs.Changes.{Nothing}
use Rattle.wz_machine.specs.State.{State}
use Rattle.wz_machine.specs.Terms.{Inside, Innermost, InLabel, InFrame, Term, Frame, BareValues}
use Rattle.wz_machine.specs.Outcomes.{Effect, Yields, Poses, Fails, HasNoRule, Outcome, Does, SetsLocals, Jumps, Quits, Calls, Reduct, Goes, Finishes, Branches, Returns, Pauses, Traps, Sticks, Answer, Next, Done, Trap, Ask, Stuck}
use Rattle.wz_machine.specs.InstrSteps.{leaf_step}
use Rattle.wz_machine.specs.BlockSteps.{block_type, block_entry, if_entry, label_reduct, frame_reduct}

-- ---- the innermost code

-- what an instruction does, before the code behind it
abbrev pub effect_reduct : List Value → Code → Effect → Reduct
effect_reduct locals rest (Yields change values) = Goes change locals (Innermost values rest)
effect_reduct locals rest (Poses question values) = Pauses question (Innermost values rest)
effect_reduct locals rest (Fails kind) = Traps kind
effect_reduct locals rest HasNoRule = Sticks

abbrev pub outcome_reduct : List Value → Code → Outcome → Reduct
outcome_reduct locals rest (Does effect) = effect_reduct locals rest effect
outcome_reduct locals rest (SetsLocals new values) = Goes Nothing new (Innermost values rest)
outcome_reduct locals rest (Jumps label values) = Branches label values
outcome_reduct locals rest (Quits values) = Returns values
outcome_reduct locals rest (Calls count inner code values) = Goes Nothing locals (InFrame values count inner (Innermost [] code) rest)

-- code in a frame with these locals, and with these values before it
abbrev pub code_reduct : State → List Value → List Value → Code → Reduct
code_reduct s locals values End = Finishes values
code_reduct s locals values (Then leaf rest) = outcome_reduct locals rest (leaf_step s locals leaf values)
code_reduct s locals values (InBlock shape inner rest) = block_entry locals (block_type s.types shape) None inner values rest
code_reduct s locals values (InLoop shape inner rest) = block_entry locals (block_type s.types shape) (Some inner) inner values rest
code_reduct s locals values (InIf shape first second rest) = if_entry locals (block_type s.types shape) first second values rest

-- ---- what stands around it

-- an inside in a frame with these locals
abbrev pub inside_reduct : State → List Value → Inside → Reduct
inside_reduct s locals (Innermost values code) = code_reduct s locals values code
inside_reduct s locals (InLabel below count again inside rest) = label_reduct locals below count again rest (inside_reduct s locals inside)
inside_reduct s locals (InFrame below count own inside rest) = frame_reduct locals below count own rest (inside_reduct s own inside)

-- ---- terms

-- the outermost frame is left with its results
abbrev pub results_answer : ℕ → List Value → Answer
results_answer count values = if nat_le count (length values) then Done (reverse (take count values)) else Stuck

-- what a step within the outermost frame comes to
abbrev pub frame_answer : ℕ → List Value → Reduct → Answer
frame_answer count locals (Goes change new inside) = Next change (Frame count new inside)
frame_answer count locals (Finishes values) = if length values == count then Done (reverse values) else Stuck
frame_answer count locals (Branches zero values) = results_answer count values
frame_answer count locals (Branches (suc label) values) = Stuck
frame_answer count locals (Returns values) = results_answer count values
frame_answer count locals (Pauses question inside) = Ask question (Frame count locals inside)
frame_answer count locals (Traps kind) = Trap kind
frame_answer count locals Sticks = Stuck

abbrev pub step : State → Term → Answer
step s (Frame count locals inside) = frame_answer count locals (inside_reduct s locals inside)
step s (BareValues values) = Done (reverse values)
