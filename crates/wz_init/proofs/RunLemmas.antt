-- The run from a term, by what its next step comes to, and by many steps that went on.
use Rattle.std.proofs.Common.{◌≡◌, ℕ, zero, suc, ◌+◌, ◌<◌, ◌≤◌, nat_lt, [], Option, Some, None, Bool, true, false, if◌then◌else◌, refl, sym, ap, subst, ◌∙◌, arith}
use Rattle.std.proofs.Common.{le-ltb, lt-ltb}
use Rattle.wz_types.specs.FunctionType.{FunctionType}
use Rattle.wz_machine.specs.declared.questions.HostTarget.TheVariants as target
use Rattle.wz_machine.specs.State.{State}
use Rattle.wz_machine.specs.Terms.{Term, AskHost, Standing, Runs, Waits}
use Rattle.wz_machine.specs.Outcomes.{Answer, Next}
use Rattle.wz_machine.specs.Step.{step}
use Rattle.wz_machine.specs.Next.{next}
use Rattle.wz_machine.specs.Frames.{frame_count, local_count}
use Rattle.wz_machine.specs.Advance.{head_changes_table, StepsOn, Reaches, ReachesEntry}
use Rattle.wz_machine.specs.Entered.{entered}
use Rattle.wz_init.specs.Run.{StopReason, FuelIsSpent, TableWouldChange, FramesAreTooMany, LocalsAreTooMany, ImportIsCalled, Stopped, frames_limit, all_locals_limit, too_much, within_limits, run_on, run_from, run_standing, run}
use Rattle.wz_init.specs.Reached.{HoldsOwn, TermOwn}
use Rattle.wz_init.specs.Turns.{IsWithinLimits}
use Rattle.wz_init.proofs.FineLemmas.{AnswerFine, step_fine}
use Rattle.wz_init.proofs.LeftLemmas.{own_on}

-- ---- limits

pub nothing_too_much : (term : Term) → IsWithinLimits term → too_much term ≡ None
nothing_too_much term h =
    ap (λ (b : Bool). if b then Some FramesAreTooMany else (if nat_lt all_locals_limit (local_count term) then Some LocalsAreTooMany else None))
    (le-ltb frames_limit (frame_count term) h.frames)
    ∙ ap (λ (b : Bool). if b then Some LocalsAreTooMany else None) (le-ltb all_locals_limit (local_count term) h.locals)

pub frames_too_many : (term : Term) → frames_limit < frame_count term → too_much term ≡ Some FramesAreTooMany
frames_too_many term h =
    ap (λ (b : Bool). if b then Some FramesAreTooMany else (if nat_lt all_locals_limit (local_count term) then Some LocalsAreTooMany else None))
    (lt-ltb frames_limit (frame_count term) h)

pub locals_too_many : (term : Term) → frame_count term ≤ frames_limit → all_locals_limit < local_count term → too_much term ≡ Some LocalsAreTooMany
locals_too_many term few h =
    ap (λ (b : Bool). if b then Some FramesAreTooMany else (if nat_lt all_locals_limit (local_count term) then Some LocalsAreTooMany else None))
    (le-ltb frames_limit (frame_count term) few)
    ∙ ap (λ (b : Bool). if b then Some LocalsAreTooMany else None) (lt-ltb all_locals_limit (local_count term) h)

-- ---- one step

-- the next instruction changes no table, so the run is by the step's answer
pub run_step : (fuel ticks : ℕ) (s : State) (term : Term) (a : Answer) → head_changes_table (next term) ≡ false → step s term ≡ a
    → run_from (suc fuel) ticks s term ≡ run_on (λ now new. run_from fuel (ticks + 1) now new) fuel (ticks + 1) s a
unfolding run_from
run_step fuel ticks s term a spares is =
    ap (λ (b : Bool).
    if b then Stopped TableWouldChange else run_on (λ now new. run_from fuel (ticks + 1) now new) fuel (ticks + 1) s (step s term)) spares
    ∙ ap (λ (x : Answer). run_on (λ now new. run_from fuel (ticks + 1) now new) fuel (ticks + 1) s x) is

pub run_refused : (fuel ticks : ℕ) (s : State) (term : Term) → head_changes_table (next term) ≡ true → run_from (suc fuel) ticks s term ≡ Stopped TableWouldChange
unfolding run_from
run_refused fuel ticks s term changes =
    ap (λ (b : Bool).
    if b then Stopped TableWouldChange else run_on (λ now new. run_from fuel (ticks + 1) now new) fuel (ticks + 1) s (step s term)) changes

pub run_spent : (ticks : ℕ) (s : State) (term : Term) → run_from 0 ticks s term ≡ Stopped FuelIsSpent
unfolding run_from
run_spent ticks s term = refl

-- ---- many steps

pub steps_on : (fuel ticks : ℕ) (s after : State) (term new : Term) → StepsOn s term after new
    → run_from (suc fuel) ticks s term ≡ within_limits (λ t. run_from fuel (ticks + 1) after t) new (too_much new)
steps_on fuel ticks s after term new on =
    run_step fuel ticks s term (Next on.change new) on.spares on.goes
    ∙ ap (λ (t : State). within_limits (λ x. run_from fuel (ticks + 1) t x) new (too_much new)) (sym on.state)

-- terms that steps came to, none of which entered a function, are within the limits
pub reaches_within : (n : ℕ) (s after : State) (term new : Term) → Reaches n s term after new → IsWithinLimits term → IsWithinLimits new
reaches_within zero s after term new h within = subst (λ (t : Term). IsWithinLimits t) (sym h.1) within
reaches_within (suc n) s after term new h within =
    let before = reaches_within n s h.0 term h.1 h.2 within in
    record { frames = omega (arith, before.frames, h.4.frames); locals = omega (arith, before.locals, h.4.locals) }

-- and the run from the first is the rest of the run from the last
pub reaches_run : (n : ℕ) (s after : State) (term new : Term) → Reaches n s term after new → IsWithinLimits term → (fuel ticks : ℕ)
    → run_from (n + fuel) ticks s term ≡ run_from fuel (ticks + n) after new
reaches_run zero s after term new h within fuel ticks =
    let none : zero + fuel ≡ fuel = omega arith in
    let all : ticks ≡ ticks + zero = omega arith in
    ap (λ (k : ℕ). run_from k ticks s term) none ∙ ap (λ (k : ℕ). run_from fuel k s term) all ∙ ap (λ (t : State). run_from fuel (ticks + zero) t term) (sym h.0)
    ∙ ap (λ (t : Term). run_from fuel (ticks + zero) after t) (sym h.1)
reaches_run (suc n) s after term new h within fuel ticks =
    let more : suc n + fuel ≡ n + suc fuel = omega arith in
    let made : ticks + n + 1 ≡ ticks + suc n = omega arith in
    let there = reaches_within (suc n) s after term new h within in
    ap (λ (k : ℕ). run_from k ticks s term) more ∙ reaches_run n s h.0 term h.1 h.2 within (suc fuel) ticks ∙ steps_on fuel (ticks + n) h.0 after h.1 new h.3
    ∙ ap (λ (o : Option StopReason). within_limits (λ t. run_from fuel (ticks + n + 1) after t) new o) (nothing_too_much new there)
    ∙ ap (λ (k : ℕ). run_from fuel k after new) made

pub entry_run : (n : ℕ) (s after : State) (term new : Term) → ReachesEntry n s term after new → IsWithinLimits term → (fuel ticks : ℕ)
    → run_from (n + fuel) ticks s term ≡ within_limits (λ t. run_from fuel (ticks + n) after t) new (too_much new)
entry_run zero s after term new h within fuel ticks = absurd h
entry_run (suc n) s after term new h within fuel ticks =
    let more : suc n + fuel ≡ n + suc fuel = omega arith in
    let made : ticks + n + 1 ≡ ticks + suc n = omega arith in
    ap (λ (k : ℕ). run_from k ticks s term) more ∙ reaches_run n s h.0 term h.1 h.2 within (suc fuel) ticks ∙ steps_on fuel (ticks + n) h.0 after h.1 new h.3
    ∙ ap (λ (k : ℕ). within_limits (λ t. run_from fuel k after t) new (too_much new)) made

-- ---- no reference to something of the host comes in

pub steps_own : (s after : State) (term new : Term) → StepsOn s term after new → HoldsOwn s → TermOwn term → HoldsOwn after × TermOwn new
steps_own s after term new on own holds =
    let fine = subst (λ (a : Answer). AnswerFine s a) on.goes (step_fine s term on.spares own holds) in
    (subst (λ (t : State). HoldsOwn t) (sym on.state) (own_on s on.change own fine.0), fine.1)

pub reaches_own : (n : ℕ) (s after : State) (term new : Term) → Reaches n s term after new → HoldsOwn s → TermOwn term → HoldsOwn after × TermOwn new
reaches_own zero s after term new h own holds =
    (subst (λ (t : State). HoldsOwn t) (sym h.0) own, subst (λ (t : Term). TermOwn t) (sym h.1) holds)
reaches_own (suc n) s after term new h own holds =
    let before = reaches_own n s h.0 term h.1 h.2 own holds in steps_own h.0 after h.1 new h.3 before.0 before.1

pub entry_own : (n : ℕ) (s after : State) (term new : Term) → ReachesEntry n s term after new → HoldsOwn s → TermOwn term → HoldsOwn after × TermOwn new
entry_own zero s after term new h own holds = absurd h
entry_own (suc n) s after term new h own holds =
    let before = reaches_own n s h.0 term h.1 h.2 own holds in steps_own h.0 after h.1 new h.3 before.0 before.1

-- ---- the run of a function

pub run_own : (s : State) (function fuel ticks : ℕ) (term : Term) → entered s function [] ≡ Some (Runs term) → run s function fuel ticks ≡ run_from fuel ticks s term
unfolding run
run_own s function fuel ticks term e = ap (λ (o : Option Standing). run_standing fuel ticks s o) e

pub run_import : (s : State) (function fuel ticks number : ℕ) (type : FunctionType) (rest : Term)
    → entered s function [] ≡ Some (Waits (AskHost (target.Import number) [] type) rest) → run s function fuel ticks ≡ Stopped (ImportIsCalled number)
unfolding run
run_import s function fuel ticks number type rest e = ap (λ (o : Option Standing). run_standing fuel ticks s o) e
