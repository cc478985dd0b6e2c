-- The run of one phase is the head of the run of all.
use Rattle.std.proofs.Common.{◌≡◌, ℕ, List, [], ◌∷◌, Result, Ok, Err, IfOk, IfErr, inl, refl, sym, ap, ◌∙◌}
use Rattle.wz_types.specs.FunctionType.{FunctionType}
use Rattle.wz_machine.specs.State.{State, LastingParts, FunctionInstance, callable_at}
use Rattle.wz_machine.specs.Entered.{entered, entered_callable}
use Rattle.wz_init.specs.declared.order.Phase.{Phase}
use Rattle.wz_init.specs.declared.faults.InitFault.{InitFault}
use Rattle.wz_init.specs.declared.faults.InitFault.TheVariants as fault
use Rattle.wz_init.specs.Run.{StepTraps, RunEnd, Returned, run}
use Rattle.wz_init.specs.Ready.{Reached, StoppedIn, phase_end, phases_run, IsFaultOf}
use Rattle.wz_init.specs.Reached.{IsLeftOf, IsSound}
use Rattle.wz_init.specs.Turns.{FunctionsAreSmall, KeepsTakingNothing, StopsBy}
use Rattle.wz_init.proofs.LeftLemmas.{run_left}

pub ok_on : {T E : Type 0} (r : Result T E) (P Q : T → Type 0) → ((v : T) → P v → Q v) → IfOk r P → IfOk r Q
ok_on (Ok value) P Q f h = f value h
ok_on (Err error) P Q f h = h

pub err_on : {T E : Type 0} (r : Result T E) (P Q : E → Type 0) → ((e : E) → P e → Q e) → IfErr r P → IfErr r Q
err_on (Ok value) P Q f h = h
err_on (Err error) P Q f h = f error h

itself : (s : State) → IsSound s → IsLeftOf s s s
itself s h = record {
  lasting = refl;
  tables = refl;
  segments = record { elements = λ i e here. inl here; datas = λ i b here. inl here };
  pages = h.pages;
  sizes = h.sizes;
  fitting = h.fitting;
  own = h.own;
}

pub sound_on : (s : State) (function fuel ticks : ℕ) (last : State) (left made : ℕ) → IsSound s → run s function fuel ticks ≡ Returned last left made → IsSound last
sound_on s function fuel ticks last left made h e =
    let kept = run_left s s s function fuel ticks last left made (itself s h) e in record { pages = kept.pages; sizes = kept.sizes; fitting = kept.fitting; own = kept.own }

pub small_on : (s : State) (function fuel ticks : ℕ) (last : State) (left made : ℕ) → IsSound s → FunctionsAreSmall s → run s function fuel ticks ≡ Returned last left made
    → FunctionsAreSmall last
small_on s function fuel ticks last left made h small e =
    let kept = run_left s s s function fuel ticks last left made (itself s h) e in
    λ f term is.
    let same : entered last f [] ≡ entered s f [] =
    ap (λ (fs : List FunctionInstance). entered_callable (callable_at last.types fs f) []) (ap (λ (p : LastingParts). p.functions) kept.lasting)
    ∙ ap (λ (ts : List FunctionType). entered_callable (callable_at ts s.functions f) []) (ap (λ (p : LastingParts). p.types) kept.lasting) in
    small f term (sym same ∙ is)

pub taken_on : (s : State) (function fuel ticks : ℕ) (last : State) (left made : ℕ) → IsSound s → run s function fuel ticks ≡ Returned last left made
    → KeepsTakingNothing s last
taken_on s function fuel ticks last left made h e =
    let kept = run_left s s s function fuel ticks last left made (itself s h) e in
    λ f takes.
    let same : callable_at last.types last.functions f ≡ callable_at s.types s.functions f =
    ap (λ (fs : List FunctionInstance). callable_at last.types fs f) (ap (λ (p : LastingParts). p.functions) kept.lasting)
    ∙ ap (λ (ts : List FunctionType). callable_at ts s.functions f) (ap (λ (p : LastingParts). p.types) kept.lasting) in
    record { callable = takes.callable; there = same ∙ takes.there; takes = takes.takes }

pub phase_returns : (phase : Phase) (function : ℕ) (later : List (Phase × ℕ)) (s : State) (fuel ticks : ℕ) (last : State) (left made : ℕ)
    → run s function fuel ticks ≡ Returned last left made → phases_run ((phase, function) ∷ later) s fuel ticks ≡ phases_run later last left made
unfolding phases_run
phase_returns phase function later s fuel ticks last left made e = ap (λ (x : RunEnd). phase_end phase (λ new left made. phases_run later new left made) x) e

pub phase_stops : (phase : Phase) (function : ℕ) (later : List (Phase × ℕ)) (s : State) (fuel ticks : ℕ) (fault : InitFault)
    → StopsBy phase (run s function fuel ticks) fault → IsFaultOf (phases_run ((phase, function) ∷ later) s fuel ticks) fault
unfolding phases_run
phase_stops phase function later s fuel ticks (fault.ElementOutOfBounds index) h = absurd h
phase_stops phase function later s fuel ticks (fault.DataOutOfBounds index) h = absurd h
phase_stops phase function later s fuel ticks (fault.Trap other kind) h =
    ap (λ (x : RunEnd). phase_end phase (λ new left made. phases_run later new left made) x) h.1 ∙ ap (λ (p : Phase). StoppedIn p (StepTraps kind)) (sym h.0)
phase_stops phase function later s fuel ticks fault.OutOfFuel h = (phase, ap (λ (x : RunEnd). phase_end phase (λ new left made. phases_run later new left made) x) h)
phase_stops phase function later s fuel ticks (fault.ImportCalled import) h = (phase, ap (λ (x : RunEnd). phase_end phase (λ new left made. phases_run later new left made) x) h)
phase_stops phase function later s fuel ticks (fault.FloatUsed op) h = (phase, ap (λ (x : RunEnd). phase_end phase (λ new left made. phases_run later new left made) x) h)
phase_stops phase function later s fuel ticks fault.TableChanged h = (phase, ap (λ (x : RunEnd). phase_end phase (λ new left made. phases_run later new left made) x) h)
phase_stops phase function later s fuel ticks fault.TooManyFrames h = (phase, ap (λ (x : RunEnd). phase_end phase (λ new left made. phases_run later new left made) x) h)
phase_stops phase function later s fuel ticks fault.TooManyFrameLocals h = (phase, ap (λ (x : RunEnd). phase_end phase (λ new left made. phases_run later new left made) x) h)
phase_stops phase function later s fuel ticks fault.NoMemory h = tt

pub no_phase : (s : State) (fuel ticks : ℕ) → phases_run [] s fuel ticks ≡ Reached s ticks
unfolding phases_run
no_phase s fuel ticks = refl
