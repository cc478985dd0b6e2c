-- What the steps that go before the run answer.
use Rattle.std.proofs.Common.{◌≡◌, ℕ, List, refl, sym, subst, inl, inr}
use Rattle.std.specs.Prelude.{◌⊎◌, Option, Some, None, IsNone, IfSome, Ok, Err, IsErrOf}
use Rattle.wz_module.specs.Module.{Module}
use Rattle.wz_decode.specs.declared.fault.DecodeFault.{DecodeFault}
use Rattle.wz_decode.specs.declared.fault.DecodeFault.TheVariants as decode
use Rattle.wz_decode.specs.Causes.{LacksHeader}
use Rattle.wz_decode.specs.Contents.{IsBadSection}
use Rattle.wz_decode.specs.Front.{HasBadCounts}
use Rattle.wz_decode.specs.Spelling.{Spells}
use Rattle.wz_valid.specs.declared.faults.ValidFault.{ValidFault}
use Rattle.wz_valid.specs.declared.faults.ValidFault.TheVariants as valid
use Rattle.wz_valid.specs.declared.faults.OutOfProfile.{OutOfProfile}
use Rattle.wz_valid.specs.Validity.{IsValid, IsModuleRefused}
use Rattle.wz_valid.specs.Profile.{IsOutside}
use Rattle.wz_words.specs.Settings.{Settings}
use Rattle.wz_exports.specs.Kept.{KeptExports, kept}
use Rattle.wz_exports.specs.declared.fault.ExportFault.{ExportFault}
use Rattle.wz_exports.specs.declared.fault.ExportFault.TheVariants as export
use Rattle.wz_store.specs.Made.{StoreState}
use Rattle.wz_init.specs.declared.faults.InitFault.{InitFault}
use Rattle.wz_init.specs.declared.faults.InitFault.TheVariants as init
use Rattle.wz_init.specs.Run.{FuelIsSpent, TableWouldChange, FramesAreTooMany, LocalsAreTooMany, StepTraps, FloatIsAsked, ImportIsCalled}
use Rattle.wz_init.specs.States.{state_in}
use Rattle.wz_init.specs.Ready.{Ready, Reached, StoppedIn, UnfitElement, UnfitData, ready, IsRefused as InitRefused}
use Rattle.wz_top.specs.Refusals.{decode_outcome, valid_outcome, export_outcome, init_outcome}
use Rattle.wz_top.specs.Making.{IsRun}
use Rattle.wz_top.specs.Verdict.{Verdict, IsVerdict, IsRefusedBy, IsAccepted, order_of, RunComes, RunAsks, reached_verdict}
use Rattle.wz_top.specs.declared.outcome.Outcome.TheVariants.{Profile}

pub if_none : {X : Type 0} (o : Option X) → o ≡ None → IsNone o
if_none {X = X} o e = subst (λ (x : Option X). IsNone x) (sym e) refl

pub if_some : {X : Type 0} (P : X → Type 0) (o : Option X) (x : X) → o ≡ Some x → IfSome o P → P x
if_some P (Some y) x e h = let same : y ≡ x = cc in subst P same h
if_some P None x e h = absurd cc

pub decode_refused : {T : Type 0} (s : Settings) (bytes : List ℕ) (fault : DecodeFault) → (IsErrOf {T = T} (Err fault) decode.NotWasm → LacksHeader bytes)
    → ((at : ℕ) → IsErrOf {T = T} (Err fault) (decode.BadSection at) → IsBadSection bytes at) → (IsErrOf {T = T} (Err fault) decode.BadCounts → HasBadCounts bytes)
    → IsRefusedBy s bytes (decode_outcome fault)
unfolding IsVerdict
decode_refused s bytes decode.NotWasm header section counts = inl (decode.NotWasm, header refl, refl)
decode_refused s bytes (decode.BadSection at) header section counts = inl (decode.BadSection at, section at refl, refl)
decode_refused s bytes decode.BadCounts header section counts = inl (decode.BadCounts, counts refl, refl)
decode_refused s bytes decode.NoMemory header section counts = tt

pub valid_refused : (s : Settings) (bytes : List ℕ) (m : Module) (fault : ValidFault) → Spells bytes m → IsModuleRefused m fault → IsRefusedBy s bytes (valid_outcome fault)
unfolding IsVerdict
valid_refused s bytes m (valid.Invalid part index) spelled is = inr (m, spelled, inl (part, index, is, refl))
valid_refused s bytes m valid.NoMemory spelled is = tt

pub profile_refused : (s : Settings) (bytes : List ℕ) (m : Module) (cause : OutOfProfile) → Spells bytes m → IsValid m → IsOutside m cause
    → IsRefusedBy s bytes (Profile cause)
unfolding IsVerdict
profile_refused s bytes m cause spelled valid is = inr (m, spelled, inr (valid, inl (cause, is, refl)))

pub export_refused : (s : Settings) (bytes : List ℕ) (m : Module) (fault : ExportFault) → IsAccepted bytes m → (fault ≡ export.NoMemory) ⊎ (kept m s ≡ Err fault)
    → IsRefusedBy s bytes (export_outcome fault)
unfolding IsVerdict
export_refused s bytes m export.NoMemory a is = tt
export_refused s bytes m fault a (inl is) = absurd cc
export_refused s bytes m fault a (inr is) = inr (m, a.spelled, inr (a.valid, inr (a.inside, inl (fault, is, refl))))

-- what comes of the run is what the bytes ask for
run_asks : (s : Settings) (bytes : List ℕ) (m : Module) (k : KeptExports) (r : Ready) (v : Verdict) → IsAccepted bytes m → kept m s ≡ Ok k → ready m (order_of s k) ≡ r
    → RunComes m k r v → IsVerdict s bytes v
unfolding IsVerdict RunAsks
run_asks s bytes m k r v a keeps e comes =
    inr (m, a.spelled, inr (a.valid, inr (a.inside, inr (k, keeps, subst (λ (x : Ready). RunComes m k x v) (sym e) comes))))

pub run_refused : (s : Settings) (bytes : List ℕ) (m : Module) (k : KeptExports) (fault : InitFault) → IsAccepted bytes m → kept m s ≡ Ok k
    → InitRefused m (order_of s k) fault → IsRefusedBy s bytes (init_outcome fault)
run_refused s bytes m k (init.ElementOutOfBounds index) a keeps is = run_asks s bytes m k (UnfitElement index) _ a keeps is refl
run_refused s bytes m k (init.DataOutOfBounds index) a keeps is = run_asks s bytes m k (UnfitData index) _ a keeps is refl
run_refused s bytes m k (init.Trap phase kind) a keeps is = run_asks s bytes m k (StoppedIn phase (StepTraps kind)) _ a keeps is refl
run_refused s bytes m k init.OutOfFuel a keeps is = run_asks s bytes m k (StoppedIn is.0 FuelIsSpent) _ a keeps is.1 refl
run_refused s bytes m k (init.ImportCalled import) a keeps is = run_asks s bytes m k (StoppedIn is.0 (ImportIsCalled import)) _ a keeps is.1 refl
run_refused s bytes m k (init.FloatUsed op) a keeps is = run_asks s bytes m k (StoppedIn is.0 (FloatIsAsked op)) _ a keeps is.1 refl
run_refused s bytes m k init.TableChanged a keeps is = run_asks s bytes m k (StoppedIn is.0 TableWouldChange) _ a keeps is.1 refl
run_refused s bytes m k init.TooManyFrames a keeps is = run_asks s bytes m k (StoppedIn is.0 FramesAreTooMany) _ a keeps is.1 refl
run_refused s bytes m k init.TooManyFrameLocals a keeps is = run_asks s bytes m k (StoppedIn is.0 LocalsAreTooMany) _ a keeps is.1 refl
run_refused s bytes m k init.NoMemory a keeps is = tt

-- the output of the state that was reached, with its report
pub run_gives : (s : Settings) (bytes : List ℕ) (m : Module) (k : KeptExports) (store : StoreState) (ticks : ℕ) → IsRun s bytes m k store ticks
    → IsVerdict s bytes (reached_verdict m k (state_in m store) ticks)
run_gives s bytes m k store ticks run = run_asks s bytes m k (Reached (state_in m store) ticks) _ run.accepted run.keeps run.reached refl
