-- What the bytes of an input ask for, step by step in the order of the run. Each step refuses, or leaves it to the next one.
use Rattle.std.specs.Prelude.{◌≡◌, ◌⊎◌, ℕ, List, length, Option, Some, None, IsSomeAnd, Ok, Err, ⊤}
use Rattle.wz_module.specs.Module.{Module}
use Rattle.wz_decode.specs.Spelling.{Spells}
use Rattle.wz_decode.specs.Causes.{IsCause}
use Rattle.wz_decode.specs.declared.fault.DecodeFault.{DecodeFault}
use Rattle.wz_decode.specs.declared.fault.DecodeFault.TheVariants as decode
use Rattle.wz_valid.specs.Validity.{IsValid, IsFirstInvalid}
use Rattle.wz_valid.specs.Profile.{IsInProfile, IsOutside}
use Rattle.wz_valid.specs.declared.faults.Part.{Part}
use Rattle.wz_valid.specs.declared.faults.ValidFault.TheVariants as valid
use Rattle.wz_valid.specs.declared.faults.OutOfProfile.{OutOfProfile}
use Rattle.wz_words.specs.Settings.{Settings}
use Rattle.wz_exports.specs.Kept.{KeptExports, kept}
use Rattle.wz_exports.specs.declared.fault.ExportFault.{ExportFault}
use Rattle.wz_exports.specs.declared.fault.ExportFault.TheVariants as export
use Rattle.wz_snapshot.specs.Recorded.{chosen_segments}
use Rattle.wz_store.specs.State.{pages_together}
use Rattle.wz_machine.specs.State.{State}
use Rattle.wz_init.specs.declared.order.RunOrder.{RunOrder}
use Rattle.wz_init.specs.declared.order.Phase.{Phase}
use Rattle.wz_init.specs.declared.faults.InitFault.{InitFault}
use Rattle.wz_init.specs.declared.faults.InitFault.TheVariants as init
use Rattle.wz_init.specs.Run.{StopReason, FuelIsSpent, TableWouldChange, FramesAreTooMany, LocalsAreTooMany, StepTraps, NoRuleFits, FloatIsAsked, ImportIsCalled}
use Rattle.wz_init.specs.Ready.{Ready, Reached, StoppedIn, UnfitElement, UnfitData, NeverMade, ready}
use Rattle.wz_rewrite.specs.Output.{rewritten}
use Rattle.wz_top.specs.declared.outcome.Report.{Report}
use Rattle.wz_top.specs.declared.outcome.Outcome.{Outcome}
use Rattle.wz_top.specs.declared.outcome.Outcome.TheVariants.{Usage, Decode, Valid, Profile, Exports, Init, NoMemory, Done, InputFault, InputTooLong, OutputFault}

-- a refusal, or an output and its report
pub data Verdict : Type 0 where
  Declines : Outcome → Verdict
  Produces : Report → List ℕ → Verdict

-- what is run of a module: its functions that were found, with the fuel of the settings
abbrev pub order_of : Settings → KeptExports → RunOrder
order_of s k = record { reactor = k.reactor; function = k.function; fuel = s.fuel }

-- the answer for each reason why a run stops; no run of a valid module stops for want of a rule
abbrev pub stop_fault : Phase → StopReason → Option InitFault
stop_fault phase (StepTraps kind) = Some (init.Trap phase kind)
stop_fault phase FuelIsSpent = Some init.OutOfFuel
stop_fault phase TableWouldChange = Some init.TableChanged
stop_fault phase FramesAreTooMany = Some init.TooManyFrames
stop_fault phase LocalsAreTooMany = Some init.TooManyFrameLocals
stop_fault phase NoRuleFits = None
stop_fault phase (FloatIsAsked op) = Some (init.FloatUsed op)
stop_fault phase (ImportIsCalled import) = Some (init.ImportCalled import)

-- the ticks of the run, the pages of all memories that it reached, the chosen data segments and the bytes written
abbrev pub report_of : State → ℕ → List ℕ → Report
report_of s ticks right = record {
  ticks = ticks;
  pages = pages_together s.memories;
  segments = length (chosen_segments s.memories);
  bytes = length right;
}

-- what is made of the state that was reached: the module that is written, and the report
abbrev pub reached_verdict : Module → KeptExports → State → ℕ → Verdict
reached_verdict m k s ticks = Produces (report_of s ticks (rewritten m s k)) (rewritten m s k)

abbrev pub RunComes : Module → KeptExports → Ready → Verdict → Type 0
RunComes m k (Reached s ticks) verdict = verdict ≡ reached_verdict m k s ticks
RunComes m k (StoppedIn phase stop) verdict = IsSomeAnd (stop_fault phase stop) (λ fault. verdict ≡ Declines (Init fault))
RunComes m k (UnfitElement index) verdict = verdict ≡ Declines (Init (init.ElementOutOfBounds index))
RunComes m k (UnfitData index) verdict = verdict ≡ Declines (Init (init.DataOutOfBounds index))
RunComes m k NeverMade verdict = ⊥

-- Instantiation and the run, behind the exports: the first cause why there is no state, or the output of the reached one.
unfoldable pub RunAsks : Settings → Module → KeptExports → Verdict → Type 0
RunAsks s m k verdict = RunComes m k (ready m (order_of s k)) verdict

-- The exports of a module in the profile: the first fault of those that the settings name, or the kept ones.
abbrev pub ExportsAsk : Settings → Module → Verdict → Type 0
ExportsAsk s m verdict =
    ((fault : ExportFault) × (kept m s ≡ Err fault) × (verdict ≡ Declines (Exports fault)))
    ⊎ ((k : KeptExports) × (kept m s ≡ Ok k) × RunAsks s m k verdict)

-- The profile of a valid module: the first cause why it is outside, or none.
abbrev pub ProfileAsks : Settings → Module → Verdict → Type 0
ProfileAsks s m verdict =
    ((cause : OutOfProfile) × IsOutside m cause × (verdict ≡ Declines (Profile cause)))
    ⊎ (IsInProfile m × ExportsAsk s m verdict)

-- A module's validity: the first item that isn't ok, or none.
abbrev pub ModuleAsks : Settings → Module → Verdict → Type 0
ModuleAsks s m verdict =
    ((part : Part) × (index : ℕ) × IsFirstInvalid m part index × (verdict ≡ Declines (Valid (valid.Invalid part index))))
    ⊎ (IsValid m × ProfileAsks s m verdict)

-- The bytes: the cause why they spell no module, or the module that they spell.
unfoldable pub IsVerdict : Settings → List ℕ → Verdict → Type 0
IsVerdict s bytes verdict =
    ((fault : DecodeFault) × IsCause bytes fault × (verdict ≡ Declines (Decode fault)))
    ⊎ ((m : Module) × Spells bytes m × ModuleAsks s m verdict)

-- bytes ask for one thing at most
abbrev pub OneVerdict : Type 0
OneVerdict = (s : Settings) (bytes : List ℕ) (v w : Verdict) → IsVerdict s bytes v → IsVerdict s bytes w → v ≡ w

-- ---- for the middle steps of the code

-- a step refuses as the verdict says, or for want of memory
abbrev pub IsRefusedBy : Settings → List ℕ → Outcome → Type 0
IsRefusedBy s bytes NoMemory = ⊤
IsRefusedBy s bytes (Done report) = ⊥
IsRefusedBy s bytes (Usage usage) = ⊥
IsRefusedBy s bytes InputFault = ⊥
IsRefusedBy s bytes InputTooLong = ⊥
IsRefusedBy s bytes OutputFault = ⊥
IsRefusedBy s bytes (Decode decode.NoMemory) = ⊥
IsRefusedBy s bytes (Valid valid.NoMemory) = ⊥
IsRefusedBy s bytes (Exports export.NoMemory) = ⊥
IsRefusedBy s bytes (Init init.NoMemory) = ⊥
IsRefusedBy s bytes refusal = IsVerdict s bytes (Declines refusal)

-- the bytes spell this module, which is valid and in the profile
pub record IsAccepted (bytes : List ℕ) (m : Module) : Type 0 where
  pub spelled : Spells bytes m
  pub valid : IsValid m
  pub inside : IsInProfile m
