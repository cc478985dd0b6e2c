-- What the steps behind a module's acceptance find and leave, for the contracts of the code's own functions.
use Rattle.std.specs.Prelude.{◌≡◌, ℕ, List, Ok}
use Rattle.wz_io.specs.World.{World, HasFailed}
use Rattle.wz_io.specs.declared.files.Side.TheVariants.{Output}
use Rattle.wz_module.specs.Module.{Module}
use Rattle.wz_words.specs.Settings.{Settings}
use Rattle.wz_store.specs.Made.{StoreState}
use Rattle.wz_exports.specs.Kept.{KeptExports, kept}
use Rattle.wz_init.specs.Ready.{IsReached}
use Rattle.wz_top.specs.Devices.{HasWritten, HoldsPrefix}
use Rattle.wz_top.specs.Words.{output_name}
use Rattle.wz_top.specs.Verdict.{Produces, IsVerdict, IsRefusedBy, IsAccepted, order_of}
use Rattle.wz_top.specs.declared.outcome.Report.{Report}
use Rattle.wz_top.specs.declared.outcome.Outcome.{Outcome}
use Rattle.wz_top.specs.declared.outcome.Outcome.TheVariants.{Done, OutputFault, NoMemory}

-- the module was accepted, these exports are kept, and its run reached this state
pub record IsRun (s : Settings) (bytes : List ℕ) (m : Module) (k : KeptExports) (store : StoreState) (ticks : ℕ) : Type 0 where
  pub accepted : IsAccepted bytes m
  pub keeps : kept m s ≡ Ok k
  pub reached : IsReached m (order_of s k) store ticks

-- what an outcome of these steps says, by its kind
abbrev pub IsMade : Settings → List ℕ → Outcome → World → World → Type 0
IsMade s bytes (Done report) before now =
    (right : List ℕ) × IsVerdict s bytes (Produces report right) × HasWritten (output_name s.output) right before now
IsMade s bytes OutputFault before now =
    (report : Report) × (right : List ℕ) × IsVerdict s bytes (Produces report right) × HasFailed Output (output_name s.output) before now
    × HoldsPrefix (output_name s.output) right before now
IsMade s bytes NoMemory before now = now ≡ before
IsMade s bytes refusal before now = IsRefusedBy s bytes refusal × (now ≡ before)
