-- What the call promises of the bytes that it writes: they are the input's, pre-initialised. Said of the settings, of the bytes that were
-- read and of those that were written.
use Rattle.std.specs.Prelude.{◌≡◌, ◌≢◌, ℕ, ◌≤◌, List, map, length, Result, Ok, Err, IsUtf8, ⊤}
use Rattle.std.specs.List.{All, AllPairs, sum_by}
use Rattle.wz_io.specs.World.{World}
use Rattle.wz_io.specs.Reading.{input_limit}
use Rattle.wz_words.specs.declared.settings.Rename.{Rename}
use Rattle.wz_words.specs.declared.settings.Usage.{Usage}
use Rattle.wz_words.specs.Settings.{Settings}
use Rattle.wz_words.specs.Faults.{renames_limit, settings}
use Rattle.wz_module.specs.declared.items.ExportTarget.{ExportTarget}
use Rattle.wz_module.specs.declared.items.ExportTarget.TheVariants as target
use Rattle.wz_module.specs.Exports.{Export}
use Rattle.wz_module.specs.Module.{Module}
use Rattle.wz_decode.specs.Spelling.{Spells}
use Rattle.wz_machine.specs.State.{State}
use Rattle.wz_machine.specs.Exports.{ExternalValue, ExternalFunction, ExternalTable, ExternalMemory, ExternalGlobal, ExportInstance}
use Rattle.wz_machine.specs.Moves.{Move}
use Rattle.wz_machine.specs.Sessions.{observe}
use Rattle.wz_machine.specs.TypedSteps.{NoneStuck}
use Rattle.wz_init.specs.declared.order.Phase.{Phase}
use Rattle.wz_init.specs.Run.{NoRuleFits}
use Rattle.wz_init.specs.Instances.{Instance}
use Rattle.wz_init.specs.Instantiation.{fresh}
use Rattle.wz_init.specs.Ready.{Reached, StoppedIn, ready}
use Rattle.wz_exports.specs.Kept.{KeptExports, kept}
use Rattle.wz_rewrite.specs.Output.{rewritten, rewritten_module}
use Rattle.wz_rewrite.specs.ValidOutput.{IsValidWith}
use Rattle.wz_top.specs.Devices.{IsInputFrom, HasWritten}
use Rattle.wz_top.specs.Words.{output_name}
use Rattle.wz_top.specs.Verdict.{Produces, IsVerdict, IsAccepted, order_of}
use Rattle.wz_top.specs.FreshOutput.{StartsAs}
use Rattle.wz_top.specs.declared.outcome.Report.{Report}
use Rattle.wz_top.specs.declared.outcome.Outcome.{Outcome}
use Rattle.wz_top.specs.declared.outcome.Outcome.TheVariants.{Done}

-- ---- sections 4.2.12 and 4.5.4 of the WebAssembly Core Specification 2.0: what an instance gives out

abbrev pub external_value : ExportTarget → ExternalValue
external_value (target.Func index) = ExternalFunction index
external_value (target.Table index) = ExternalTable index
external_value (target.Memory index) = ExternalMemory index
external_value (target.Global index) = ExternalGlobal index

abbrev pub export_instances : List Export → List ExportInstance
export_instances exports = map (λ e. record { name = e.name; value = external_value e.target }) exports

-- ---- what the bytes of an input come to

-- they spell a module that is valid and in the profile, which has these kept exports and whose run reaches this state
pub record ReachesState (s : Settings) (input : List ℕ) (m : Module) (k : KeptExports) (state : State) (ticks : ℕ) : Type 0 where
  pub accepted : IsAccepted input m
  pub keeps : kept m s ≡ Ok k
  pub ran : ready m (order_of s k) ≡ Reached state ticks

-- The output's bytes are the input's, pre-initialised.
pub record PreInitialised (s : Settings) (input output : List ℕ) : Type 0 where
  -- the module of the input, its exports that are kept, and the state that its run reached
  pub module_read : Module
  pub exports_kept : KeptExports
  pub state_reached : State
  pub ticks : ℕ
  pub reached : ReachesState s input module_read exports_kept state_reached ticks
  -- the module of the output is valid and in the profile, starts nothing, and has just these exports
  pub module_written : Module
  pub spelled : Spells output module_written
  pub valid : IsValidWith module_written exports_kept
  pub no_start : All (λ section. section.id ≢ 8) module_written.sections
  -- its fresh instance is the state that was reached, but for further segments, which are empty
  pub starts : StartsAs module_written state_reached
  -- and whatever is done with that instance through its exports, the same is seen as of the state that was reached
  pub same_events : (instance : State) (moves : List Move) → fresh module_written ≡ Instance instance
      → observe instance (export_instances module_written.exports) moves ≡ observe state_reached (export_instances exports_kept.entries) moves
  -- and no list of moves meets a step without a rule, neither there nor here
  pub fresh_never_stuck : (instance : State) (moves : List Move) → fresh module_written ≡ Instance instance
      → NoneStuck instance (export_instances module_written.exports) moves
  pub reached_never_stuck : (moves : List Move) → NoneStuck state_reached (export_instances exports_kept.entries) moves

-- After Done the output holds the input's bytes, pre-initialised. Where the input isn't told, there are some bytes of which that holds.
abbrev pub OnPreInitialised : Outcome → Result Settings Usage → World → World → Type 0
OnPreInitialised (Done report) (Err fault) before now = ⊥
OnPreInitialised (Done report) (Ok s) before now =
    (input output : List ℕ) × IsInputFrom before.told s.input input × HasWritten (output_name s.output) output before now × PreInitialised s input output
OnPreInitialised outcome r before now = ⊤

-- ---- the laws

-- The new names that renames give are names (section 5.2.4), of few bytes together, and no two are the same.
pub record GiveNames (renames : List Rename) : Type 0 where
  pub differ : AllPairs (λ x y. x.dst ≢ y.dst) renames
  pub texts : All (λ rename. IsUtf8 rename.dst) renames
  pub short : sum_by (λ rename. length rename.dst) renames ≤ renames_limit

-- the renames that words ask for have few bytes together
abbrev pub RenamesAreShort : Type 0
RenamesAreShort = (words : List (List ℕ)) (s : Settings) → settings words ≡ Ok s → sum_by (λ (rename : Rename). length rename.dst) s.renames ≤ renames_limit

-- what is written spells the module that is to be written, which is valid
pub record IsWritten (m : Module) (k : KeptExports) (state : State) : Type 0 where
  pub spelled : Spells (rewritten m state k) (rewritten_module m state k)
  pub valid : IsValidWith (rewritten_module m state k) k
  pub no_start : All (λ section. section.id ≢ 8) (rewritten_module m state k).sections

abbrev pub OutputIsWritten : Type 0
OutputIsWritten = (s : Settings) (input : List ℕ) (m : Module) (k : KeptExports) (state : State) (ticks : ℕ) → GiveNames s.renames
    → length input ≤ input_limit → ReachesState s input m k state ticks → IsWritten m k state

-- what bytes ask for is to have them pre-initialised
abbrev pub OutputIsPreInitialised : Type 0
OutputIsPreInitialised = (s : Settings) (input : List ℕ) (report : Report) (output : List ℕ) → GiveNames s.renames → length input ≤ input_limit
    → IsVerdict s input (Produces report output) → PreInitialised s input output

-- No run is stuck: whatever stops the run of a module that is accepted, with the exports that these settings keep, it isn't for want
-- of a rule.
abbrev pub NoRunIsStuck : Settings → Type 0
NoRunIsStuck s = (input : List ℕ) (m : Module) (k : KeptExports) (phase : Phase) → IsAccepted input m → kept m s ≡ Ok k
    → ready m (order_of s k) ≢ StoppedIn phase NoRuleFits
