-- What the words and the input ask for, and what an outcome says of it.
use Rattle.std.specs.Prelude.{◌≡◌, ◌⊎◌, ℕ, ◌≤◌, ◌<◌, List, length, Result, Ok, Err, ⊤}
use Rattle.wz_io.specs.World.{World, Told, Name, HasFailed}
use Rattle.wz_io.specs.Reading.{input_limit}
use Rattle.wz_io.specs.declared.files.Side.TheVariants.{Output}
use Rattle.wz_words.specs.declared.settings.Usage.{Usage as UsageFault}
use Rattle.wz_words.specs.declared.settings.Usage.TheVariants as usage
use Rattle.wz_words.specs.Settings.{Settings}
use Rattle.wz_words.specs.Faults.{settings}
use Rattle.wz_decode.specs.declared.fault.DecodeFault.TheVariants as decode
use Rattle.wz_valid.specs.declared.faults.ValidFault.TheVariants as valid
use Rattle.wz_exports.specs.declared.fault.ExportFault.TheVariants as export
use Rattle.wz_init.specs.declared.faults.InitFault.TheVariants as init
use Rattle.wz_top.specs.Devices.{IsInputFrom, IsInputTold, HasInputFailed, HasWritten, HoldsPrefix, OnlyRead, IsReadFrom}
use Rattle.wz_top.specs.Words.{input_name, output_name}
use Rattle.wz_top.specs.Verdict.{Verdict, Declines, Produces, IsVerdict}
use Rattle.wz_top.specs.declared.outcome.Report.{Report}
use Rattle.wz_top.specs.declared.outcome.Outcome.{Outcome}
use Rattle.wz_top.specs.declared.outcome.Outcome.TheVariants.{Done, Usage, InputFault, InputTooLong, Decode, Valid, Exports, Init, OutputFault, NoMemory}

-- an answer, or an output with its report
pub data Asked : Type 0 where
  Says : Outcome → Asked
  Delivers : Name → Report → List ℕ → Asked

abbrev pub asked_by : Name → Verdict → Asked
asked_by output (Declines refusal) = Says refusal
asked_by output (Produces report right) = Delivers output report right

-- An input that is longer than the limit asks for `InputTooLong`. Any other asks for what its bytes ask for.
abbrev pub BytesAsk : Settings → List ℕ → Asked → Type 0
BytesAsk s bytes asked =
    ((input_limit < length bytes) × (asked ≡ Says InputTooLong))
    ⊎ ((length bytes ≤ input_limit) × (verdict : Verdict) × IsVerdict s bytes verdict × (asked ≡ asked_by (output_name s.output) verdict))

-- Words at fault ask for that answer, and settings for what their input asks for.
abbrev pub SettingsAsk : Result Settings UsageFault → Told → Asked → Type 0
SettingsAsk (Err fault) told asked = asked ≡ Says (Usage fault)
SettingsAsk (Ok s) told asked = (bytes : List ℕ) × IsInputFrom told s.input bytes × BytesAsk s bytes asked

-- The words and the input ask for this, in the order of the run: the words, the input's length, its bytes. Where the
-- input isn't told, some bytes ask for it.
abbrev pub Asks : List (List ℕ) → Told → Asked → Type 0
Asks words told asked = SettingsAsk (settings words) told asked

-- ---- what an outcome says, by its kind

-- The output that was asked for was written, and this is its report.
abbrev pub OnDone : Outcome → (Asked → Type 0) → World → World → Type 0
OnDone (Done report) IsAsked before now = (output : Name) × (right : List ℕ) × IsAsked (Delivers output report right) × HasWritten output right before now
OnDone outcome IsAsked before now = ⊤

-- The refusal was asked for. None holds a want of memory.
abbrev pub OnRefusal : Outcome → (Asked → Type 0) → Type 0
OnRefusal (Done report) IsAsked = ⊤
OnRefusal InputFault IsAsked = ⊤
OnRefusal OutputFault IsAsked = ⊤
OnRefusal NoMemory IsAsked = ⊤
OnRefusal (Usage usage.NoMemory) IsAsked = ⊥
OnRefusal (Decode decode.NoMemory) IsAsked = ⊥
OnRefusal (Valid valid.NoMemory) IsAsked = ⊥
OnRefusal (Exports export.NoMemory) IsAsked = ⊥
OnRefusal (Init init.NoMemory) IsAsked = ⊥
OnRefusal refusal IsAsked = IsAsked (Says refusal)

-- The input that the words name failed.
abbrev pub InputFailed : Result Settings UsageFault → World → World → Type 0
InputFailed (Err fault) before now = ⊥
InputFailed (Ok s) before now = HasInputFailed s.input before now

abbrev pub OnInputFault : Outcome → Result Settings UsageFault → World → World → Type 0
OnInputFault InputFault r before now = InputFailed r before now
OnInputFault outcome r before now = ⊤

-- An output was asked for, and it failed.
abbrev pub OnOutputFault : Outcome → (Asked → Type 0) → World → World → Type 0
OnOutputFault OutputFault IsAsked before now =
    (output : Name) × (report : Report) × (right : List ℕ) × IsAsked (Delivers output report right) × HasFailed Output output before now
OnOutputFault outcome IsAsked before now = ⊤

-- Where the output failed, what was written is a prefix of the right bytes.
abbrev pub OnUnfinished : Outcome → (Asked → Type 0) → World → World → Type 0
OnUnfinished OutputFault IsAsked before now =
    (now.told ≡ before.told)
    ⊎ ((output : Name) × (report : Report) × (right : List ℕ) × IsAsked (Delivers output report right) × HoldsPrefix output right before now)
OnUnfinished outcome IsAsked before now = ⊤

-- Any other outcome leaves all that is told and makes no output. Where the words are at fault nothing at all changes, and
-- otherwise `current` is the input that they name, unless the memory didn't suffice.
abbrev pub StaysBut : Result Settings UsageFault → World → World → Type 0
StaysBut (Err fault) before now = now ≡ before
StaysBut (Ok s) before now = OnlyRead before now × IsReadFrom (input_name s.input) before now

abbrev pub Stays : Outcome → Result Settings UsageFault → World → World → Type 0
Stays (Done report) r before now = ⊤
Stays OutputFault r before now = ⊤
Stays NoMemory r before now = OnlyRead before now
Stays outcome r before now = StaysBut r before now

-- ---- the other direction

-- the input that the words name is told, and there
abbrev pub IsTold : Result Settings UsageFault → Told → Type 0
IsTold (Err fault) told = ⊤
IsTold (Ok s) told = IsInputTold told s.input

-- What is asked for is answered, but for a fault of the input, a fault of an output and want of memory.
abbrev pub IsAnswer : Asked → Outcome → Type 0
IsAnswer asked NoMemory = ⊤
IsAnswer asked InputFault = ⊤
IsAnswer (Says refusal) outcome = outcome ≡ refusal
IsAnswer (Delivers output report right) (Done said) = ⊤
IsAnswer (Delivers output report right) OutputFault = ⊤
IsAnswer (Delivers output report right) outcome = ⊥

abbrev pub IsDoneOrNoMemory : Outcome → Type 0
IsDoneOrNoMemory (Done report) = ⊤
IsDoneOrNoMemory NoMemory = ⊤
IsDoneOrNoMemory outcome = ⊥

-- What can be done is done: where an output is asked for and neither device failed.
abbrev pub IsComplete : Outcome → Result Settings UsageFault → (Asked → Type 0) → World → World → Type 0
IsComplete outcome r IsAsked before now =
    (output : Name) (report : Report) (right : List ℕ) → IsAsked (Delivers output report right)
    → ¬ (InputFailed r before now) → ¬ (HasFailed Output output before now) → IsDoneOrNoMemory outcome

-- ---- all of it

-- a run that ended so
pub record Ran (outcome : Outcome) (r : Result Settings UsageFault) (before now : World) : Type 0 where
  pub done : OnDone outcome (SettingsAsk r before.told) before now
  pub refusal : OnRefusal outcome (SettingsAsk r before.told)
  pub answer : IsTold r before.told → (asked : Asked) → SettingsAsk r before.told asked → IsAnswer asked outcome
  pub input_fault : OnInputFault outcome r before now
  pub output_fault : OnOutputFault outcome (SettingsAsk r before.told) before now
  pub stays : Stays outcome r before now
  pub unfinished : OnUnfinished outcome (SettingsAsk r before.told) before now
