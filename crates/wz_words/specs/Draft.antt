-- What was read of the command line so far, for the contracts of the reader's own functions. Nothing public speaks of it.
use Rattle.std.specs.Prelude.{◌≡◌, ◌⊎◌, ℕ, ◌+◌, ◌-◌, ◌*◌, nat_lt, Bool, true, false, ◌&&◌, ◌||◌, List, [], ◌∷◌, ◌++◌, length, Option, Some, None, is_some, unwrap_or, Result, Ok, Err, if◌then◌else◌}
use Rattle.wz_words.specs.declared.settings.Rename.{Rename}
use Rattle.wz_words.specs.declared.settings.Usage.{Usage}
use Rattle.wz_words.specs.declared.settings.Usage.TheVariants.{UnknownOption, MissingValue, RepeatedOption, ExtraWord, BadRename, RenamesTooLong, RenameTwiceTo, RenameTwiceFrom, NoMemory}
use Rattle.wz_words.specs.Options.{Flag, KeepInit, Reactor, Report, Valued, Output, Function, RenameFunction, Fuel, SampleNumber, decimal, is_digit}
use Rattle.wz_words.specs.Parts.{Part, OperandPart, FlagPart, ValuedPart, UnknownPart, Halves, halves_of}
use Rattle.wz_words.specs.Settings.{Settings, with_halves, input_or_sample, output_of, default_function, default_fuel}
use Rattle.wz_words.specs.Faults.{number_fault, fuel_limit, sample_limit, renames_limit, renames_to, renames_from}

-- what each option, flag and operand gave
pub record Draft : Type 0 where
  pub operand : Option (List ℕ)
  pub output : Option (List ℕ)
  pub function : Option (List ℕ)
  pub fuel : Option ℕ
  pub sample : Option ℕ
  pub keep_init : Bool
  pub reactor : Bool
  pub report : Bool
  pub renames : List Rename
  -- of all values of renames
  pub bytes : ℕ

abbrev pub empty_draft : Draft
empty_draft = record {
  operand = None;
  output = None;
  function = None;
  fuel = None;
  sample = None;
  keep_init = false;
  reactor = false;
  report = false;
  renames = [];
  bytes = 0;
}

-- ---- one part more

abbrev pub flag_in : Draft → Flag → Bool
flag_in d KeepInit = d.keep_init
flag_in d Reactor = d.reactor
flag_in d Report = d.report

-- an option that comes once was read
abbrev pub is_read : Draft → Valued → Bool
is_read d Output = is_some d.output
is_read d Function = is_some d.function
is_read d RenameFunction = false
is_read d Fuel = is_some d.fuel
is_read d SampleNumber = is_some d.sample

abbrev pub rename_fault_in : List Rename → ℕ → ℕ → List ℕ → Option Halves → Option Usage
rename_fault_in renames bytes at value None = Some (BadRename at)
rename_fault_in renames bytes at value (Some halves) =
    if nat_lt renames_limit (bytes + length value) then Some (RenamesTooLong at)
    else (if renames_to halves.front renames then Some (RenameTwiceTo at)
    else (if renames_from halves.back renames then Some (RenameTwiceFrom at)
    else None))

abbrev pub value_fault_in : Draft → Valued → ℕ → List ℕ → Option Usage
value_fault_in d Output at value = None
value_fault_in d Function at value = None
value_fault_in d RenameFunction at value = rename_fault_in d.renames d.bytes at value (halves_of value)
value_fault_in d Fuel at value = number_fault at fuel_limit (decimal value)
value_fault_in d SampleNumber at value = number_fault at sample_limit (decimal value)

abbrev pub value_part_fault_in : Draft → ℕ → Valued → Option (ℕ × List ℕ) → Option Usage
value_part_fault_in d at option None = Some (MissingValue at)
value_part_fault_in d at option (Some value) = value_fault_in d option value.0 value.1

abbrev pub is_sample_option : Valued → Bool
is_sample_option Output = false
is_sample_option Function = false
is_sample_option RenameFunction = false
is_sample_option Fuel = false
is_sample_option SampleNumber = true

abbrev pub fault_in : Draft → Part → Option Usage
fault_in d (OperandPart at word) = if is_some d.operand || is_some d.sample then Some (ExtraWord at) else None
fault_in d (FlagPart at flag) = if flag_in d flag then Some (RepeatedOption at) else None
fault_in d (ValuedPart at option value) =
    if is_read d option then Some (RepeatedOption at)
    else (if is_sample_option option && is_some d.operand then Some (ExtraWord at)
    else value_part_fault_in d at option value)
fault_in d (UnknownPart at) = Some (UnknownOption at)

abbrev pub with_flag : Draft → Flag → Draft
with_flag d KeepInit = record d { keep_init = true }
with_flag d Reactor = record d { reactor = true }
with_flag d Report = record d { report = true }

abbrev pub with_option : Draft → Valued → List ℕ → Draft
with_option d Output value = record d { output = Some value }
with_option d Function value = record d { function = Some value }
with_option d RenameFunction value = record d { renames = d.renames ++ with_halves (halves_of value) []; bytes = d.bytes + length value }
with_option d Fuel value = record d { fuel = decimal value }
with_option d SampleNumber value = record d { sample = decimal value }

abbrev pub with_part : Draft → Part → Draft
with_part d (OperandPart at word) = record d { operand = Some word }
with_part d (FlagPart at flag) = with_flag d flag
with_part d (ValuedPart at option None) = d
with_part d (ValuedPart at option (Some value)) = with_option d option value.1
with_part d (UnknownPart at) = d

-- what a call of the reader did: it took the part, or it found the fault, unless the memory didn't suffice
abbrev pub TakesUp : {X : Type 0} → Option Usage → Draft → Result X Usage → Draft → Type 0
TakesUp fault there (Ok done) now = (fault ≡ None) × (now ≡ there)
TakesUp fault there (Err usage) now = (usage ≡ NoMemory) ⊎ (fault ≡ Some usage)

abbrev pub TakesPart : {X : Type 0} → Draft → Part → Result X Usage → Draft → Type 0
TakesPart d part result now = TakesUp (fault_in d part) (with_part d part) result now

abbrev pub TakesValue : {X : Type 0} → Draft → Valued → ℕ × List ℕ → Result X Usage → Draft → Type 0
TakesValue d option value result now = TakesUp (value_fault_in d option value.0 value.1) (with_option d option value.1) result now

-- ---- all parts

abbrev pub draft_asks : Draft → Settings
draft_asks d = record {
  input = input_or_sample d.sample d.operand;
  output = output_of d.output;
  function = unwrap_or d.function default_function;
  renames = d.renames;
  fuel = unwrap_or d.fuel default_fuel;
  keep_init = d.keep_init;
  reactor = d.reactor;
  report = d.report;
  prune = false;
}

abbrev pub fault_or : {X : Type 0} → Option Usage → Result X Usage → Result X Usage
fault_or None later = later
fault_or (Some fault) later = Err fault

-- what comes of these parts behind the draft
abbrev pub outcome_from : Draft → List Part → Result Settings Usage
outcome_from d [] = Ok (draft_asks d)
outcome_from d (part ∷ parts) = fault_or (fault_in d part) (outcome_from (with_part d part) parts)

-- ---- numbers

-- a number, if it is within the limit
abbrev pub number_within : ℕ → Option ℕ → Option ℕ
number_within limit None = None
number_within limit (Some number) = if nat_lt limit number then None else Some number

-- with one digit more behind it
abbrev pub next_within : ℕ → ℕ → ℕ → Option ℕ
next_within limit number byte = if is_digit byte then number_within limit (Some (number * 10 + (byte - 48))) else None
