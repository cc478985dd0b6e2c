-- What parts of the command line that are all in order ask for.
use Rattle.std.specs.Prelude.{ℕ, Bool, false, ◌||◌, List, [], ◌∷◌, Option, Some, None, if◌then◌else◌, codes, unwrap_or}
use Rattle.wz_words.specs.declared.settings.InputFrom.{InputFrom}
use Rattle.wz_words.specs.declared.settings.InputFrom.TheVariants as input
use Rattle.wz_words.specs.declared.settings.OutputTo.{OutputTo}
use Rattle.wz_words.specs.declared.settings.OutputTo.TheVariants as output
use Rattle.wz_words.specs.declared.settings.Rename.{Rename}
use Rattle.wz_words.specs.declared.settings.Settings as code
use Rattle.wz_words.specs.Options.{Flag, KeepInit, Reactor, Report, Valued, Output, Function, RenameFunction, Fuel, SampleNumber, same_flag, same_valued, same_text, decimal}
use Rattle.wz_words.specs.Parts.{Part, OperandPart, FlagPart, ValuedPart, UnknownPart, Halves, halves_of}

-- ---- what was read

-- the first of the operands
abbrev pub operand_in : List Part → Option (List ℕ)
operand_in [] = None
operand_in (OperandPart at word ∷ parts) = Some word
operand_in (FlagPart at flag ∷ parts) = operand_in parts
operand_in (ValuedPart at option value ∷ parts) = operand_in parts
operand_in (UnknownPart at ∷ parts) = operand_in parts

-- a flag stands among the parts
abbrev pub has_flag : Flag → List Part → Bool
has_flag flag [] = false
has_flag flag (FlagPart at other ∷ parts) = same_flag other flag || has_flag flag parts
has_flag flag (OperandPart at word ∷ parts) = has_flag flag parts
has_flag flag (ValuedPart at option value ∷ parts) = has_flag flag parts
has_flag flag (UnknownPart at ∷ parts) = has_flag flag parts

-- an option that takes a value does
abbrev pub has_option : Valued → List Part → Bool
has_option option [] = false
has_option option (ValuedPart at other value ∷ parts) = same_valued other option || has_option option parts
has_option option (OperandPart at word ∷ parts) = has_option option parts
has_option option (FlagPart at flag ∷ parts) = has_option option parts
has_option option (UnknownPart at ∷ parts) = has_option option parts

-- the values of an option, in order
abbrev pub values_of : Valued → List Part → List (List ℕ)
values_of option [] = []
values_of option (ValuedPart at other (Some value) ∷ parts) =
    if same_valued other option then value.1 ∷ values_of option parts else values_of option parts
values_of option (ValuedPart at other None ∷ parts) = values_of option parts
values_of option (OperandPart at word ∷ parts) = values_of option parts
values_of option (FlagPart at flag ∷ parts) = values_of option parts
values_of option (UnknownPart at ∷ parts) = values_of option parts

-- ---- what they ask for

-- `dst=src`: the new name before the first `=`, and the export's name behind it
abbrev pub rename_of : Halves → Rename
rename_of halves = record { dst = halves.front; src = halves.back }

abbrev pub with_halves : Option Halves → List Rename → List Rename
with_halves None renames = renames
with_halves (Some halves) renames = rename_of halves ∷ renames

abbrev pub renames_of : List (List ℕ) → List Rename
renames_of [] = []
renames_of (value ∷ values) = with_halves (halves_of value) (renames_of values)

-- the first of some values, if there is one
abbrev pub first_value : List (List ℕ) → Option (List ℕ)
first_value [] = None
first_value (value ∷ values) = Some value

-- `-` is the standard stream
abbrev pub is_stream : List ℕ → Bool
is_stream word = same_text word (codes "-")

abbrev pub operand_input : Option (List ℕ) → InputFrom
operand_input None = input.Standard
operand_input (Some word) = if is_stream word then input.Standard else input.Path word

abbrev pub output_of : Option (List ℕ) → OutputTo
output_of None = output.Standard
output_of (Some word) = if is_stream word then output.Standard else output.Path word

-- the sample goes before an operand, which doesn't stand beside it
abbrev pub input_or_sample : Option ℕ → Option (List ℕ) → InputFrom
input_or_sample None operand = operand_input operand
input_or_sample (Some number) operand = input.Sample number

-- the number that the value of an option is, if it is there
abbrev pub number_of_value : Option (List ℕ) → Option ℕ
number_of_value None = None
number_of_value (Some value) = decimal value

-- what a run is to do
pub record Settings : Type 0 where
  pub input : InputFrom
  pub output : OutputTo
  pub function : List ℕ
  pub renames : List Rename
  pub fuel : ℕ
  pub keep_init : Bool
  pub reactor : Bool
  pub report : Bool
  pub prune : Bool

-- what the code's struct says
abbrev pub settings_of : code.Settings → Settings
settings_of s = record {
  input = s.input;
  output = s.output;
  function = s.function;
  renames = s.renames.items;
  fuel = s.fuel;
  keep_init = s.keep_init;
  reactor = s.reactor;
  report = s.report;
  prune = s.prune;
}

abbrev pub default_function : List ℕ
default_function = codes "wizer.initialize"

abbrev pub default_fuel : ℕ
default_fuel = 10000000000

-- what the parts ask for, each option's value being the first that was given
abbrev pub asked : List Part → Settings
asked parts = record {
  input = input_or_sample (number_of_value (first_value (values_of SampleNumber parts))) (operand_in parts);
  output = output_of (first_value (values_of Output parts));
  function = unwrap_or (first_value (values_of Function parts)) default_function;
  renames = renames_of (values_of RenameFunction parts);
  fuel = unwrap_or (number_of_value (first_value (values_of Fuel parts))) default_fuel;
  keep_init = has_flag KeepInit parts;
  reactor = has_flag Reactor parts;
  report = has_flag Report parts;
  prune = false;
}
