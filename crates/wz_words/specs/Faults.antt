-- The first word that is at fault, by its place, counted from 0. Where two rules refuse a word, the one that stands first here
-- gives the answer.
use Rattle.std.specs.Prelude.{ℕ, ◌+◌, ◌-◌, ◌^◌, nat_lt, Bool, not, ◌&&◌, ◌||◌, List, [], ◌∷◌, ◌++◌, length, Option, Some, None, is_some, Result, Ok, Err, if◌then◌else◌}
use Rattle.std.specs.List.{list_any}
use Rattle.wz_words.specs.declared.settings.Rename.{Rename}
use Rattle.wz_words.specs.declared.settings.Usage.{Usage}
use Rattle.wz_words.specs.declared.settings.Usage.TheVariants.{UnknownOption, MissingValue, RepeatedOption, ExtraWord, BadNumber, BadRename, RenamesTooLong, RenameTwiceTo, RenameTwiceFrom}
use Rattle.wz_words.specs.Options.{Valued, Output, Function, RenameFunction, Fuel, SampleNumber, same_valued, same_text, decimal}
use Rattle.wz_words.specs.Parts.{Part, OperandPart, FlagPart, ValuedPart, UnknownPart, Halves, halves_of, command_parts}
use Rattle.wz_words.specs.Settings.{Settings, operand_in, has_flag, has_option, values_of, renames_of, asked}

-- ---- values

abbrev pub fuel_limit : ℕ
fuel_limit = 2 ^ 64 - 1

abbrev pub sample_limit : ℕ
sample_limit = 1000000

abbrev pub renames_limit : ℕ
renames_limit = 1048576

-- digits, and no more than the limit
abbrev pub number_fault : ℕ → ℕ → Option ℕ → Option Usage
number_fault at limit None = Some (BadNumber at)
number_fault at limit (Some number) = if nat_lt limit number then Some (BadNumber at) else None

abbrev pub renames_to : List ℕ → List Rename → Bool
renames_to name renames = list_any (λ rename. same_text rename.dst name) renames

abbrev pub renames_from : List ℕ → List Rename → Bool
renames_from name renames = list_any (λ rename. same_text rename.src name) renames

-- how many bytes values have together
abbrev pub bytes_together : List (List ℕ) → ℕ
bytes_together [] = 0
bytes_together (value ∷ values) = length value + bytes_together values

-- two names, few enough bytes in all renames, and two names that no earlier rename has in the same place
abbrev pub rename_fault : List (List ℕ) → ℕ → List ℕ → Option Halves → Option Usage
rename_fault earlier at value None = Some (BadRename at)
rename_fault earlier at value (Some halves) =
    if nat_lt renames_limit (bytes_together earlier + length value) then Some (RenamesTooLong at)
    else (if renames_to halves.front (renames_of earlier) then Some (RenameTwiceTo at)
    else (if renames_from halves.back (renames_of earlier) then Some (RenameTwiceFrom at)
    else None))

abbrev pub value_fault : List Part → Valued → ℕ → List ℕ → Option Usage
value_fault before Output at value = None
value_fault before Function at value = None
value_fault before RenameFunction at value = rename_fault (values_of RenameFunction before) at value (halves_of value)
value_fault before Fuel at value = number_fault at fuel_limit (decimal value)
value_fault before SampleNumber at value = number_fault at sample_limit (decimal value)

abbrev pub value_part_fault : List Part → ℕ → Valued → Option (ℕ × List ℕ) → Option Usage
value_part_fault before at option None = Some (MissingValue at)
value_part_fault before at option (Some value) = value_fault before option value.0 value.1

-- ---- parts, each behind those that stand before it

-- a rename may come again
abbrev pub is_repeated : List Part → Valued → Bool
is_repeated before option = not (same_valued option RenameFunction) && has_option option before

-- a sample beside an input
abbrev pub is_sample_beside : List Part → Valued → Bool
is_sample_beside before option = same_valued option SampleNumber && is_some (operand_in before)

-- an input beside another, or beside a sample
abbrev pub is_extra : List Part → Bool
is_extra before = is_some (operand_in before) || has_option SampleNumber before

abbrev pub fault_of : List Part → Part → Option Usage
fault_of before (OperandPart at word) = if is_extra before then Some (ExtraWord at) else None
fault_of before (FlagPart at flag) = if has_flag flag before then Some (RepeatedOption at) else None
fault_of before (ValuedPart at option value) =
    if is_repeated before option then Some (RepeatedOption at)
    else (if is_sample_beside before option then Some (ExtraWord at)
    else value_part_fault before at option value)
fault_of before (UnknownPart at) = Some (UnknownOption at)

abbrev pub or_later : Option Usage → Option Usage → Option Usage
or_later None later = later
or_later (Some fault) later = Some fault

-- the first fault of these parts, behind those that are in order
abbrev pub first_fault : List Part → List Part → Option Usage
first_fault before [] = None
first_fault before (part ∷ parts) = or_later (fault_of before part) (first_fault (before ++ part ∷ []) parts)

abbrev pub unless_fault : Option Usage → Settings → Result Settings Usage
unless_fault None asked = Ok asked
unless_fault (Some fault) asked = Err fault

-- ---- the whole

-- what the words ask for, or the first that is at fault
unfoldable pub settings : List (List ℕ) → Result Settings Usage
settings words = unless_fault (first_fault [] (command_parts words)) (asked (command_parts words))
