-- The code's draft as what the definitions speak of.
use Rattle.std.specs.Prelude.{◌≡◌, ◌≤◌, ℕ, List, Option, Some, None, option_copied, option_map, Result, Ok, Err}
use Rattle.wz_words.specs.declared.draft.WordsDraft.{WordsDraft}
use Rattle.wz_words.specs.declared.left.PlacedWord.{PlacedWord}
use Rattle.wz_words.specs.declared.options.ValuedName.{ValuedName}
use Rattle.wz_words.specs.declared.settings.Usage.{Usage}
use Rattle.wz_words.specs.Options.{decimal}
use Rattle.wz_words.specs.Parts.{Part, OperandPart, ValuedPart}
use Rattle.wz_words.specs.Faults.{number_fault}
use Rattle.wz_words.specs.Views.{valued_view}
use Rattle.wz_words.specs.Draft.{Draft, TakesPart, TakesValue}

abbrev pub draft_view : WordsDraft → Draft
draft_view d = record {
  operand = option_copied d.operand;
  output = option_copied d.output;
  function = option_copied d.function;
  fuel = d.fuel;
  sample = d.sample;
  keep_init = d.keep_init;
  reactor = d.reactor;
  report = d.report;
  renames = d.renames.list.items;
  bytes = d.renames.bytes;
}

abbrev pub place_view : PlacedWord → ℕ × List ℕ
place_view word = (word.at, word.text.now)

-- the value's number within the limit, or the fault of the word
abbrev pub ReadsNumber : ℕ → ℕ → List ℕ → Result ℕ Usage → Type 0
ReadsNumber limit at text (Ok number) = (decimal text ≡ Some number) × (number_fault at limit (decimal text) ≡ None) × (number ≤ limit)
ReadsNumber limit at text (Err usage) = number_fault at limit (decimal text) ≡ Some usage

-- the operand that a word is
abbrev pub operand_part : PlacedWord → Part
operand_part word = OperandPart word.at word.text.now

-- an option with the word that is its value
abbrev pub option_part : ℕ → ValuedName → Option PlacedWord → Part
option_part at option value = ValuedPart at (valued_view option) (option_map place_view value)

-- the code's drafts before and after a part that was taken, or a value of an option
abbrev pub DraftTakes : {X : Type 0} → WordsDraft → Part → Result X Usage → WordsDraft → Type 0
DraftTakes d part result now = TakesPart (draft_view d) part result (draft_view now)

abbrev pub DraftTakesValue : {X : Type 0} → WordsDraft → ValuedName → PlacedWord → Result X Usage → WordsDraft → Type 0
DraftTakesValue d option word result now = TakesValue (draft_view d) (valued_view option) (place_view word) result (draft_view now)
