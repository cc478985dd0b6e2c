-- What comes of the words that weren't read yet, behind what was read.
use Rattle.std.specs.Prelude.{◌≡◌, ◌⊎◌, ◌≤◌, ◌∷◌, length, Result, Ok, Err}
use Rattle.wz_words.specs.declared.left.PlacedWord.{PlacedWord}
use Rattle.wz_words.specs.declared.read.Reader.{Reader}
use Rattle.wz_words.specs.declared.settings.Usage.{Usage}
use Rattle.wz_words.specs.declared.settings.Usage.TheVariants.{NoMemory}
use Rattle.wz_words.specs.Parts.{parts_from}
use Rattle.wz_words.specs.Settings.{Settings}
use Rattle.wz_words.specs.Draft.{outcome_from}
use Rattle.wz_words.specs.DraftViews.{draft_view}
use Rattle.wz_words.specs.Left.{words_left}
use Rattle.wz_words.specs.Views.{AreSound}

abbrev pub outcome_of : Reader → Result Settings Usage
outcome_of reader = outcome_from (draft_view reader.draft) (parts_from reader.ended reader.left.at (words_left reader.left))

pub record IsUnderWay (reader : Reader) : Type 0 where
  pub sound : AreSound reader.draft.renames
  pub within : reader.left.at ≤ length reader.left.words.now

-- a step went on with the same outcome, or met the fault that is the outcome, unless the memory didn't suffice
abbrev pub ReadsOn : {X : Type 0} → Result Settings Usage → Result X Usage → Result Settings Usage → Type 0
ReadsOn there (Ok done) now = there ≡ now
ReadsOn there (Err usage) now = (usage ≡ NoMemory) ⊎ (there ≡ Err usage)

-- what comes of the words that are left, with a word before them
abbrev pub outcome_with : PlacedWord → Reader → Result Settings Usage
outcome_with word reader = outcome_from (draft_view reader.draft) (parts_from reader.ended word.at (word.text.now ∷ words_left reader.left))
