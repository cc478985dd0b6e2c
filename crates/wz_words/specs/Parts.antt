-- The words, taken apart from left to right: options with their values, and operands. What a part means, and whether it may
-- stand there, isn't looked at yet.
use Rattle.std.specs.Prelude.{ℕ, ◌+◌, Bool, true, false, List, [], ◌∷◌, Option, Some, None, ◌==◌, if◌then◌else◌, codes}
use Rattle.wz_words.specs.Options.{Flag, Valued, flag_named, long_named, short_named, same_text}

-- a part of the command line, with the place of its word
pub data Part : Type 0 where
  OperandPart : ℕ → List ℕ → Part
  FlagPart : ℕ → Flag → Part
  -- the value, with the place of the word in which it stands, unless no word follows
  ValuedPart : ℕ → Valued → Option (ℕ × List ℕ) → Part
  UnknownPart : ℕ → Part

-- what stands before the first `=` and behind it
pub record Halves : Type 0 where
  pub front : List ℕ
  pub back : List ℕ

abbrev pub behind_byte : ℕ → Option Halves → Option Halves
behind_byte byte None = None
behind_byte byte (Some halves) = Some (record halves { front = byte ∷ halves.front })

abbrev pub halves_of : List ℕ → Option Halves
halves_of [] = None
halves_of (byte ∷ bytes) = if byte == 61 then Some (record { front = []; back = bytes }) else behind_byte byte (halves_of bytes)

-- ---- what a word is by itself, while options may stand

pub data WordKind : Type 0 where
  -- a word that isn't longer than `-`, or doesn't begin with it
  IsOperand : WordKind
  -- `--`
  EndsOptions : WordKind
  IsFlag : Flag → WordKind
  -- the value is the next word, whatever it begins with
  TakesNext : Valued → WordKind
  -- a long option with its value behind `=`
  HasValue : Valued → List ℕ → WordKind
  IsUnknown : WordKind

abbrev pub with_value : Option Valued → List ℕ → WordKind
with_value None value = IsUnknown
with_value (Some option) value = HasValue option value

-- a word with `=` in it, which no flag has
abbrev pub of_halves : Option Halves → WordKind
of_halves None = IsUnknown
of_halves (Some halves) = with_value (long_named halves.front) halves.back

abbrev pub of_valued : Option Valued → List ℕ → WordKind
of_valued None word = of_halves (halves_of word)
of_valued (Some option) word = TakesNext option

abbrev pub first_named : Option Valued → Option Valued → Option Valued
first_named None other = other
first_named (Some option) other = Some option

abbrev pub of_flag : Option Flag → List ℕ → WordKind
of_flag None word = of_valued (first_named (long_named word) (short_named word)) word
of_flag (Some flag) word = IsFlag flag

abbrev pub is_option_word : List ℕ → Bool
is_option_word [] = false
is_option_word (byte ∷ []) = false
is_option_word (byte ∷ next ∷ bytes) = byte == 45

abbrev pub word_kind : List ℕ → WordKind
word_kind word =
    if is_option_word word
    then (if same_text word (codes "--") then EndsOptions else of_flag (flag_named word) word)
    else IsOperand

-- behind `--` each word is an operand
abbrev pub kind_there : Bool → List ℕ → WordKind
kind_there ended word = if ended then IsOperand else word_kind word

-- ---- the parts of a list of words, the first of which has this place; `others` and `behind` are those of the words behind it
-- and behind the next one, by whether the options have ended

abbrev pub last_parts : Bool → ℕ → List ℕ → WordKind → List Part
last_parts ended at word IsOperand = OperandPart at word ∷ []
last_parts ended at word EndsOptions = []
last_parts ended at word (IsFlag flag) = FlagPart at flag ∷ []
last_parts ended at word (TakesNext option) = ValuedPart at option None ∷ []
last_parts ended at word (HasValue option value) = ValuedPart at option (Some (at, value)) ∷ []
last_parts ended at word IsUnknown = UnknownPart at ∷ []

abbrev pub more_parts : Bool → ℕ → List ℕ → List ℕ → WordKind → (Bool → List Part) → (Bool → List Part) → List Part
more_parts ended at word next IsOperand others behind = OperandPart at word ∷ others ended
more_parts ended at word next EndsOptions others behind = others true
more_parts ended at word next (IsFlag flag) others behind = FlagPart at flag ∷ others ended
more_parts ended at word next (TakesNext option) others behind = ValuedPart at option (Some (at + 1, next)) ∷ behind ended
more_parts ended at word next (HasValue option value) others behind = ValuedPart at option (Some (at, value)) ∷ others ended
more_parts ended at word next IsUnknown others behind = UnknownPart at ∷ others ended

abbrev pub parts_from : Bool → ℕ → List (List ℕ) → List Part
parts_from ended at [] = []
parts_from ended at (word ∷ []) = last_parts ended at word (kind_there ended word)
parts_from ended at (word ∷ next ∷ words) =
    more_parts ended at word next (kind_there ended word)
    (λ now. parts_from now (at + 1) (next ∷ words)) (λ now. parts_from now (at + 2) words)

-- the parts of the whole command line
abbrev pub command_parts : List (List ℕ) → List Part
command_parts words = parts_from false 0 words
