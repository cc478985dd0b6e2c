-- The first part of words, by what the first word is, and what comes of the words with it.
use Rattle.std.proofs.Common.{◌≡◌, inl, inr, ℕ, ◌+◌, Bool, true, List, [], ◌∷◌, Option, Some, None, Result, Ok, Err, drop, sym, ap, ◌∙◌, arith}
use Rattle.std.specs.Prelude.{option_map, IfNone, IfSome, OnSome}
use Rattle.wz_words.specs.declared.left.PlacedWord.{PlacedWord}
use Rattle.wz_words.specs.declared.left.WordsLeft.{WordsLeft}
use Rattle.wz_words.specs.declared.settings.Usage.{Usage}
use Rattle.wz_words.specs.declared.settings.Usage.TheVariants.{UnknownOption}
use Rattle.wz_words.specs.Options.{Flag, Valued}
use Rattle.wz_words.specs.Parts.{Part, OperandPart, FlagPart, ValuedPart, UnknownPart, WordKind, IsOperand, EndsOptions, IsFlag, TakesNext, HasValue, IsUnknown, kind_there, last_parts, more_parts, parts_from}
use Rattle.wz_words.specs.Draft.{Draft, with_part, TakesPart, outcome_from, fault_or}
use Rattle.wz_words.specs.DraftViews.{place_view}
use Rattle.wz_words.specs.Left.{words_left}
use Rattle.wz_words.specs.Reader.{ReadsOn}

abbrev last : Bool → ℕ → List ℕ → WordKind → List Part
last ended at word kind = last_parts ended at word kind

abbrev more : Bool → ℕ → List ℕ → List ℕ → List (List ℕ) → WordKind → List Part
more ended at word next words kind = more_parts ended at word next kind (λ now. parts_from now (at + 1) (next ∷ words)) (λ now. parts_from now (at + 2) words)

pub parts_operand : (ended : Bool) (at : ℕ) (word : List ℕ) (rest : List (List ℕ)) → kind_there ended word ≡ IsOperand
    → parts_from ended at (word ∷ rest) ≡ OperandPart at word ∷ parts_from ended (at + 1) rest
parts_operand ended at word [] e = ap (last ended at word) e
parts_operand ended at word (next ∷ words) e = ap (more ended at word next words) e

pub parts_ended : (ended : Bool) (at : ℕ) (word : List ℕ) (rest : List (List ℕ)) → kind_there ended word ≡ EndsOptions
    → parts_from ended at (word ∷ rest) ≡ parts_from true (at + 1) rest
parts_ended ended at word [] e = ap (last ended at word) e
parts_ended ended at word (next ∷ words) e = ap (more ended at word next words) e

pub parts_flag : (ended : Bool) (at : ℕ) (word : List ℕ) (rest : List (List ℕ)) (flag : Flag) → kind_there ended word ≡ IsFlag flag
    → parts_from ended at (word ∷ rest) ≡ FlagPart at flag ∷ parts_from ended (at + 1) rest
parts_flag ended at word [] flag e = ap (last ended at word) e
parts_flag ended at word (next ∷ words) flag e = ap (more ended at word next words) e

pub parts_value : (ended : Bool) (at : ℕ) (word : List ℕ) (rest : List (List ℕ)) (option : Valued) (value : List ℕ) → kind_there ended word ≡ HasValue option value
    → parts_from ended at (word ∷ rest) ≡ ValuedPart at option (Some (at, value)) ∷ parts_from ended (at + 1) rest
parts_value ended at word [] option value e = ap (last ended at word) e
parts_value ended at word (next ∷ words) option value e = ap (more ended at word next words) e

pub parts_missing : (ended : Bool) (at : ℕ) (word : List ℕ) (rest : List (List ℕ)) (now : ℕ) (option : Valued) → kind_there ended word ≡ TakesNext option → rest ≡ []
    → parts_from ended at (word ∷ rest) ≡ ValuedPart at option None ∷ parts_from ended now rest
parts_missing ended at word rest now option e f =
    ap (λ (words : List (List ℕ)). parts_from ended at (word ∷ words)) f ∙ ap (last ended at word) e
    ∙ sym (ap (λ (words : List (List ℕ)). ValuedPart at option None ∷ parts_from ended now words) f)

pub parts_next : (ended : Bool) (at : ℕ) (word : List ℕ) (rest : List (List ℕ)) (next : List ℕ) (words : List (List ℕ)) (option : Valued) → kind_there ended word ≡ TakesNext option
    → rest ≡ next ∷ words
    → parts_from ended at (word ∷ rest) ≡ ValuedPart at option (Some (at + 1, next)) ∷ parts_from ended (at + 2) words
parts_next ended at word rest next words option e f =
    ap (λ (all : List (List ℕ)). parts_from ended at (word ∷ all)) f ∙ ap (more ended at word next words) e

pub parts_unknown : (ended : Bool) (at : ℕ) (word : List ℕ) (rest : List (List ℕ)) → kind_there ended word ≡ IsUnknown
    → parts_from ended at (word ∷ rest) ≡ UnknownPart at ∷ parts_from ended (at + 1) rest
parts_unknown ended at word [] e = ap (last ended at word) e
parts_unknown ended at word (next ∷ words) e = ap (more ended at word next words) e

-- ---- what comes of the words

pub reads_part : {X : Type 0} (d now : Draft) (part : Part) (parts rest : List Part) (result : Result X Usage) → parts ≡ part ∷ rest → TakesPart d part result now
    → ReadsOn (outcome_from d parts) result (outcome_from now rest)
reads_part d now part parts rest (Ok done) e h =
    ap (outcome_from d) e ∙ ap (λ (fault : Option Usage). fault_or fault (outcome_from (with_part d part) rest)) h.0 ∙ sym (ap (λ (there : Draft). outcome_from there rest) h.1)
reads_part d now part parts rest (Err usage) e (inl memory) = inl memory
reads_part d now part parts rest (Err usage) e (inr fault) =
    inr (ap (outcome_from d) e ∙ ap (λ (f : Option Usage). fault_or f (outcome_from (with_part d part) rest)) fault)

pub unknown_part : (d : Draft) (at : ℕ) (parts rest : List Part) → parts ≡ UnknownPart at ∷ rest → outcome_from d parts ≡ Err (UnknownOption at)
unknown_part d at parts rest e = ap (outcome_from d) e

-- the next word, where there is one, is the value of the option
pub parts_taken : (ended : Bool) (at : ℕ) (word : List ℕ) (left now : WordsLeft) (option : Valued) (value : Option PlacedWord) → kind_there ended word ≡ TakesNext option
    → left.at ≡ at + 1
    → IfNone value (words_left left ≡ []) → IfSome value (λ v. v.at ≡ left.at) → IfSome value (λ v. words_left left ≡ v.text.now ∷ words_left now)
    → OnSome value (now.at ≡ left.at + 1) → IfNone value (now.at ≡ left.at) → now.words.now ≡ left.words.now
    → parts_from ended at (word ∷ words_left left) ≡ ValuedPart at option (option_map place_view value) ∷ parts_from ended now.at (words_left now)
parts_taken ended at word left now option None e place none some front next stays words =
    parts_missing ended at word (words_left left) now.at option e none
    ∙ ap (λ (ws : List (List ℕ)). ValuedPart at option None ∷ parts_from ended now.at ws)
    (ap (λ (n : ℕ). drop n left.words.now) (sym stays) ∙ ap (λ (ws : List (List ℕ)). drop now.at ws) (sym words))
parts_taken ended at word left now option (Some v) e place none some front next stays words =
    let two : at + 2 ≡ now.at = omega (arith, next, place) in
    parts_next ended at word (words_left left) v.text.now (words_left now) option e front
    ∙ ap (λ (n : ℕ). ValuedPart at option (Some (n, v.text.now)) ∷ parts_from ended (at + 2) (words_left now)) (sym (some ∙ place))
    ∙ ap (λ (n : ℕ). ValuedPart at option (Some (v.at, v.text.now)) ∷ parts_from ended n (words_left now)) two
