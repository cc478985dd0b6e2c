-- A sample that words ask for is no larger than the limit on its number.
use Rattle.std.proofs.Common.{◌≡◌, ℕ, ◌≤◌, List, [], ◌∷◌, ◌++◌, Bool, true, false, refl, subst}
use Rattle.std.specs.Prelude.{Option, Some, None, IfSome, Ok, nat_lt, if◌then◌else◌}
use Rattle.std.proofs.lemmas.Bool.{ltb-false}
use Rattle.wz_words.specs.declared.settings.InputFrom.TheVariants as input
use Rattle.wz_words.specs.declared.settings.Usage.{Usage}
use Rattle.wz_words.specs.declared.settings.Usage.TheVariants.{BadNumber}
use Rattle.wz_words.specs.Options.{Output, Function, RenameFunction, Fuel, SampleNumber, decimal}
use Rattle.wz_words.specs.Parts.{Part, OperandPart, FlagPart, ValuedPart, UnknownPart, command_parts}
use Rattle.wz_words.specs.Settings.{Settings, values_of, first_value, number_of_value, input_or_sample, operand_in, asked, is_stream}
use Rattle.wz_words.specs.Faults.{settings, sample_limit, number_fault, fault_of, first_fault, or_later, unless_fault, is_repeated, is_sample_beside}
use Rattle.wz_top.specs.Devices.{IsSmallSample}

abbrev no_fault : Option Usage
no_fault = None

first_none : (a b : Option Usage) → or_later a b ≡ no_fault → a ≡ no_fault
first_none None b e = refl
first_none (Some fault) b e = absurd cc

rest_none : (a b : Option Usage) → or_later a b ≡ no_fault → b ≡ no_fault
rest_none None b e = e
rest_none (Some fault) b e = absurd cc

otherwise : (test : Bool) (fault : Usage) (other : Option Usage) → (if test then Some fault else other) ≡ no_fault → other ≡ no_fault
otherwise true fault other e = absurd cc
otherwise false fault other e = e

small_number : (at limit : ℕ) (number : Option ℕ) → number_fault at limit number ≡ no_fault → IfSome number (λ n. n ≤ limit)
small_number at limit None e = tt
small_number at limit (Some n) e = by (nat_lt limit n) refl e where
  by : (test : Bool) → nat_lt limit n ≡ test → (if test then Some (BadNumber at) else None) ≡ no_fault → n ≤ limit
  by true is fault = absurd cc
  by false is fault = ltb-false limit n is

abbrev IsSmall : List Part → Type 0
IsSmall parts = IfSome (number_of_value (first_value (values_of SampleNumber parts))) (λ n. n ≤ sample_limit)

small_value : (before : List Part) (at : ℕ) (value : ℕ × List ℕ) → fault_of before (ValuedPart at SampleNumber (Some value)) ≡ no_fault
    → IfSome (decimal value.1) (λ n. n ≤ sample_limit)
small_value before at value e =
    small_number value.0 sample_limit (decimal value.1)
    (otherwise (is_sample_beside before SampleNumber) _ _ (otherwise (is_repeated before SampleNumber) _ _ e))

-- of the parts behind one that asks for no sample
small_behind : (before : List Part) (part : Part) (parts : List Part) → (first_fault (before ++ part ∷ []) parts ≡ no_fault → IsSmall parts)
    → or_later (fault_of before part) (first_fault (before ++ part ∷ []) parts) ≡ no_fault → IsSmall parts
small_behind before part parts small e = small (rest_none (fault_of before part) (first_fault (before ++ part ∷ []) parts) e)

small_in : (before parts : List Part) → first_fault before parts ≡ no_fault → IsSmall parts
small_in before [] e = tt
small_in before (OperandPart at word ∷ parts) e = small_behind before (OperandPart at word) parts (small_in (before ++ OperandPart at word ∷ []) parts) e
small_in before (FlagPart at flag ∷ parts) e = small_behind before (FlagPart at flag) parts (small_in (before ++ FlagPart at flag ∷ []) parts) e
small_in before (UnknownPart at ∷ parts) e = small_behind before (UnknownPart at) parts (small_in (before ++ UnknownPart at ∷ []) parts) e
small_in before (ValuedPart at option None ∷ parts) e =
    small_behind before (ValuedPart at option None) parts (small_in (before ++ ValuedPart at option None ∷ []) parts) e
small_in before (ValuedPart at Output (Some value) ∷ parts) e =
    small_behind before (ValuedPart at Output (Some value)) parts (small_in (before ++ ValuedPart at Output (Some value) ∷ []) parts) e
small_in before (ValuedPart at Function (Some value) ∷ parts) e =
    small_behind before (ValuedPart at Function (Some value)) parts (small_in (before ++ ValuedPart at Function (Some value) ∷ []) parts) e
small_in before (ValuedPart at RenameFunction (Some value) ∷ parts) e =
    small_behind before (ValuedPart at RenameFunction (Some value)) parts (small_in (before ++ ValuedPart at RenameFunction (Some value) ∷ []) parts) e
small_in before (ValuedPart at Fuel (Some value) ∷ parts) e =
    small_behind before (ValuedPart at Fuel (Some value)) parts (small_in (before ++ ValuedPart at Fuel (Some value) ∷ []) parts) e
small_in before (ValuedPart at SampleNumber (Some value) ∷ parts) e =
    let part : Part = ValuedPart at SampleNumber (Some value) in
    small_value before at value (first_none (fault_of before part) (first_fault (before ++ part ∷ []) parts) e)

stream_is_none : (test : Bool) (word : List ℕ) → IsSmallSample (if test then input.Standard else input.Path word)
stream_is_none true word = tt
stream_is_none false word = tt

small_input : (number : Option ℕ) (operand : Option (List ℕ)) → IfSome number (λ n. n ≤ sample_limit) → IsSmallSample (input_or_sample number operand)
small_input (Some n) operand h = h
small_input None None h = tt
small_input None (Some word) h = stream_is_none (is_stream word) word

small_asked : (fault : Option Usage) (given s : Settings) → unless_fault fault given ≡ Ok s → (fault ≡ no_fault → IsSmallSample given.input) → IsSmallSample s.input
small_asked None given s e small = let same : given ≡ s = cc in subst (λ (x : Settings). IsSmallSample x.input) same (small refl)
small_asked (Some fault) given s e small = absurd cc

pub small_sample : (words : List (List ℕ)) (s : Settings) → settings words ≡ Ok s → IsSmallSample s.input
unfolding settings
small_sample words s e =
    let parts = command_parts words in
    small_asked (first_fault [] parts) (asked parts) s e
    (λ none. small_input (number_of_value (first_value (values_of SampleNumber parts))) (operand_in parts) (small_in [] parts none))
