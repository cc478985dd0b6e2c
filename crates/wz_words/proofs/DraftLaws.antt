-- The draft is what the parts before it say, so that what comes of the parts by the draft is `settings`.
use Rattle.std.proofs.Common.{◌≡◌, ℕ, ◌+◌, Bool, true, false, cond, List, [], ◌∷◌, ◌++◌, length, Option, Some, None, Result, Ok, refl, sym, ap, ◌∙◌, append_assoc, arith}
use Rattle.std.specs.Prelude.{◌||◌, is_some}
use Rattle.std.proofs.lemmas.List.{append-nil}
use Rattle.wz_words.specs.declared.settings.Rename.{Rename}
use Rattle.wz_words.specs.declared.settings.Usage.{Usage}
use Rattle.wz_words.specs.declared.settings.Usage.TheVariants.{MissingValue, RepeatedOption, ExtraWord}
use Rattle.wz_words.specs.Options.{Flag, KeepInit, Reactor, Report, Valued, Output, Function, RenameFunction, Fuel, SampleNumber, same_flag, same_valued, decimal}
use Rattle.wz_words.specs.Parts.{Part, OperandPart, FlagPart, ValuedPart, UnknownPart, Halves, halves_of, command_parts}
use Rattle.wz_words.specs.Settings.{Settings, operand_in, has_flag, has_option, values_of, renames_of, with_halves, first_value, number_of_value, asked}
use Rattle.wz_words.specs.Faults.{number_fault, fuel_limit, sample_limit, rename_fault, value_part_fault, bytes_together, is_extra, is_repeated, is_sample_beside, fault_of, first_fault, or_later, unless_fault, settings}
use Rattle.wz_words.specs.Draft.{Draft, empty_draft, fault_in, with_part, rename_fault_in, fault_or, outcome_from, draft_asks}

-- ---- lists of parts, joined

operand_joined : (before : List Part) (parts : List Part) → operand_in parts ≡ None → operand_in (before ++ parts) ≡ operand_in before
operand_joined [] parts e = e
operand_joined (OperandPart at word ∷ before) parts e = refl
operand_joined (FlagPart at flag ∷ before) parts e = operand_joined before parts e
operand_joined (ValuedPart at option value ∷ before) parts e = operand_joined before parts e
operand_joined (UnknownPart at ∷ before) parts e = operand_joined before parts e

operand_added : (before : List Part) (at : ℕ) (word : List ℕ) → operand_in before ≡ None → operand_in (before ++ OperandPart at word ∷ []) ≡ Some word
operand_added [] at word e = refl
operand_added (OperandPart a w ∷ before) at word e = absurd cc
operand_added (FlagPart a flag ∷ before) at word e = operand_added before at word e
operand_added (ValuedPart a option value ∷ before) at word e = operand_added before at word e
operand_added (UnknownPart a ∷ before) at word e = operand_added before at word e

or_assoc : (a b c : Bool) → (a || (b || c)) ≡ ((a || b) || c)
or_assoc true b c = refl
or_assoc false b c = refl

or_false : (a : Bool) → (a || false) ≡ a
or_false true = refl
or_false false = refl

or_true : (a : Bool) → (a || true) ≡ true
or_true true = refl
or_true false = refl

flag_joined : (flag : Flag) (before parts : List Part) → has_flag flag (before ++ parts) ≡ (has_flag flag before || has_flag flag parts)
flag_joined flag [] parts = refl
flag_joined flag (OperandPart at word ∷ before) parts = flag_joined flag before parts
flag_joined flag (FlagPart at other ∷ before) parts =
    ap (λ (b : Bool). same_flag other flag || b) (flag_joined flag before parts) ∙ or_assoc (same_flag other flag) (has_flag flag before) (has_flag flag parts)
flag_joined flag (ValuedPart at option value ∷ before) parts = flag_joined flag before parts
flag_joined flag (UnknownPart at ∷ before) parts = flag_joined flag before parts

option_joined : (option : Valued) (before parts : List Part) → has_option option (before ++ parts) ≡ (has_option option before || has_option option parts)
option_joined option [] parts = refl
option_joined option (OperandPart at word ∷ before) parts = option_joined option before parts
option_joined option (FlagPart at flag ∷ before) parts = option_joined option before parts
option_joined option (ValuedPart at other value ∷ before) parts =
    ap (λ (b : Bool). same_valued other option || b) (option_joined option before parts) ∙ or_assoc (same_valued other option) (has_option option before) (has_option option parts)
option_joined option (UnknownPart at ∷ before) parts = option_joined option before parts

cond_cons : (b : Bool) (x : List ℕ) (xs ys : List (List ℕ)) → cond b (x ∷ (xs ++ ys)) (xs ++ ys) ≡ cond b (x ∷ xs) xs ++ ys
cond_cons true x xs ys = refl
cond_cons false x xs ys = refl

values_joined : (option : Valued) (before parts : List Part) → values_of option (before ++ parts) ≡ values_of option before ++ values_of option parts
values_joined option [] parts = refl
values_joined option (OperandPart at word ∷ before) parts = values_joined option before parts
values_joined option (FlagPart at flag ∷ before) parts = values_joined option before parts
values_joined option (ValuedPart at other None ∷ before) parts = values_joined option before parts
values_joined option (ValuedPart at other (Some value) ∷ before) parts =
    ap (λ (values : List (List ℕ)). cond (same_valued other option) (value.1 ∷ values) values) (values_joined option before parts)
    ∙ cond_cons (same_valued other option) value.1 (values_of option before) (values_of option parts)
values_joined option (UnknownPart at ∷ before) parts = values_joined option before parts

or_left : (a b : Bool) → (a || b) ≡ false → a ≡ false
or_left true b e = absurd cc
or_left false b e = refl

or_right : (a b : Bool) → (a || b) ≡ false → b ≡ false
or_right true b e = absurd cc
or_right false b e = e

cond_skipped : (b : Bool) (x : List ℕ) (xs : List (List ℕ)) → b ≡ false → xs ≡ [] → cond b (x ∷ xs) xs ≡ []
cond_skipped true x xs n e = absurd cc
cond_skipped false x xs n e = e

no_values : (option : Valued) (parts : List Part) → has_option option parts ≡ false → values_of option parts ≡ []
no_values option [] e = refl
no_values option (OperandPart at word ∷ parts) e = no_values option parts e
no_values option (FlagPart at flag ∷ parts) e = no_values option parts e
no_values option (ValuedPart at other None ∷ parts) e = no_values option parts (or_right (same_valued other option) (has_option option parts) e)
no_values option (ValuedPart at other (Some value) ∷ parts) e =
    cond_skipped (same_valued other option) value.1 (values_of option parts) (or_left (same_valued other option) (has_option option parts) e)
    (no_values option parts (or_right (same_valued other option) (has_option option parts) e))
no_values option (UnknownPart at ∷ parts) e = no_values option parts e

with_halves_joined : (halves : Option Halves) (renames more : List Rename) → with_halves halves (renames ++ more) ≡ with_halves halves renames ++ more
with_halves_joined None renames more = refl
with_halves_joined (Some halves) renames more = refl

renames_joined : (values more : List (List ℕ)) → renames_of (values ++ more) ≡ renames_of values ++ renames_of more
renames_joined [] more = refl
renames_joined (value ∷ values) more =
    ap (λ (renames : List Rename). with_halves (halves_of value) renames) (renames_joined values more)
    ∙ with_halves_joined (halves_of value) (renames_of values) (renames_of more)

bytes_added : (values : List (List ℕ)) (value : List ℕ) → bytes_together (values ++ value ∷ []) ≡ bytes_together values + length value
bytes_added [] value = omega arith
bytes_added (first ∷ values) value = omega (arith, bytes_added values value)

-- ---- what one option says, and that a part of another kind leaves it

abbrev IsText : Valued → List Part → Option (List ℕ) → Type 0
IsText option before text = (has_option option before ≡ is_some text) × (first_value (values_of option before) ≡ text)

abbrev IsNumber : Valued → List Part → Option ℕ → Type 0
IsNumber option before number = (has_option option before ≡ is_some number) × (number_of_value (first_value (values_of option before)) ≡ number)

abbrev AreRenames : List Part → List Rename → ℕ → Type 0
AreRenames before renames bytes = (renames_of (values_of RenameFunction before) ≡ renames) × (bytes_together (values_of RenameFunction before) ≡ bytes)

operand_kept : (before : List Part) (part : Part) (operand : Option (List ℕ)) → operand_in (part ∷ []) ≡ None → operand_in before ≡ operand
    → operand_in (before ++ part ∷ []) ≡ operand
operand_kept before part operand e h = operand_joined before (part ∷ []) e ∙ h

flag_kept : (flag : Flag) (before : List Part) (part : Part) (b : Bool) → has_flag flag (part ∷ []) ≡ false → has_flag flag before ≡ b → has_flag flag (before ++ part ∷ []) ≡ b
flag_kept flag before part b e h =
    flag_joined flag before (part ∷ []) ∙ ap (λ (t : Bool). has_flag flag before || t) e ∙ or_false (has_flag flag before) ∙ h

flag_added : (flag : Flag) (before : List Part) (part : Part) → has_flag flag (part ∷ []) ≡ true → has_flag flag (before ++ part ∷ []) ≡ true
flag_added flag before part e = flag_joined flag before (part ∷ []) ∙ ap (λ (t : Bool). has_flag flag before || t) e ∙ or_true (has_flag flag before)

option_kept : (option : Valued) (before : List Part) (part : Part) → has_option option (part ∷ []) ≡ false → has_option option (before ++ part ∷ []) ≡ has_option option before
option_kept option before part e = option_joined option before (part ∷ []) ∙ ap (λ (t : Bool). has_option option before || t) e ∙ or_false (has_option option before)

option_added : (option : Valued) (before : List Part) (part : Part) → has_option option (part ∷ []) ≡ true → has_option option (before ++ part ∷ []) ≡ true
option_added option before part e = option_joined option before (part ∷ []) ∙ ap (λ (t : Bool). has_option option before || t) e ∙ or_true (has_option option before)

values_kept : (option : Valued) (before : List Part) (part : Part) → values_of option (part ∷ []) ≡ [] → values_of option (before ++ part ∷ []) ≡ values_of option before
values_kept option before part e =
    values_joined option before (part ∷ []) ∙ ap (λ (vs : List (List ℕ)). values_of option before ++ vs) e ∙ append-nil (values_of option before)

first_added : (option : Valued) (before : List Part) (part : Part) (value : List ℕ) → values_of option (part ∷ []) ≡ value ∷ [] → has_option option before ≡ false
    → first_value (values_of option (before ++ part ∷ [])) ≡ Some value
first_added option before part value e none =
    ap first_value (values_joined option before (part ∷ []) ∙ ap (λ (vs : List (List ℕ)). vs ++ values_of option (part ∷ [])) (no_values option before none) ∙ e)

text_kept : (option : Valued) (before : List Part) (part : Part) (text : Option (List ℕ)) → has_option option (part ∷ []) ≡ false → values_of option (part ∷ []) ≡ []
    → IsText option before text → IsText option (before ++ part ∷ []) text
text_kept option before part text e f h = (option_kept option before part e ∙ h.0, ap first_value (values_kept option before part f) ∙ h.1)

number_kept : (option : Valued) (before : List Part) (part : Part) (number : Option ℕ) → has_option option (part ∷ []) ≡ false → values_of option (part ∷ []) ≡ []
    → IsNumber option before number → IsNumber option (before ++ part ∷ []) number
number_kept option before part number e f h =
    (option_kept option before part e ∙ h.0, ap (λ (vs : List (List ℕ)). number_of_value (first_value vs)) (values_kept option before part f) ∙ h.1)

renames_kept : (before : List Part) (part : Part) (renames : List Rename) (bytes : ℕ) → values_of RenameFunction (part ∷ []) ≡ []
    → AreRenames before renames bytes → AreRenames (before ++ part ∷ []) renames bytes
renames_kept before part renames bytes f h = (ap renames_of (values_kept RenameFunction before part f) ∙ h.0, ap bytes_together (values_kept RenameFunction before part f) ∙ h.1)

text_added : (option : Valued) (before : List Part) (part : Part) (value : List ℕ) → has_option option (part ∷ []) ≡ true → values_of option (part ∷ []) ≡ value ∷ []
    → has_option option before ≡ false → IsText option (before ++ part ∷ []) (Some value)
text_added option before part value e f none = (option_added option before part e, first_added option before part value f none)

number_added : (option : Valued) (before : List Part) (part : Part) (value : List ℕ) → has_option option (part ∷ []) ≡ true → values_of option (part ∷ []) ≡ value ∷ []
    → has_option option before ≡ false → is_some (decimal value) ≡ true → IsNumber option (before ++ part ∷ []) (decimal value)
number_added option before part value e f none some =
    (option_added option before part e ∙ sym some, ap number_of_value (first_added option before part value f none))

renames_added : (before : List Part) (part : Part) (value : List ℕ) (renames : List Rename) (bytes : ℕ) → values_of RenameFunction (part ∷ []) ≡ value ∷ []
    → AreRenames before renames bytes → AreRenames (before ++ part ∷ []) (renames ++ with_halves (halves_of value) []) (bytes + length value)
renames_added before part value renames bytes f h =
    let values = values_joined RenameFunction before (part ∷ []) ∙ ap (λ (vs : List (List ℕ)). values_of RenameFunction before ++ vs) f in (
      ap renames_of values ∙ renames_joined (values_of RenameFunction before) (value ∷ []) ∙ ap (λ (rs : List Rename). rs ++ with_halves (halves_of value) []) h.0,
      ap bytes_together values ∙ bytes_added (values_of RenameFunction before) value ∙ ap (λ (n : ℕ). n + length value) h.1,
    )

-- ---- the draft says what the parts before it say

pub record Shows (before : List Part) (d : Draft) : Type 0 where
  pub operand : operand_in before ≡ d.operand
  pub keep_init : has_flag KeepInit before ≡ d.keep_init
  pub reactor : has_flag Reactor before ≡ d.reactor
  pub report : has_flag Report before ≡ d.report
  pub output : IsText Output before d.output
  pub function : IsText Function before d.function
  pub fuel : IsNumber Fuel before d.fuel
  pub sample : IsNumber SampleNumber before d.sample
  pub renames : AreRenames before d.renames d.bytes

shows_none : Shows [] empty_draft
shows_none = record {
  operand = refl;
  keep_init = refl;
  reactor = refl;
  report = refl;
  output = (refl, refl);
  function = (refl, refl);
  fuel = (refl, refl);
  sample = (refl, refl);
  renames = (refl, refl);
}

asked_same : (before : List Part) (d : Draft) → Shows before d → asked before ≡ draft_asks d
asked_same before d h =
    rw (h.operand, h.keep_init, h.reactor, h.report, h.output.1, h.function.1, h.fuel.1, h.sample.1, h.renames.0) refl

-- ---- the same fault

rename_fault_same : (values : List (List ℕ)) (d : Draft) (at : ℕ) (value : List ℕ) (halves : Option Halves) → renames_of values ≡ d.renames → bytes_together values ≡ d.bytes
    → rename_fault values at value halves ≡ rename_fault_in d.renames d.bytes at value halves
rename_fault_same values d at value None e f = refl
rename_fault_same values d at value (Some halves) e f = rw (e, f) refl

fault_same : (before : List Part) (d : Draft) (part : Part) → Shows before d → fault_of before part ≡ fault_in d part
fault_same before d (OperandPart at word) h = rw (h.operand, h.sample.0) refl
fault_same before d (FlagPart at KeepInit) h = rw h.keep_init refl
fault_same before d (FlagPart at Reactor) h = rw h.reactor refl
fault_same before d (FlagPart at Report) h = rw h.report refl
fault_same before d (ValuedPart at Output None) h = rw h.output.0 refl
fault_same before d (ValuedPart at Output (Some value)) h = rw h.output.0 refl
fault_same before d (ValuedPart at Function None) h = rw h.function.0 refl
fault_same before d (ValuedPart at Function (Some value)) h = rw h.function.0 refl
fault_same before d (ValuedPart at RenameFunction None) h = refl
fault_same before d (ValuedPart at RenameFunction (Some value)) h =
    rename_fault_same (values_of RenameFunction before) d value.0 value.1 (halves_of value.1) h.renames.0 h.renames.1
fault_same before d (ValuedPart at Fuel None) h = rw h.fuel.0 refl
fault_same before d (ValuedPart at Fuel (Some value)) h = rw h.fuel.0 refl
fault_same before d (ValuedPart at SampleNumber None) h = rw (h.sample.0, h.operand) refl
fault_same before d (ValuedPart at SampleNumber (Some value)) h = rw (h.sample.0, h.operand) refl
fault_same before d (UnknownPart at) h = refl

-- ---- one part more

test_false : (b : Bool) (e : Usage) (later : Option Usage) → cond b (Some e) later ≡ None → b ≡ false
test_false true e later h = absurd cc
test_false false e later h = refl

test_later : (b : Bool) (e : Usage) (later : Option Usage) → cond b (Some e) later ≡ None → later ≡ None
test_later true e later h = absurd cc
test_later false e later h = h

none_there : {X : Type 0} (o : Option X) → is_some o ≡ false → o ≡ None
none_there None e = refl
none_there (Some x) e = absurd cc

number_there : (at limit : ℕ) (number : Option ℕ) → number_fault at limit number ≡ None → is_some number ≡ true
number_there at limit None e = absurd cc
number_there at limit (Some n) e = refl

not_repeated : (before : List Part) (at : ℕ) (option : Valued) (value : Option (ℕ × List ℕ)) → fault_of before (ValuedPart at option value) ≡ None → is_repeated before option ≡ false
not_repeated before at option value none =
    let later = cond (is_sample_beside before option) (Some (ExtraWord at)) (value_part_fault before at option value) in
    test_false (is_repeated before option) (RepeatedOption at) later none

value_fault_none : (before : List Part) (at : ℕ) (option : Valued) (value : Option (ℕ × List ℕ)) → fault_of before (ValuedPart at option value) ≡ None
    → value_part_fault before at option value ≡ None
value_fault_none before at option value none =
    let later = cond (is_sample_beside before option) (Some (ExtraWord at)) (value_part_fault before at option value) in
    test_later (is_sample_beside before option) (ExtraWord at) (value_part_fault before at option value) (test_later (is_repeated before option) (RepeatedOption at) later none)

no_operand : (before : List Part) (at : ℕ) (word : List ℕ) → fault_of before (OperandPart at word) ≡ None → operand_in before ≡ None
no_operand before at word none =
    none_there (operand_in before) (or_left (is_some (operand_in before)) (has_option SampleNumber before) (test_false (is_extra before) (ExtraWord at) None none))

never : {X : Type 0} (at : ℕ) → (let fault : Option Usage = Some (MissingValue at) in fault ≡ None) → X
never at e = absurd cc

shows_more : (before : List Part) (d : Draft) (part : Part) → Shows before d → fault_of before part ≡ None → Shows (before ++ part ∷ []) (with_part d part)
shows_more before d (OperandPart at word) h none =
    let part = OperandPart at word in
    record {
      operand = operand_added before at word (no_operand before at word none);
      keep_init = flag_kept KeepInit before part d.keep_init refl h.keep_init;
      reactor = flag_kept Reactor before part d.reactor refl h.reactor;
      report = flag_kept Report before part d.report refl h.report;
      output = text_kept Output before part d.output refl refl h.output;
      function = text_kept Function before part d.function refl refl h.function;
      fuel = number_kept Fuel before part d.fuel refl refl h.fuel;
      sample = number_kept SampleNumber before part d.sample refl refl h.sample;
      renames = renames_kept before part d.renames d.bytes refl h.renames;
    }
shows_more before d (FlagPart at KeepInit) h none =
    let part = FlagPart at KeepInit in
    record {
      operand = operand_kept before part d.operand refl h.operand;
      keep_init = flag_added KeepInit before part refl;
      reactor = flag_kept Reactor before part d.reactor refl h.reactor;
      report = flag_kept Report before part d.report refl h.report;
      output = text_kept Output before part d.output refl refl h.output;
      function = text_kept Function before part d.function refl refl h.function;
      fuel = number_kept Fuel before part d.fuel refl refl h.fuel;
      sample = number_kept SampleNumber before part d.sample refl refl h.sample;
      renames = renames_kept before part d.renames d.bytes refl h.renames;
    }
shows_more before d (FlagPart at Reactor) h none =
    let part = FlagPart at Reactor in
    record {
      operand = operand_kept before part d.operand refl h.operand;
      keep_init = flag_kept KeepInit before part d.keep_init refl h.keep_init;
      reactor = flag_added Reactor before part refl;
      report = flag_kept Report before part d.report refl h.report;
      output = text_kept Output before part d.output refl refl h.output;
      function = text_kept Function before part d.function refl refl h.function;
      fuel = number_kept Fuel before part d.fuel refl refl h.fuel;
      sample = number_kept SampleNumber before part d.sample refl refl h.sample;
      renames = renames_kept before part d.renames d.bytes refl h.renames;
    }
shows_more before d (FlagPart at Report) h none =
    let part = FlagPart at Report in
    record {
      operand = operand_kept before part d.operand refl h.operand;
      keep_init = flag_kept KeepInit before part d.keep_init refl h.keep_init;
      reactor = flag_kept Reactor before part d.reactor refl h.reactor;
      report = flag_added Report before part refl;
      output = text_kept Output before part d.output refl refl h.output;
      function = text_kept Function before part d.function refl refl h.function;
      fuel = number_kept Fuel before part d.fuel refl refl h.fuel;
      sample = number_kept SampleNumber before part d.sample refl refl h.sample;
      renames = renames_kept before part d.renames d.bytes refl h.renames;
    }
shows_more before d (ValuedPart at Output None) h none = never at (value_fault_none before at Output None none)
shows_more before d (ValuedPart at Output (Some value)) h none =
    let part = ValuedPart at Output (Some value) in
    record {
      operand = operand_kept before part d.operand refl h.operand;
      keep_init = flag_kept KeepInit before part d.keep_init refl h.keep_init;
      reactor = flag_kept Reactor before part d.reactor refl h.reactor;
      report = flag_kept Report before part d.report refl h.report;
      output = text_added Output before part value.1 refl refl (not_repeated before at Output (Some value) none);
      function = text_kept Function before part d.function refl refl h.function;
      fuel = number_kept Fuel before part d.fuel refl refl h.fuel;
      sample = number_kept SampleNumber before part d.sample refl refl h.sample;
      renames = renames_kept before part d.renames d.bytes refl h.renames;
    }
shows_more before d (ValuedPart at Function None) h none = never at (value_fault_none before at Function None none)
shows_more before d (ValuedPart at Function (Some value)) h none =
    let part = ValuedPart at Function (Some value) in
    record {
      operand = operand_kept before part d.operand refl h.operand;
      keep_init = flag_kept KeepInit before part d.keep_init refl h.keep_init;
      reactor = flag_kept Reactor before part d.reactor refl h.reactor;
      report = flag_kept Report before part d.report refl h.report;
      output = text_kept Output before part d.output refl refl h.output;
      function = text_added Function before part value.1 refl refl (not_repeated before at Function (Some value) none);
      fuel = number_kept Fuel before part d.fuel refl refl h.fuel;
      sample = number_kept SampleNumber before part d.sample refl refl h.sample;
      renames = renames_kept before part d.renames d.bytes refl h.renames;
    }
shows_more before d (ValuedPart at RenameFunction None) h none = never at (value_fault_none before at RenameFunction None none)
shows_more before d (ValuedPart at RenameFunction (Some value)) h none =
    let part = ValuedPart at RenameFunction (Some value) in
    record {
      operand = operand_kept before part d.operand refl h.operand;
      keep_init = flag_kept KeepInit before part d.keep_init refl h.keep_init;
      reactor = flag_kept Reactor before part d.reactor refl h.reactor;
      report = flag_kept Report before part d.report refl h.report;
      output = text_kept Output before part d.output refl refl h.output;
      function = text_kept Function before part d.function refl refl h.function;
      fuel = number_kept Fuel before part d.fuel refl refl h.fuel;
      sample = number_kept SampleNumber before part d.sample refl refl h.sample;
      renames = renames_added before part value.1 d.renames d.bytes refl h.renames;
    }
shows_more before d (ValuedPart at Fuel None) h none = never at (value_fault_none before at Fuel None none)
shows_more before d (ValuedPart at Fuel (Some value)) h none =
    let part = ValuedPart at Fuel (Some value) in
    record {
      operand = operand_kept before part d.operand refl h.operand;
      keep_init = flag_kept KeepInit before part d.keep_init refl h.keep_init;
      reactor = flag_kept Reactor before part d.reactor refl h.reactor;
      report = flag_kept Report before part d.report refl h.report;
      output = text_kept Output before part d.output refl refl h.output;
      function = text_kept Function before part d.function refl refl h.function;
      fuel = number_added Fuel before part value.1 refl refl (not_repeated before at Fuel (Some value) none) (number_there value.0 fuel_limit (decimal value.1) (value_fault_none before at Fuel (Some value) none));
      sample = number_kept SampleNumber before part d.sample refl refl h.sample;
      renames = renames_kept before part d.renames d.bytes refl h.renames;
    }
shows_more before d (ValuedPart at SampleNumber None) h none = never at (value_fault_none before at SampleNumber None none)
shows_more before d (ValuedPart at SampleNumber (Some value)) h none =
    let part = ValuedPart at SampleNumber (Some value) in
    record {
      operand = operand_kept before part d.operand refl h.operand;
      keep_init = flag_kept KeepInit before part d.keep_init refl h.keep_init;
      reactor = flag_kept Reactor before part d.reactor refl h.reactor;
      report = flag_kept Report before part d.report refl h.report;
      output = text_kept Output before part d.output refl refl h.output;
      function = text_kept Function before part d.function refl refl h.function;
      fuel = number_kept Fuel before part d.fuel refl refl h.fuel;
      sample = number_added SampleNumber before part value.1 refl refl (not_repeated before at SampleNumber (Some value) none) (number_there value.0 sample_limit (decimal value.1) (value_fault_none before at SampleNumber (Some value) none));
      renames = renames_kept before part d.renames d.bytes refl h.renames;
    }
shows_more before d (UnknownPart at) h none = absurd cc

-- ---- all parts

unless_same : (fault : Option Usage) (later : Option Usage) (settled : Settings) (rest : Result Settings Usage)
    → (fault ≡ None → unless_fault later settled ≡ rest) → unless_fault (or_later fault later) settled ≡ fault_or fault rest
unless_same None later settled rest f = f refl
unless_same (Some e) later settled rest f = refl

outcome_same : (before : List Part) (d : Draft) (parts : List Part) → Shows before d
    → unless_fault (first_fault before parts) (asked (before ++ parts)) ≡ outcome_from d parts
outcome_same before d [] h = ap (λ (s : Settings). Ok s) (ap asked (append-nil before) ∙ asked_same before d h)
outcome_same before d (part ∷ parts) h =
    let same = fault_same before d part h in
    unless_same (fault_of before part) (first_fault (before ++ part ∷ []) parts) (asked (before ++ part ∷ parts)) (outcome_from (with_part d part) parts)
    (λ none.
    ap (λ (all : List Part). unless_fault (first_fault (before ++ part ∷ []) parts) (asked all)) (sym (append_assoc before (part ∷ []) parts))
    ∙ outcome_same (before ++ part ∷ []) (with_part d part) parts (shows_more before d part h none))
    ∙ ap (λ (fault : Option Usage). fault_or fault (outcome_from (with_part d part) parts)) same

-- the draft's outcome is what the words ask for
pub settings_by_draft : (words : List (List ℕ)) → settings words ≡ outcome_from empty_draft (command_parts words)
unfolding settings
settings_by_draft words = outcome_same [] empty_draft (command_parts words) shows_none
