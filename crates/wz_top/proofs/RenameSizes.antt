-- The renames that words ask for have few bytes together.
use Rattle.std.proofs.Common.{◌≡◌, ℕ, ◌+◌, ◌≤◌, List, [], ◌∷◌, ◌++◌, length, Bool, true, false, cond, Option, Some, None, Result, Ok, Err}
use Rattle.std.proofs.Common.{refl, sym, ap, subst, ◌∙◌, arith, append-nil, append_assoc}
use Rattle.std.specs.List.{sum_by}
use Rattle.std.specs.Prelude.{nat_lt, ◌==◌}
use Rattle.std.proofs.lemmas.Bool.{ltb-false}
use Rattle.std.proofs.lemmas.List.Sums.{sum_by-cons}
use Rattle.wz_words.specs.declared.settings.Rename.{Rename}
use Rattle.wz_words.specs.declared.settings.Usage.{Usage}
use Rattle.wz_words.specs.declared.settings.Usage.TheVariants.{RenamesTooLong}
use Rattle.wz_words.specs.Options.{Output, Function, RenameFunction, Fuel, SampleNumber, same_valued}
use Rattle.wz_words.specs.Parts.{Part, OperandPart, FlagPart, ValuedPart, UnknownPart, Halves, behind_byte, halves_of, command_parts}
use Rattle.wz_words.specs.Settings.{Settings, values_of, rename_of, with_halves, renames_of, asked}
use Rattle.wz_words.specs.Faults.{renames_limit, bytes_together, rename_fault, fault_of, or_later, first_fault, unless_fault, settings}

-- ---- new names, and the values that they are part of

abbrev pub new_size : Rename → ℕ
new_size rename = length rename.dst

abbrev front_size : Option Halves → ℕ
front_size None = 0
front_size (Some halves) = length halves.front

front_behind : (byte : ℕ) (o : Option Halves) → front_size (behind_byte byte o) ≤ 1 + front_size o
front_behind byte None = omega arith
front_behind byte (Some halves) = omega arith

front_short : (value : List ℕ) → front_size (halves_of value) ≤ length value
front_short [] = omega arith
front_short (byte ∷ bytes) = by (byte == 61) (front_behind byte (halves_of bytes)) (front_short bytes) where
  by : (b : Bool) → front_size (behind_byte byte (halves_of bytes)) ≤ 1 + front_size (halves_of bytes) → front_size (halves_of bytes) ≤ length bytes
      → front_size (cond b (Some (record { front = []; back = bytes })) (behind_byte byte (halves_of bytes))) ≤ length (byte ∷ bytes)
  by true one more = omega arith
  by false one more = omega (arith, one, more)

with_size : (o : Option Halves) (renames : List Rename) → sum_by new_size (with_halves o renames) ≤ front_size o + sum_by new_size renames
with_size None renames = omega arith
with_size (Some halves) renames = let step = sum_by-cons new_size (rename_of halves) renames in omega (arith, step)

renames_size : (values : List (List ℕ)) → sum_by new_size (renames_of values) ≤ bytes_together values
renames_size [] = omega arith
renames_size (value ∷ values) =
    let one = with_size (halves_of value) (renames_of values) in
    let short = front_short value in
    let more = renames_size values in
    omega (arith, one, short, more)

-- ---- values of joined lists of parts

bytes-joined : (values more : List (List ℕ)) → bytes_together (values ++ more) ≡ bytes_together values + bytes_together more
bytes-joined [] more = omega arith
bytes-joined (value ∷ values) more = let rest = bytes-joined values more in omega (arith, rest)

cond-joined : (b : Bool) (v : List ℕ) (xs ys zs : List (List ℕ)) → zs ≡ xs ++ ys → cond b (v ∷ zs) zs ≡ cond b (v ∷ xs) xs ++ ys
cond-joined true v xs ys zs e = ap (λ (vs : List (List ℕ)). v ∷ vs) e
cond-joined false v xs ys zs e = e

abbrev values_in : List Part → List (List ℕ)
values_in parts = values_of RenameFunction parts

values-joined : (parts more : List Part) → values_in (parts ++ more) ≡ values_in parts ++ values_in more
values-joined [] more = refl
values-joined (OperandPart at word ∷ parts) more = values-joined parts more
values-joined (FlagPart at flag ∷ parts) more = values-joined parts more
values-joined (ValuedPart at other None ∷ parts) more = values-joined parts more
values-joined (ValuedPart at other (Some value) ∷ parts) more =
    cond-joined (same_valued other RenameFunction) value.1 (values_in parts) (values_in more) (values_in (parts ++ more)) (values-joined parts more)
values-joined (UnknownPart at ∷ parts) more = values-joined parts more

-- ---- parts without a fault, one after the other

abbrev IsLimited : List (List ℕ) → Type 0
IsLimited values = bytes_together values ≤ renames_limit

unchanged : (before : List Part) (part : Part) → IsLimited (values_in before) → values_in (part ∷ []) ≡ [] → IsLimited (values_in (before ++ part ∷ []))
unchanged before part few none =
    subst IsLimited
    (sym (values-joined before (part ∷ []) ∙ ap (λ (vs : List (List ℕ)). values_in before ++ vs) none ∙ append-nil (values_in before))) few

not_long : (long : Bool) (at : ℕ) (rest : Option Usage) → cond long (Some (RenamesTooLong at)) rest ≡ None → long ≡ false
not_long true at rest e = absurd cc
not_long false at rest e = refl

added : (earlier : List (List ℕ)) (at : ℕ) (value : List ℕ) (o : Option Halves) → rename_fault earlier at value o ≡ None
    → bytes_together earlier + length value ≤ renames_limit
added earlier at value None fine = absurd cc
added earlier at value (Some halves) fine =
    ltb-false renames_limit (bytes_together earlier + length value) (not_long (nat_lt renames_limit (bytes_together earlier + length value)) at _ fine)

next_part : (before : List Part) (part : Part) → IsLimited (values_in before) → fault_of before part ≡ None → IsLimited (values_in (before ++ part ∷ []))
next_part before (OperandPart at word) few fine = unchanged before (OperandPart at word) few refl
next_part before (FlagPart at flag) few fine = unchanged before (FlagPart at flag) few refl
next_part before (UnknownPart at) few fine = unchanged before (UnknownPart at) few refl
next_part before (ValuedPart at option None) few fine = unchanged before (ValuedPart at option None) few refl
next_part before (ValuedPart at Output (Some value)) few fine = unchanged before (ValuedPart at Output (Some value)) few refl
next_part before (ValuedPart at Function (Some value)) few fine = unchanged before (ValuedPart at Function (Some value)) few refl
next_part before (ValuedPart at Fuel (Some value)) few fine = unchanged before (ValuedPart at Fuel (Some value)) few refl
next_part before (ValuedPart at SampleNumber (Some value)) few fine = unchanged before (ValuedPart at SampleNumber (Some value)) few refl
next_part before (ValuedPart at RenameFunction (Some value)) few fine =
    let most = added (values_in before) value.0 value.1 (halves_of value.1) fine in
    let split = bytes-joined (values_in before) (value.1 ∷ []) in
    subst IsLimited (sym (values-joined before (ValuedPart at RenameFunction (Some value) ∷ []))) (omega (arith, most, split))

or-none : (o later : Option Usage) → or_later o later ≡ None → (o ≡ None) × (later ≡ None)
or-none None later e = (refl, e)
or-none (Some fault) later e = absurd cc

all_parts : (before parts : List Part) → IsLimited (values_in before) → first_fault before parts ≡ None → IsLimited (values_in (before ++ parts))
all_parts before [] few fine = subst (λ (ps : List Part). IsLimited (values_in ps)) (sym (append-nil before)) few
all_parts before (part ∷ parts) few fine =
    let both = or-none (fault_of before part) (first_fault (before ++ part ∷ []) parts) fine in
    subst (λ (ps : List Part). IsLimited (values_in ps)) (append_assoc before (part ∷ []) parts)
    (all_parts (before ++ part ∷ []) parts (next_part before part few both.0) both.1)

abbrev given_by : Result Settings Usage → Settings → Settings
given_by (Ok s) other = s
given_by (Err fault) other = other

without_fault : (o : Option Usage) (a s : Settings) → unless_fault o a ≡ Ok s → (o ≡ None) × (a ≡ s)
without_fault None a s e = (refl, ap (λ (r : Result Settings Usage). given_by r a) e)
without_fault (Some fault) a s e = absurd cc

pub renames_short : (words : List (List ℕ)) (s : Settings) → settings words ≡ Ok s → sum_by new_size s.renames ≤ renames_limit
unfolding settings
renames_short words s e =
    let parts = command_parts words in
    let fine = without_fault (first_fault [] parts) (asked parts) s e in
    let few = all_parts [] parts (omega arith) fine.0 in
    let all = renames_size (values_in parts) in
    subst (λ (a : Settings). sum_by new_size a.renames ≤ renames_limit) fine.1 (omega (arith, few, all))
