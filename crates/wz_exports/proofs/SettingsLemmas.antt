-- The renames that words ask for differ, since a second one of the same name is a fault.
use Rattle.std.proofs.Common.{◌≡◌, ◌≢◌, ℕ, zero, suc, ◌<◌, List, [], ◌∷◌, ◌++◌, length, get_or, Bool, true, false, cond, Option, Some, None, Result, Ok, Err, ◌+◌}
use Rattle.std.proofs.Common.{refl, sym, ap, subst, ◌∙◌, arith, append-nil, append_assoc}
use Rattle.std.specs.List.{AllPairs, list_any}
use Rattle.std.specs.Prelude.{◌||◌, nat_lt}
use Rattle.wz_words.specs.declared.settings.Usage.TheVariants.{RenamesTooLong, RenameTwiceTo, RenameTwiceFrom}
use Rattle.std.proofs.lemmas.List.Quantifiers.{all_pairs_push}
use Rattle.std.proofs.lemmas.Slice.Eq.{bytes_eq-Decides}
use Rattle.wz_words.specs.declared.settings.Rename.{Rename}
use Rattle.wz_words.specs.declared.settings.Usage.{Usage}
use Rattle.wz_words.specs.Options.{Valued, Output, Function, RenameFunction, Fuel, SampleNumber, same_valued, same_text}
use Rattle.wz_words.specs.Parts.{Part, OperandPart, FlagPart, ValuedPart, UnknownPart, Halves, halves_of, command_parts}
use Rattle.wz_words.specs.Settings.{Settings, values_of, with_halves, renames_of, asked}
use Rattle.wz_words.specs.Faults.{renames_limit, bytes_together, renames_to, renames_from, rename_fault, fault_of, or_later, first_fault, unless_fault, settings}
use Rattle.wz_words.proofs.RenamesLaws.{same_is_pointwise}

-- ---- lists of renames

pub record AreApart (renames : List Rename) : Type 0 where
  pub to : AllPairs (λ x y. x.dst ≢ y.dst) renames
  pub from : AllPairs (λ x y. x.src ≢ y.src) renames

none_apart : AreApart []
none_apart = record { to = λ i j d below less. absurd (omega (arith, less)); from = λ i j d below less. absurd (omega (arith, less)) }

same_names : (a b : List ℕ) → a ≡ b → same_text a b ≡ true
same_names a b e = same_is_pointwise a b ∙ (bytes_eq-Decides a b).1 e

or_first : (a b : Bool) → (a || b) ≡ false → a ≡ false
or_first true b h = h
or_first false b h = refl

or_second : (a b : Bool) → (a || b) ≡ false → b ≡ false
or_second true b h = absurd cc
or_second false b h = h

-- none of the names is this one
other_names : (name_of : Rename → List ℕ) (name : List ℕ) (renames : List Rename) → list_any (λ r. same_text (name_of r) name) renames ≡ false
    → (k : ℕ) (d : Rename) → k < length renames → name_of (get_or renames k d) ≢ name
other_names name_of name [] none k d less same = absurd (omega (arith, less))
other_names name_of name (r ∷ renames) none zero d less same =
    let e : true ≡ false = sym (same_names (name_of r) name same) ∙ or_first (same_text (name_of r) name) (list_any (λ r. same_text (name_of r) name) renames) none in absurd cc
other_names name_of name (r ∷ renames) none (suc k) d less same =
    other_names name_of name renames (or_second (same_text (name_of r) name) (list_any (λ r. same_text (name_of r) name) renames) none) k d (omega (arith, less)) same

one_more : (renames : List Rename) (rename : Rename) → AreApart renames → renames_to rename.dst renames ≡ false → renames_from rename.src renames ≡ false
    → AreApart (renames ++ rename ∷ [])
one_more renames rename apart to from = record {
  to = all_pairs_push (λ (x y : Rename). x.dst ≢ y.dst) renames rename apart.to (other_names (λ r. r.dst) rename.dst renames to);
  from = all_pairs_push (λ (x y : Rename). x.src ≢ y.src) renames rename apart.from (other_names (λ r. r.src) rename.src renames from);
}

-- ---- values and renames of joined lists

with-joined : (o : Option Halves) (xs ys : List Rename) → with_halves o (xs ++ ys) ≡ with_halves o xs ++ ys
with-joined None xs ys = refl
with-joined (Some h) xs ys = refl

renames-joined : (values more : List (List ℕ)) → renames_of (values ++ more) ≡ renames_of values ++ renames_of more
renames-joined [] more = refl
renames-joined (v ∷ values) more =
    ap (λ (rs : List Rename). with_halves (halves_of v) rs) (renames-joined values more) ∙ with-joined (halves_of v) (renames_of values) (renames_of more)

cond-joined : (b : Bool) (v : List ℕ) (xs ys zs : List (List ℕ)) → zs ≡ xs ++ ys → cond b (v ∷ zs) zs ≡ cond b (v ∷ xs) xs ++ ys
cond-joined true v xs ys zs e = ap (λ (vs : List (List ℕ)). v ∷ vs) e
cond-joined false v xs ys zs e = e

values-joined : (option : Valued) (parts more : List Part) → values_of option (parts ++ more) ≡ values_of option parts ++ values_of option more
values-joined option [] more = refl
values-joined option (OperandPart at word ∷ parts) more = values-joined option parts more
values-joined option (FlagPart at flag ∷ parts) more = values-joined option parts more
values-joined option (ValuedPart at other None ∷ parts) more = values-joined option parts more
values-joined option (ValuedPart at other (Some value) ∷ parts) more =
    cond-joined (same_valued other option) value.1 (values_of option parts) (values_of option more) (values_of option (parts ++ more)) (values-joined option parts more)
values-joined option (UnknownPart at ∷ parts) more = values-joined option parts more

-- ---- parts, one after the other

abbrev asked_renames : List Part → List Rename
asked_renames parts = renames_of (values_of RenameFunction parts)

part-behind : (before : List Part) (part : Part) → asked_renames (before ++ part ∷ []) ≡ asked_renames before ++ asked_renames (part ∷ [])
part-behind before part =
    ap renames_of (values-joined RenameFunction before (part ∷ [])) ∙ renames-joined (values_of RenameFunction before) (values_of RenameFunction (part ∷ []))

-- a part that asks for no rename
no_rename : (before : List Part) (part : Part) → AreApart (asked_renames before) → asked_renames (part ∷ []) ≡ [] → AreApart (asked_renames (before ++ part ∷ []))
no_rename before part apart none =
    subst AreApart (sym (part-behind before part ∙ ap (λ (rs : List Rename). asked_renames before ++ rs) none ∙ append-nil (asked_renames before))) apart

-- a rename without a fault
new_rename : (earlier : List (List ℕ)) (at : ℕ) (value : List ℕ) (o : Option Halves) → AreApart (renames_of earlier) → rename_fault earlier at value o ≡ None
    → AreApart (renames_of earlier ++ with_halves o [])
new_rename earlier at value None apart fine = absurd cc
new_rename earlier at value (Some h) apart fine =
    by (nat_lt renames_limit (bytes_together earlier + length value)) (renames_to h.front (renames_of earlier)) (renames_from h.back (renames_of earlier)) refl refl fine where
      by : (l t f : Bool) → renames_to h.front (renames_of earlier) ≡ t → renames_from h.back (renames_of earlier) ≡ f
          → cond l (Some (RenamesTooLong at)) (cond t (Some (RenameTwiceTo at)) (cond f (Some (RenameTwiceFrom at)) None)) ≡ None
          → AreApart (renames_of earlier ++ with_halves (Some h) [])
      by true t f p q e = absurd cc
      by false true f p q e = absurd cc
      by false false true p q e = absurd cc
      by false false false p q e = one_more (renames_of earlier) (record { dst = h.front; src = h.back }) apart p q

next_part : (before : List Part) (part : Part) → AreApart (asked_renames before) → fault_of before part ≡ None → AreApart (asked_renames (before ++ part ∷ []))
next_part before (OperandPart at word) apart fine = no_rename before (OperandPart at word) apart refl
next_part before (FlagPart at flag) apart fine = no_rename before (FlagPart at flag) apart refl
next_part before (UnknownPart at) apart fine = no_rename before (UnknownPart at) apart refl
next_part before (ValuedPart at option None) apart fine = no_rename before (ValuedPart at option None) apart refl
next_part before (ValuedPart at Output (Some value)) apart fine = no_rename before (ValuedPart at Output (Some value)) apart refl
next_part before (ValuedPart at Function (Some value)) apart fine = no_rename before (ValuedPart at Function (Some value)) apart refl
next_part before (ValuedPart at Fuel (Some value)) apart fine = no_rename before (ValuedPart at Fuel (Some value)) apart refl
next_part before (ValuedPart at SampleNumber (Some value)) apart fine = no_rename before (ValuedPart at SampleNumber (Some value)) apart refl
next_part before (ValuedPart at RenameFunction (Some value)) apart fine =
    subst AreApart (sym (part-behind before (ValuedPart at RenameFunction (Some value))))
    (new_rename (values_of RenameFunction before) value.0 value.1 (halves_of value.1) apart fine)

or-none : (o later : Option Usage) → or_later o later ≡ None → (o ≡ None) × (later ≡ None)
or-none None later e = (refl, e)
or-none (Some fault) later e = absurd cc

all_parts : (before parts : List Part) → AreApart (asked_renames before) → first_fault before parts ≡ None → AreApart (asked_renames (before ++ parts))
all_parts before [] apart fine = subst (λ (ps : List Part). AreApart (asked_renames ps)) (sym (append-nil before)) apart
all_parts before (part ∷ parts) apart fine =
    let both = or-none (fault_of before part) (first_fault (before ++ part ∷ []) parts) fine in
    subst (λ (ps : List Part). AreApart (asked_renames ps)) (append_assoc before (part ∷ []) parts)
    (all_parts (before ++ part ∷ []) parts (next_part before part apart both.0) both.1)

abbrev given_by : Result Settings Usage → Settings → Settings
given_by (Ok s) other = s
given_by (Err fault) other = other

without_fault : (o : Option Usage) (a s : Settings) → unless_fault o a ≡ Ok s → (o ≡ None) × (a ≡ s)
without_fault None a s e = (refl, ap (λ (r : Result Settings Usage). given_by r a) e)
without_fault (Some fault) a s e = absurd cc

pub renames_apart : (words : List (List ℕ)) (s : Settings) → settings words ≡ Ok s → AreApart s.renames
unfolding settings
renames_apart words s e =
    let parts = command_parts words in
    let fine = without_fault (first_fault [] parts) (asked parts) s e in
    subst (λ (a : Settings). AreApart a.renames) fine.1 (all_parts [] parts none_apart fine.0)
