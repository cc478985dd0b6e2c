-- Steps and choices of a reading, and what its exactness gives for any form.
use Rattle.std.proofs.Common.{◌≡◌, ℕ, ◌≤◌, List, [], ◌++◌, Option, Some, None, Bool, true, false, cond, refl, sym, ap, ◌∙◌, subst, length, take, drop, ◌-◌, ◌+◌, ◌<◌, arith, ◌⊎◌, inl, inr}
use Rattle.std.specs.Prelude.{slice_range}
use Rattle.std.proofs.lemmas.List.{append-nil, length-append, length-drop, drop-drop, take_at, drop_at, append_cancel_right}
use Rattle.wz_bytes.specs.Reading.{◌>>=◌, Form, Reading, Front, NoFront, IsExact, OneFront}
use Rattle.wz_bytes.specs.Place.{Place}

-- the value of a step that gave one
pub bind_some : {A B : Type 0} (r : Option A) (f : A → Option B) (y : B) → (r >>= f) ≡ Some y → (x : A) × (r ≡ Some x) × (f x ≡ Some y)
bind_some (Some x) f y e = (x, refl, e)
bind_some None f y e = absurd cc

-- which way a test went
pub chosen : {A : Type 0} (b : Bool) (x y z : Option A) → cond b x y ≡ z → ((b ≡ true) × (x ≡ z)) ⊎ ((b ≡ false) × (y ≡ z))
chosen true x y z e = inl (refl, e)
chosen false x y z e = inr (refl, e)

-- a test that went well
pub guarded : {A : Type 0} (b : Bool) (x : Option A) (z : A) → cond b x None ≡ Some z → (b ≡ true) × (x ≡ Some z)
guarded true x z e = (refl, e)
guarded false x z e = absurd cc

abbrev given : {A : Type 0} → A → Option A
given x = Some x

pub some_is : {A : Type 0} (x y : A) → given x ≡ given y → x ≡ y
some_is x y e = cc

not_none : {A : Type 0} (x : A) (o : Option A) → o ≡ Some x → o ≡ None → ⊥
not_none x o e f = absurd cc

-- where nothing is read, nothing stands
pub none_stands : {X : Type 0} (Spells : Form X) (read : Reading X) → IsExact Spells read
    → (bytes : List ℕ) → read bytes ≡ None → NoFront Spells bytes
none_stands Spells read exact bytes none text rest x h e = not_none (x, rest) (read bytes) (ap read e ∙ exact.again text x rest h) none

pub none_given : {A : Type 0} (x : A) (o : Option A) → o ≡ None → o ≡ Some x → ⊥
none_given x o e f = absurd cc

-- at most one value stands in front of bytes, for any form that has an exact reading
pub one_front : {X : Type 0} (Spells : Form X) (read : Reading X) → IsExact Spells read → OneFront Spells
one_front Spells read exact a b r s x y p q e =
    let same : given (x, r) ≡ given (y, s) = sym (exact.again a x r p) ∙ ap read e ∙ exact.again b y s q in
    let pair : (x, r) ≡ (y, s) = some_is (x, r) (y, s) same in
    let behind : r ≡ s = ap (λ p. p.1) pair in
    (ap (λ p. p.0) pair, append_cancel_right a b s (ap (λ (t : List ℕ). a ++ t) (sym behind) ∙ e), behind)

-- what was read at a place, and where the reading ends
pub record ReadAt {X : Type 0} (Spells : Form X) (bytes : List ℕ) (at end : ℕ) (x : X) (rest : List ℕ) : Type 0 where
  pub spelled : Spells (slice_range bytes at end) x
  pub behind : drop end bytes ≡ rest

read_parts : {X : Type 0} (Spells : Form X) (bytes : List ℕ) (at : ℕ) (x : X) (rest text : List ℕ) → length rest < length bytes - at → drop at bytes ≡ text ++ rest → Spells text x
    → ReadAt Spells bytes at (length bytes - length rest) x rest
read_parts Spells bytes at x rest text inside parts spelled =
    let sum : length bytes - at ≡ length text + length rest = sym (length-drop at bytes) ∙ ap length parts ∙ length-append text rest in
    let end : length bytes - length rest ≡ at + length text = omega (arith, sum) in
    let size : length bytes - length rest - at ≡ length text = omega (arith, sum) in
    record {
      spelled = subst (λ (t : List ℕ). Spells t x) (sym (ap (λ (t : List ℕ). take (length bytes - length rest - at) t) parts ∙ take_at text rest _ (sym size))) spelled;
      behind = ap (λ (k : ℕ). drop k bytes) end ∙ sym (drop-drop (length text) at bytes) ∙ ap (λ (t : List ℕ). drop (length text) t) parts ∙ drop_at text rest (length text) refl;
    }

pub read_at : {X : Type 0} (Spells : Form X) (read : Reading X) → IsExact Spells read
    → (bytes : List ℕ) (at : ℕ) (piece : List ℕ) (x : X) (rest : List ℕ) → piece ≡ drop at bytes → length rest < length piece → Some (x, rest) ≡ read piece
    → ReadAt Spells bytes at (length bytes - length rest) x rest
read_at Spells read exact bytes at piece x rest is shorter e =
    let front = exact.found piece x rest (sym e) in
    let size : length piece ≡ length bytes - at = ap length is ∙ length-drop at bytes in
    read_parts Spells bytes at x rest front.text (omega (arith, size)) (sym is ∙ front.parts) front.spelled

pub none_at : {X : Type 0} (Spells : Form X) (read : Reading X) → IsExact Spells read
    → (bytes : List ℕ) (at : ℕ) (piece : List ℕ) → piece ≡ drop at bytes → None ≡ read piece → NoFront Spells (drop at bytes)
none_at Spells read exact bytes at piece is e = none_stands Spells read exact (drop at bytes) (ap read (sym is) ∙ sym e)

-- ---- choices and whole texts, for readings of any form

-- what is read there is spelled there
abbrev pub Finds : {X : Type 0} → Form X → List ℕ → Option (X × List ℕ) → Type 0
Finds {X = X} Spells bytes read = (x : X) (rest : List ℕ) → read ≡ Some (x, rest) → Front Spells bytes x rest

-- one case more in front of the others
pub found_or : {X : Type 0} (Spells : Form X) (bytes : List ℕ) (test : Bool) (this others : Option (X × List ℕ))
    → (test ≡ true → Finds Spells bytes this) → (test ≡ false → Finds Spells bytes others) → Finds Spells bytes (cond test this others)
found_or Spells bytes test this others one more x rest e = elim (chosen test this others _ e) [ inl y ↦ one y.0 x rest y.1 | inr n ↦ more n.0 x rest n.1 ]

pub found_none : {X : Type 0} (Spells : Form X) (bytes : List ℕ) → Finds Spells bytes None
found_none Spells bytes x rest e = absurd cc

-- what was read of all the bytes is spelled by them
pub whole_found : {X : Type 0} (Spells : Form X) (read : Reading X) → IsExact Spells read
    → (bytes rest : List ℕ) (x : X) → read bytes ≡ Some (x, rest) → rest ≡ [] → Spells bytes x
whole_found Spells read exact bytes rest x e none =
    let f = exact.found bytes x rest e in
    let whole : f.text ≡ bytes = sym (f.parts ∙ ap (λ (t : List ℕ). f.text ++ t) none ∙ append-nil f.text) in
    subst (λ (t : List ℕ). Spells t x) whole f.spelled

-- where nothing is read, all the bytes spell nothing
pub whole_none : {X : Type 0} (Spells : Form X) (read : Reading X) → IsExact Spells read
    → (bytes : List ℕ) → read bytes ≡ None → (x : X) → Spells bytes x → ⊥
whole_none Spells read exact bytes none x h = none_stands Spells read exact bytes none bytes [] x h (sym (append-nil bytes))

-- bytes that have a value and a rest are no spelling as a whole
pub whole_rest : {X : Type 0} (Spells : Form X) (read : Reading X) → IsExact Spells read
    → (bytes rest : List ℕ) (x : X) → read bytes ≡ Some (x, rest) → (rest ≡ [] → ⊥) → (y : X) → Spells bytes y → ⊥
whole_rest Spells read exact bytes rest x e some y h =
    let again : read bytes ≡ Some (y, []) = ap read (sym (append-nil bytes)) ∙ exact.again bytes y [] h in
    some (ap (λ p. p.1) (some_is _ _ (sym e ∙ again)))

-- what is behind a front is no longer than all of it
pub rest_no_longer : {X : Type 0} (Spells : Form X) (bytes : List ℕ) (x : X) (rest : List ℕ) → Front Spells bytes x rest → length rest ≤ length bytes
rest_no_longer Spells bytes x rest f = omega (arith, ap length f.parts, length-append f.text rest)

-- ---- a cursor, where `seen` is what it was before and `now` the same place

pub passed : {X : Type 0} (Spells : Form X) (read : Reading X) → IsExact Spells read → (seen now : Place) → seen ≡ now → (x : X) (rest : List ℕ) → Some (x, rest) ≡ read seen.left
    → Front Spells now.left x rest × (seen.total ≡ now.total)
passed Spells read exact seen now same x rest e =
    (subst (λ (p : Place). Front Spells p.left x rest) same (exact.found seen.left x rest (sym e)), ap (λ (p : Place). p.total) same)

pub not_passed : {X : Type 0} (Spells : Form X) (read : Reading X) → IsExact Spells read → (seen now : Place) → seen ≡ now → None ≡ read seen.left → NoFront Spells now.left
not_passed Spells read exact seen now same e = none_stands Spells read exact now.left (ap (λ (p : Place). read p.left) (sym same) ∙ sym e)
