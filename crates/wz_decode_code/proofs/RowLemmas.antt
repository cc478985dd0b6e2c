-- Rows of a table of opcodes, for any form.
use Rattle.std.proofs.Common.{◌≡◌, ℕ, List, [], ◌∷◌, ◌++◌, Option, Some, cond, refl, ap, subst}
use Rattle.std.specs.Prelude.{nat_eq}
use Rattle.std.proofs.lemmas.Bool.{eqb-true}
use Rattle.wz_bytes.specs.Reading.{Front, IsExact}
use Rattle.wz_bytes.specs.Forms.{made_at}
use Rattle.wz_bytes.proofs.ReadingLemmas.{Finds, bind_some, some_is, found_or}

-- what is made of a form's value is spelled where the form is
pub made_finds : {X Y : Type 0} (S : List ℕ → X → Type 0) (p : List ℕ → Option (X × List ℕ)) → IsExact S p → (Spells : List ℕ → Y → Type 0) (f : X → Y)
    → ((text : List ℕ) (x : X) → S text x → Spells text (f x)) → (bytes : List ℕ) → Finds Spells bytes (made_at f p bytes)
made_finds {Y = Y} S p exact Spells f spelled bytes y rest e =
    let x = bind_some (p bytes) _ _ e in
    let a = exact.found bytes x.0.0 x.0.1 x.1 in
    subst (λ (w : Y × List ℕ). Front Spells bytes w.0 w.1) (some_is _ _ x.2) (record { text = a.text; parts = a.parts; spelled = spelled a.text x.0.0 a.spelled })

pub made_again : {X Y : Type 0} (S : List ℕ → X → Type 0) (p : List ℕ → Option (X × List ℕ)) → IsExact S p → (f : X → Y) (text rest : List ℕ) (x : X) → S text x
    → made_at f p (text ++ rest) ≡ Some (f x, rest)
made_again S p exact f text rest x h = rw (exact.again text x rest h) refl

-- an opcode in front
pub tag_finds : {Y : Type 0} (Spells : List ℕ → Y → Type 0) (b k : ℕ) (bytes : List ℕ) (read : Option (Y × List ℕ)) → b ≡ k → Finds (λ t y. Spells (k ∷ t) y) bytes read
    → Finds Spells (b ∷ bytes) read
tag_finds Spells b k bytes read is finds y rest e =
    let f = finds y rest e in
    record { text = k ∷ f.text; parts = rw is (ap (λ (t : List ℕ). k ∷ t) f.parts); spelled = f.spelled }

-- a value by itself, with nothing behind it
pub bare_finds : {Y : Type 0} (Spells : List ℕ → Y → Type 0) (y : Y) → Spells [] y → (bytes : List ℕ) → Finds Spells bytes (Some (y, bytes))
bare_finds {Y = Y} Spells y spelled bytes z rest e =
    subst (λ (w : Y × List ℕ). Front Spells bytes w.0 w.1) (some_is _ _ e) (record { text = []; parts = refl; spelled = spelled })

-- ---- one row in front of the others

pub row : {X Y : Type 0} (S : List ℕ → X → Type 0) (p : List ℕ → Option (X × List ℕ)) → IsExact S p
    → (Spells : List ℕ → Y → Type 0) (f : X → Y) (b k : ℕ) (bytes : List ℕ) (others : Option (Y × List ℕ))
    → ((text : List ℕ) (x : X) → S text x → Spells (k ∷ text) (f x)) → Finds Spells (b ∷ bytes) others → Finds Spells (b ∷ bytes) (cond (nat_eq b k) (made_at f p bytes) others)
row S p exact Spells f b k bytes others spelled more =
    found_or Spells (b ∷ bytes) (nat_eq b k) (made_at f p bytes) others
    (λ is. tag_finds Spells b k bytes (made_at f p bytes) (eqb-true b k is) (made_finds S p exact (λ t y. Spells (k ∷ t) y) f spelled bytes)) (λ _. more)

pub bare_row : {Y : Type 0} (Spells : List ℕ → Y → Type 0) (y : Y) (b k : ℕ) (bytes : List ℕ) (others : Option (Y × List ℕ))
    → Spells (k ∷ []) y → Finds Spells (b ∷ bytes) others → Finds Spells (b ∷ bytes) (cond (nat_eq b k) (Some (y, bytes)) others)
bare_row Spells y b k bytes others spelled more =
    found_or Spells (b ∷ bytes) (nat_eq b k) (Some (y, bytes)) others
    (λ is. tag_finds Spells b k bytes (Some (y, bytes)) (eqb-true b k is) (bare_finds (λ t y. Spells (k ∷ t) y) y spelled bytes)) (λ _. more)
