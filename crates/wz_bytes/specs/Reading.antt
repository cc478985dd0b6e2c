-- What a form of the binary format (section 5.1 of the Core Specification) and a reading of it have to do with each other.
use Rattle.std.specs.Prelude.{◌≡◌, ◌≢◌, ℕ, ◌≤◌, List, ◌++◌, length, Option, Some, None}

-- A form is a relation between a text, the bytes that spell a value, and the value.
abbrev pub Form : Type 0 → Type 1
Form X = List ℕ → X → Type 0

-- A reading gives the value in front of the bytes, and the bytes behind it.
abbrev pub Reading : Type 0 → Type 0
Reading X = List ℕ → Option (X × List ℕ)

-- a spelling of x stands in front of the bytes, and the rest is behind it
pub record Front {X : Type 0} (Spells : Form X) (bytes : List ℕ) (x : X) (rest : List ℕ) : Type 0 where
  pub text : List ℕ
  pub parts : bytes ≡ text ++ rest
  pub spelled : Spells text x

-- no spelling stands in front of the bytes
abbrev pub NoFront : {X : Type 0} → Form X → List ℕ → Type 0
NoFront {X = X} Spells bytes = (text rest : List ℕ) (x : X) → Spells text x → bytes ≢ text ++ rest

-- at most one value stands in front of bytes, and at most one rest is behind it
abbrev pub OneFront : {X : Type 0} → Form X → Type 0
OneFront {X = X} Spells = (a b r s : List ℕ) (x y : X) → Spells a x → Spells b y → a ++ r ≡ b ++ s → (x ≡ y) × (a ≡ b) × (r ≡ s)

-- A reading is exact for a form where it reads what the form spells, all of it and nothing else.
pub record IsExact {X : Type 0} (Spells : Form X) (read : Reading X) : Type 0 where
  pub found : (bytes : List ℕ) (x : X) (rest : List ℕ) → read bytes ≡ Some (x, rest) → Front Spells bytes x rest
  pub again : (text : List ℕ) (x : X) (rest : List ℕ) → Spells text x → read (text ++ rest) ≡ Some (x, rest)

-- texts of one length that spell one value are one text
abbrev pub OneOfEachLength : {X : Type 0} → Form X → Type 0
OneOfEachLength {X = X} Spells = (a b : List ℕ) (x : X) → Spells a x → Spells b x → length a ≡ length b → a ≡ b

-- the text spells the value, and no text that spells it is shorter
pub record IsShortest {X : Type 0} (Spells : Form X) (text : List ℕ) (x : X) : Type 0 where
  pub spelled : Spells text x
  pub least : (other : List ℕ) → Spells other x → length text ≤ length other

-- one step of a reading behind another: where the first gives nothing, both give nothing
infixl 10 ◌>>=◌
abbrev pub ◌>>=◌ : {A B : Type 0} → Option A → (A → Option B) → Option B
None >>= f = None
(Some x) >>= f = f x
