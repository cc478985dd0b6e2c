-- What a reader of vectors (section 5.1.3 of the Core Specification) read, for any reader of its items.
use Rattle.std.specs.Prelude.{◌≡◌, ◌≢◌, ℕ, ◌<◌, List, [], ◌∷◌, length, Some, None, ◌⊎◌}
use Rattle.wz_bytes.specs.Reading.{Reading}
use Rattle.wz_bytes.specs.Unsigned.{unsigned_at}

-- the reader of an item gives what a reading of lists gives, where `view` says which value its item stands for
abbrev pub ReadsBy : {Y X : Type 0} → (Y → X) → Reading X → List ℕ → Y → List ℕ → Type 0
ReadsBy view item bytes y rest = item bytes ≡ Some (view y, rest)

-- the items were read one behind the other
abbrev pub ItemsRead : {X : Type 0} → (List ℕ → X → List ℕ → Type 0) → List ℕ → List X → List ℕ → Type 0
ItemsRead Reads bytes [] rest = bytes ≡ rest
ItemsRead Reads bytes (x ∷ xs) rest = (mid : List ℕ) × Reads bytes x mid × ItemsRead Reads mid xs rest

-- their number was read, and then they
pub record VectorRead {X : Type 0} (Reads : List ℕ → X → List ℕ → Type 0) (bytes : List ℕ) (xs : List X) (rest : List ℕ) : Type 0 where
  pub items : List ℕ
  pub count : unsigned_at 32 bytes ≡ Some (length xs, items)
  pub read : ItemsRead Reads items xs rest

-- fewer than n items were read, and then none stands there
pub record ItemsBad {X : Type 0} (Reads : List ℕ → X → List ℕ → Type 0) (Bad : List ℕ → Type 0) (n : ℕ) (bytes : List ℕ) : Type 0 where
  pub read : List X
  pub rest : List ℕ
  pub fewer : length read < n
  pub good : ItemsRead Reads bytes read rest
  pub bad : Bad rest

pub record CountedBad {X : Type 0} (Reads : List ℕ → X → List ℕ → Type 0) (Bad : List ℕ → Type 0) (bytes : List ℕ) : Type 0 where
  pub n : ℕ
  pub items : List ℕ
  pub count : unsigned_at 32 bytes ≡ Some (n, items)
  pub bad : ItemsBad Reads Bad n items

-- no vector stands there: no count, or too few items behind it
abbrev pub VectorBad : {X : Type 0} → (List ℕ → X → List ℕ → Type 0) → (List ℕ → Type 0) → List ℕ → Type 0
VectorBad Reads Bad bytes = (unsigned_at 32 bytes ≡ None) ⊎ CountedBad Reads Bad bytes

-- a vector was read, and there are bytes behind it
pub record HasRest {X : Type 0} (Reads : List ℕ → X → List ℕ → Type 0) (bytes : List ℕ) : Type 0 where
  pub xs : List X
  pub rest : List ℕ
  pub read : VectorRead Reads bytes xs rest
  pub some : rest ≢ []

-- the bytes aren't one vector and nothing else
abbrev pub NotAll : {X : Type 0} → (List ℕ → X → List ℕ → Type 0) → (List ℕ → Type 0) → List ℕ → Type 0
NotAll Reads Bad bytes = VectorBad Reads Bad bytes ⊎ HasRest Reads bytes
