-- What holds of the spellings of numbers and names, whatever reads or writes them.
use Rattle.std.specs.Prelude.{◌≡◌, ℕ, ℤ, ◌+◌, ◌*◌, ◌^◌, ◌<◌, ◌≤◌, List, ◌++◌, length, Some, IsUtf8}
use Rattle.wz_bytes.specs.Reading.{IsExact, OneFront, OneOfEachLength, IsShortest}
use Rattle.wz_bytes.specs.Unsigned.{IsUnsigned, unsigned_at}
use Rattle.wz_bytes.specs.Signed.{IsSigned, IsSignedNumber, signed_at}
use Rattle.wz_bytes.specs.Shortest.{shortest_unsigned, shortest_signed}
use Rattle.wz_bytes.specs.Name.{IsName, name_at}

-- ---- the reading as a function gives what the bytes spell

abbrev pub UnsignedIsExact : Type 0
UnsignedIsExact = (bits : ℕ) → IsExact (λ t n. IsUnsigned bits t n) (λ bytes. unsigned_at bits bytes)

abbrev pub SignedIsExact : Type 0
SignedIsExact = (bits : ℕ) → IsExact (λ t z. IsSigned bits t z) (λ bytes. signed_at bits bytes)

abbrev pub NameIsExact : Type 0
NameIsExact = IsExact IsName name_at

-- ---- bytes have at most one number or name in front of them

abbrev pub OneUnsigned : Type 0
OneUnsigned = (bits : ℕ) → OneFront (λ t n. IsUnsigned bits t n)

abbrev pub OneSigned : Type 0
OneSigned = (bits : ℕ) → OneFront (λ t z. IsSigned bits t z)

abbrev pub OneName : Type 0
OneName = OneFront IsName

-- ---- a spelling's value lies within the width, and its length within the width's groups of seven bits

abbrev pub UnsignedIsBounded : Type 0
UnsignedIsBounded = (bits : ℕ) (text : List ℕ) (n : ℕ) → IsUnsigned bits text n → n < 2 ^ bits

abbrev pub SignedIsBounded : Type 0
SignedIsBounded = (bits : ℕ) (text : List ℕ) (z : ℤ) → 1 ≤ bits → IsSigned bits text z → IsSignedNumber bits z

abbrev pub UnsignedIsShort : Type 0
UnsignedIsShort = (bits : ℕ) (text : List ℕ) (n : ℕ) → 1 ≤ bits → IsUnsigned bits text n → 7 * length text < bits + 7

abbrev pub SignedIsShort : Type 0
SignedIsShort = (bits : ℕ) (text : List ℕ) (z : ℤ) → 1 ≤ bits → IsSigned bits text z → 7 * length text < bits + 7

-- ---- what is written spells the number, at each width that holds it, and no spelling is shorter

abbrev pub UnsignedIsShortest : Type 0
UnsignedIsShortest = (bits n : ℕ) → n < 2 ^ bits → n < 2 ^ 64 → IsShortest (λ t m. IsUnsigned bits t m) (shortest_unsigned n) n

abbrev pub SignedIsShortest : Type 0
SignedIsShortest = (bits : ℕ) (z : ℤ) → IsSignedNumber bits z → IsSignedNumber 64 z → IsShortest (λ t y. IsSigned bits t y) (shortest_signed z) z

abbrev pub NameIsSpelled : Type 0
NameIsSpelled = (name : List ℕ) → IsUtf8 name → length name < 2 ^ 32 → IsName (shortest_unsigned (length name) ++ name) name

-- ---- so it is the only spelling with the fewest bytes

abbrev pub OneUnsignedOfEachLength : Type 0
OneUnsignedOfEachLength = (bits : ℕ) → OneOfEachLength (λ t n. IsUnsigned bits t n)

abbrev pub OneSignedOfEachLength : Type 0
OneSignedOfEachLength = (bits : ℕ) → OneOfEachLength (λ t z. IsSigned bits t z)

-- ---- what is written is read again, whatever follows

abbrev pub UnsignedIsReadAgain : Type 0
UnsignedIsReadAgain = (bits n : ℕ) (rest : List ℕ) → n < 2 ^ bits → n < 2 ^ 64 → unsigned_at bits (shortest_unsigned n ++ rest) ≡ Some (n, rest)

abbrev pub SignedIsReadAgain : Type 0
SignedIsReadAgain = (bits : ℕ) (z : ℤ) (rest : List ℕ) → IsSignedNumber bits z → IsSignedNumber 64 z → signed_at bits (shortest_signed z ++ rest) ≡ Some (z, rest)

abbrev pub NameIsReadAgain : Type 0
NameIsReadAgain = (name rest : List ℕ) → IsUtf8 name → length name < 2 ^ 32 → name_at (shortest_unsigned (length name) ++ name ++ rest) ≡ Some (name, rest)
